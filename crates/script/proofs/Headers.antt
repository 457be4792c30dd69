-- A section's first line by its spaces: without one, or with two, it tells no count, and with one it tells the number after its word. Assumes nothing.
use Rattle.std.specs.Prelude.{None}
use mathlib.Core.Path.{◌≡◌, refl, sym, ◌∙◌}
use mathlib.Core.Bool.{cond}
use mathlib.Core.List.{List, ◌∷◌}
use Prim.Native.Nat.{ℕ, ◌+◌, ◌-◌, ◌<◌, ◌≤◌}
use lib.ListN.{length, take, drop}
use Rattle.octets.specs.Runs.{same_bytes}
use Rattle.numerals.specs.Numerals.{split, space, number_of}
use Rattle.numerals.specs.Told.{until}
use Rattle.numerals.proofs.Splits.{part-rest, split-whole, split_at, split-some}
use Rattle.script.specs.Script.{counted, header_of}

module _ (word : List ℕ) (most : ℕ) (line : List ℕ) (a : ℕ) (found : a ≡ until space line) where
  pub header-one : length line ≤ a → None ≡ header_of word most line
  unfolding header_of
  header-one h = rw (split-whole space line a found h) refl

  module _ (h : a < length line) (rest : List ℕ) (is : rest ≡ take (length line - (a + 1)) (drop (a + 1) line)) (b : ℕ) (found-2 : b ≡ until space rest) where
    two : split space line ≡ take a line ∷ split space rest
    two = split_at space line a found h ∙ rw (sym (is ∙ part-rest (a + 1) line)) refl

    pub header-three : b < length rest → None ≡ header_of word most line
    unfolding header_of
    header-three k =
        rw (two, split_at space rest b found-2 k)
        (split-some (λ ps. None ≡ counted word most (take a line ∷ take b rest ∷ ps)) space (drop (b + 1) rest) (λ p ps. refl))

    pub header-two : length rest ≤ b → header_of word most line ≡ cond (same_bytes (take a line) word) (number_of most rest) None
    unfolding header_of
    header-two k = rw (two, split-whole space rest b found-2 k) refl
