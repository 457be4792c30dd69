-- A tag by the parts of its text: one and two are too few, four too many, and three are read by their widths. Assumes nothing.
use Rattle.std.proofs.Common.{◌≡◌, refl, ℕ, ◌-◌, ◌^◌, List, [], ◌∷◌, true, false, Bor}
use Rattle.std.specs.Prelude.{Option, None, Some, MatchOption}
use Rattle.std.specs.Option.{is_some}
use Rattle.numerals.specs.Numerals.{split, colon, number_of, integer_of, joined, tag_of, three_numbers}
use Rattle.numerals.proofs.Splits.{split-some}

-- a text is cut at its first colon, or has none
abbrev pub Cut : List ℕ → Option (Bor (List ℕ) × Bor (List ℕ)) → Type 0
Cut t o = MatchOption o (split colon t ≡ t ∷ []) (λ p. split colon t ≡ p.0.now ∷ split colon p.1.now)

pub cut-alone : (t : List ℕ) (o : Option (Bor (List ℕ) × Bor (List ℕ))) → Cut t o → is_some o ≡ false → split colon t ≡ t ∷ []
cut-alone t None k e = k
cut-alone t (Some p) k e = cc

pub one_part : (t : List ℕ) → split colon t ≡ t ∷ [] → None ≡ tag_of t
unfolding tag_of
one_part t e = rw e

module _ (t s rest : List ℕ) (first : split colon t ≡ s ∷ split colon rest) where
  pub two_parts : split colon rest ≡ rest ∷ [] → None ≡ tag_of t
  unfolding tag_of
  two_parts e = rw (first, e)

  module _ (n m : List ℕ) (second : split colon rest ≡ n ∷ split colon m) where
    pub four_parts : (o : Option (Bor (List ℕ) × Bor (List ℕ))) → Cut m o → is_some o ≡ true → None ≡ tag_of t
    unfolding tag_of
    four_parts None k e = cc
    four_parts (Some p) k e = rw (first, second, k) (split-some (λ ps. None ≡ three_numbers (s ∷ n ∷ p.0.now ∷ ps)) colon p.1.now (λ x xs. refl))

    pub three_parts : split colon m ≡ m ∷ [] → tag_of t ≡ joined (integer_of (2 ^ 63) s) (integer_of (2 ^ 31) n) (number_of (2 ^ 64 - 1) m)
    unfolding tag_of
    three_parts e = rw (first, second, e)
