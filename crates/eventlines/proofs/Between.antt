-- The fields of a line from a place on: none at its end, and else the next one and those from where that one ends on. Assumes nothing.
use mathlib.Core.Path.{◌≡◌, refl, sym, ap, ◌∙◌}
use mathlib.Core.List.{List, [], ◌∷◌}
use Prim.Native.Nat.{ℕ, ◌+◌, ◌-◌, ◌<◌, ◌≤◌}
use native.Mathlib.Omega.{arith}
use lib.ListN.{length, take, drop, length-drop}
use lib.Seq.{drop-drop, take_all}
use borrow.Author.Tests.{lt-ltb, le-ltb}
use Rattle.numerals.specs.Numerals.{split, space}
use Rattle.numerals.specs.Told.{until}
use Rattle.numerals.proofs.Splits.{by_order, split_at, split-whole}
use Rattle.events.specs.Told.{fields_from}

pub fields-end : (line : List ℕ) (at : ℕ) → length line ≤ at → fields_from at line ≡ []
unfolding fields_from
fields-end line at h = rw (le-ltb at (length line) h)

pub fields_within : (line : List ℕ) (at : ℕ) → at < length line → fields_from at line ≡ split space (drop (at + 1) line)
unfolding fields_from
fields_within line at h = rw (lt-ltb at (length line) h)

-- a line is its first field and those from where that one ends on
pub fields-first : (line : List ℕ) (a : ℕ) → a ≡ until space line → split space line ≡ take a line ∷ fields_from a line
fields-first line a found =
    by_order (length line) a
    (λ h. rw (fields-end line a h, take_all a line h) (split-whole space line a found h))
    (λ h. rw (fields_within line a h) (split_at space line a found h))

-- the fields of what stands after a place are those of the line
fields-after : (line : List ℕ) (n e : ℕ) → n ≤ length line → fields_from e (drop n line) ≡ fields_from (n + e) line
fields-after line n e h =
    let m : n + (e + 1) ≡ n + e + 1 = omega arith in
    by_order (length line) (n + e)
    (λ g. fields-end (drop n line) e (rw length-drop (omega arith)) ∙ sym (fields-end line (n + e) g))
    (λ g. fields_within (drop n line) e (rw length-drop (omega arith))
    ∙ ap (split space) (drop-drop (e + 1) n line ∙ ap (λ (k : ℕ). drop k line) m)
    ∙ sym (fields_within line (n + e) g))

pub fields-next : (line : List ℕ) (at end : ℕ) → at < length line → end ≡ at + 1 + until space (drop (at + 1) line)
    → fields_from at line ≡ take (end - (at + 1)) (drop (at + 1) line) ∷ fields_from end line
fields-next line at end h found =
    let e = until space (drop (at + 1) line) in
    let k : end - (at + 1) ≡ e = omega arith in
    fields_within line at h ∙ fields-first (drop (at + 1) line) e refl ∙ rw (k, fields-after line (at + 1) e (omega arith), found)
