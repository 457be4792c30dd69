-- The least and the greatest of optional tags that cells hold are held by a cell again, whatever the tags. By the places walked. Assumes nothing.
use Rattle.std.specs.Prelude.{None, Option, Some}
use mathlib.Core.Path.{◌≡◌, refl}
use mathlib.Core.Bool.{Bool, true, false, cond}
use Prim.Native.Nat.{ℕ, zero, suc, ◌+◌}
use lib.Dec.{T}
use Rattle.tags.specs.Tags.{◌≤ₜ◌, lesser_present, greater_present, lesser_of_both}
use Rattle.rules.specs.Model.{Tag}
use Rattle.rules.proofs.Lists.{no-at}
use Rattle.state.specs.Cells.{is_absent, optional_of, cell_of, is_neat}
use Rattle.state.specs.Walk.{least_from, greatest_from}
use Rattle.state.proofs.Rows.{neat-cell}

-- the cell of m holds m
abbrev pub Kept : Option Tag → Type 0
Kept m = optional_of (cell_of m) ≡ m

pub optional-kept : (t : Tag) → Kept (optional_of t)
optional-kept t = go (is_absent t) refl
  where
    go : (b : Bool) → is_absent t ≡ b → Kept (cond b None (Some t))
    go true e = refl
    go false e = rw e refl

either-kept : (x : Bool) (a b : Tag) → Kept (Some a) → Kept (Some b) → Kept (Some (cond x a b))
either-kept true a b p q = p
either-kept false a b p q = q

lesser-kept : (m n : Option Tag) → Kept m → Kept n → Kept (lesser_present m n)
lesser-kept None n p q = q
lesser-kept (Some a) None p q = p
lesser-kept (Some a) (Some b) p q = either-kept (a ≤ₜ b) a b p q

greater-kept : (m n : Option Tag) → Kept m → Kept n → Kept (greater_present m n)
greater-kept None n p q = q
greater-kept (Some a) None p q = p
greater-kept (Some a) (Some b) p q = either-kept (a ≤ₜ b) b a q p

pub both-kept : (m n : Option Tag) → Kept m → Kept n → Kept (lesser_of_both m n)
both-kept None n p q = refl
both-kept (Some a) None p q = refl
both-kept (Some a) (Some b) p q = either-kept (a ≤ₜ b) a b p q

pub least_kept : (f : ℕ → Tag) (k n : ℕ) → Kept (least_from (λ j. optional_of (f j)) k n)
unfolding least_from
least_kept f k zero = refl
least_kept f k (suc n) = lesser-kept (optional_of (f k)) (least_from (λ j. optional_of (f j)) (k + 1) n) (optional-kept (f k)) (least_kept f (k + 1) n)

pub greatest-kept : (f : ℕ → Tag) (k n : ℕ) → Kept (greatest_from (λ j. optional_of (f j)) k n)
unfolding greatest_from
greatest-kept f k zero = refl
greatest-kept f k (suc n) =
    greater-kept (optional_of (f k)) (greatest_from (λ j. optional_of (f j)) (k + 1) n) (optional-kept (f k)) (greatest-kept f (k + 1) n)

-- such a cell is neat
pub kept-neat : (m : Option Tag) → Kept m → T (is_neat (cell_of m))
kept-neat None h = neat-cell None tt
kept-neat (Some t) h = go (is_absent t) refl h
  where
    go : (b : Bool) → is_absent t ≡ b → cond b None (Some t) ≡ Some t → T (is_neat t)
    go true e k = no-at k
    go false e k = rw e tt
