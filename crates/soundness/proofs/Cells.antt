-- What a cell of a tag can be: the mark of an absent tag, another tag with such nanoseconds, a proper tag, or any other. Every law on cells goes by
-- these four. Assumes nothing.
use mathlib.Core.Path.{◌≡◌, refl, ap}
use mathlib.Core.Bool.{Bool, true, false, and-false}
use lib.IntN.{ℤ, pos}
use Rattle.tags.specs.Tags.{◌≡ₜ◌, proper_time, is_proper}
use Rattle.rules.specs.Model.{Tag}
use Rattle.state.proofs.Rows.{proper-present, same_tag}
use Rattle.state.specs.Cells.{absent, is_absent, is_cell}

-- ---- properness

proper-none : (s : ℤ) → proper_time s (pos 0) ≡ true
unfolding proper_time
proper-none s = simp and-false

-- ---- how a cell is told

pub cell-none : (t : Tag) → t.nanoseconds ≡ pos 0 → true ≡ is_cell t
cell-none t e = rw (e, proper-none t.seconds) refl

-- ---- the four: absent, the mark, proper

pub data Told : Bool → Bool → Bool → Type 0 where
  mark : Told true true false
  hidden : Told true false false
  proper : Told false false true
  improper : Told false false false

pub told : (t : Tag) → Told (is_absent t) (t ≡ₜ absent) (is_proper t)
told t = go (is_absent t) (t ≡ₜ absent) (is_proper t) refl refl refl
  where
    go : (x y z : Bool) → is_absent t ≡ x → (t ≡ₜ absent) ≡ y → is_proper t ≡ z → Told x y z
    go true y true e f g = cc (proper-present t (rw g tt))
    go true true false e f g = mark
    go true false false e f g = hidden
    go false true z e f g = cc (ap is_absent (same_tag t absent (rw f tt)))
    go false false true e f g = proper
    go false false false e f g = improper
