-- What `advance_to`, `advance_completion` and `complete_least` answer, for every state beside the one that is lent: such a state is the lent one's columns
-- with its own small parts, of which the laws of Steps speak. Assumes nothing.
use Rattle.std.specs.Prelude.{Some, None, Result}
use mathlib.Core.Path.{◌≡◌, refl, sym, subst}
use mathlib.Core.Bool.{Bool, true, false, cond}
use Prim.Native.Nat.{◌+◌}
use lib.Dec.{T}
use Rattle.records.specs.declared.Refusal.{Refusal}
use Rattle.tags.specs.Tags.{lesser_of_both}
use Rattle.rules.specs.Model.{Tag}
use Rattle.rules.specs.Walk.{is_stopped}
use Rattle.rules.specs.Completion.{front_of, least_completed}
use Rattle.state.specs.declared.FederateCoordinationState.{FederateCoordinationState as Held}
use Rattle.state.specs.declared.Completion.{Completion}
use Rattle.state.specs.Beside.{SameTags, Beside}
use Rattle.state.specs.Cells.{is_absent, optional_of, cell_of}
use Rattle.state.specs.Walk.{greatest_from}
use Rattle.state.specs.View.{tag_at, view, represents}
use Rattle.state.specs.Parts.{with_completion}
use Rattle.state.proofs.Beside.{beside, beside-by, tagged, tagged-by}
use Rattle.table.specs.declared.Scanned.TheVariants.{Blocked, Waiting, Answered}
use Rattle.completion.specs.declared.Advanced.{Advanced}
use Rattle.completion.specs.Advance.{Advances}
use Rattle.completion.proofs.Steps.{front-held, least_in, least-held}

-- ---- a state beside another

-- t's columns and these cells of completion, with all the rest of s
abbrev pub held_by : Held → Completion → Held → Held
held_by t k s = with_completion k (beside t s)

pub held-by : {s t : Held} {k : Completion} (P : Held → Type 0) → Beside s t → s.completion ≡ k → P (held_by t k s) → P s
held-by {s} {t} P v own h = beside-by v P (subst (λ (k : Completion). P (held_by t k s)) (sym own) h)

-- r is the step towards f in s, if s runs
abbrev pub Towards : Tag → Result Advanced Refusal → Held → Type 0
Towards f r s = T (represents s) → is_stopped (view s) ≡ false → front_of (view s) ≡ Some f → Advances s r

-- what the code reads of t's columns
module _ {s t : Held} (v : Beside s t) (f : Tag) where
  pub front-is : f ≡ cell_of (lesser_of_both (greatest_from (λ j. optional_of (tag_at t (32 + j))) 0 t.count) (optional_of t.grant_horizon))
      → front_of (view s) ≡ optional_of f
  front-is e = beside-by v (λ u. front_of (view u) ≡ optional_of f) (front-held (beside t s) f e)

pub least-is : {s t : Held} (v : SameTags s t) (f : Tag) → f ≡ cell_of (least_in t) → least_completed (view s).participants ≡ optional_of f
least-is {s} {t} v f e = tagged-by v (λ u. least_completed (view u).participants ≡ optional_of f) (least-held (tagged t s) f e)

-- ---- a cell that holds a tag

pub is-there : (f : Tag) {x : Tag} → Some x ≡ optional_of f → is_absent x ≡ false
is-there f {x} e = go (is_absent f) refl e
  where
    go : (b : Bool) → is_absent f ≡ b → Some x ≡ cond b None (Some f) → is_absent x ≡ false
    go true p e = cc
    go false p e = let same : x ≡ f = cc in rw same p

-- ---- what was scanned

pub scan-blocked : (a b : Bool) → Blocked ≡ cond a Blocked (cond b Answered Waiting) → a ≡ true
scan-blocked true b e = refl
scan-blocked false true e = cc
scan-blocked false false e = cc

pub scan-free : (a b x : Bool) → cond x Answered Waiting ≡ cond a Blocked (cond b Answered Waiting) → (a ≡ false) × (b ≡ x)
scan-free true b true e = cc
scan-free true b false e = cc
scan-free false true true e = (refl, refl)
scan-free false true false e = cc
scan-free false false true e = cc
scan-free false false false e = (refl, refl)
