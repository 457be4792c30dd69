-- `ListsTheScript`: a run from the start takes the first calls of the script, as many as the budget allows, so its lines are the listing's. Assumes nothing.
use mathlib.Core.Path.{◌≡◌, refl, sym, ◌∙◌}
use mathlib.Core.List.{List}
use Prim.Native.Nat.{ℕ, ◌+◌, ◌-◌, min}
use native.Mathlib.Omega.{arith}
use native.Mathlib.Nat.{min-eq_left, min-eq_right}
use lib.ListN.{length, take}
use lib.Seq.{take_all}
use Rattle.numerals.proofs.Splits.{by_order}
use Rattle.rules.specs.Model.{Call}
use Rattle.budget.specs.Run.{calls_from}
use Rattle.budget.proofs.Runs.{takes-the-first}
use Rattle.session.specs.Open.{start_of}
use Rattle.session.specs.Listing.{listing_of}
use Rattle.session.specs.Demands.{ListsTheScript}

-- the first of a list, where more are asked for than it has
first_of : (budget : ℕ) (cs : List Call) → take (min budget (length cs)) cs ≡ take budget cs
first_of budget cs =
    by_order budget (length cs)
    (λ h. rw (min-eq_left h) refl)
    (λ h. let all : min budget (length cs) ≡ length cs = min-eq_right (omega arith) in rw all (take_all (length cs) cs (omega arith) ∙ sym (take_all budget cs (omega arith))))

pub lists-the-script : ListsTheScript
unfolding listing_of start_of
lists-the-script bytes s last budget short e opens =
    let n = min budget (length s.events) in
    let calls : calls_from n bytes s.events_at ≡ take budget s.events =
    takes-the-first bytes s last n e (omega arith) ∙ first_of budget s.events in
    let one : length s.events - length s.events + 1 ≡ 1 = omega arith in
    rw (short, e, opens, calls, one) refl
