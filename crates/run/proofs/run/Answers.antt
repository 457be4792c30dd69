-- `run::run` takes events one at a time; what is left of the run from here is what the whole run gives. Assumes nothing.
use mathlib.Core.Path.{◌≡◌, refl, ◌∙◌}
use mathlib.Core.List.{[]}
use Prim.Native.Nat.{◌+◌, ◌-◌, ◌^◌, ◌<◌}
use native.Mathlib.Omega.{arith}
use Rattle.budget.specs.Run.{calls_from, place_from}
use Rattle.budget.proofs.Counts.{allowed-left, allowed-fits}
use Rattle.run.proofs.Turns.{begins, turns-on, turns-not, all-taken, all_here, ended}
use Rattle.run.proofs.run.Goals as goal
use Rattle.run.proofs.run.Goals.{else-loop-taken-test, then-loop-taken-test+in_default}

pub loop-taken-init : goal.loop-taken-init
loop-taken-init c = begins _ _ _ _ _ _ (allowed-fits _ _ _ _ c.allowance-allowed.ensures)

-- the number of an event is at most the greater of the script's and those left
small : (c : goal.In-loop-taken) → c.difference-before.result + c.loop-taken.taken + 1 < 2 ^ 64
small c =
    let good = c.well_formed.1.0.1.1.1.1 in
    let left = allowed-left _ _ _ _ c.allowance-allowed.ensures in
    omega (arith, good.0.1, good.1.0.1, left, c.loop-taken-test.true, c.difference-before.ensures)

pub overflow_add-number : goal.overflow_add-number
overflow_add-number c = record { fits = omega (arith, small c) }

pub overflow_add-number-in-loop-taken : goal.overflow_add-number-in-loop-taken
overflow_add-number-in-loop-taken c = record { fits = small c }

pub loop-taken-preserved : goal.loop-taken-preserved
loop-taken-preserved c = turns-on _ _ _ _ _ _ _ _ _ _ _ _ c.loop-taken-test.true c.loop-taken.invariant c.in-Some.stepped _ refl c.in-Some.ensures

pub overflow_sub-rest : goal.overflow_sub-rest
overflow_sub-rest c = let h = allowed-left _ _ _ _ c.allowance-allowed.ensures in
    let t = c.loop-taken.invariant.few in
    omega arith

pub returns : goal.returns
returns c =
    let n = c.allowance-allowed.result in
    let taken = c.loop-taken.taken in
    let script = c.args.script.now in
    let at = c.loop-taken.at in
    -- nothing is left, or no event stands here
    let no_more : (calls_from (n - taken) script at ≡ []) × (place_from (n - taken) script at ≡ at) × (c.loop-taken-test.out ≡ c.loop-taken.out) =
    elim c.loop-taken-test.branch [
      | else-loop-taken-test w ↦ (all-taken n taken script at w.loop-taken-test.false, all_here n taken script at w.loop-taken-test.false, w.out-is)
      | then-loop-taken-test+in_default w ↦
          let t = turns-not _ _ _ c.loop-taken.state at c.loop-taken.out _ _ _ _ _ _ w.loop-taken-test.true _ refl w.in_default.ensures in
          (t.0, t.1, w.out-is ∙ t.2)
    ] in
    rw no_more.2
    (ended script c.args.from c.args.budget c.args.out.now c.loop-taken.out c.loop-taken.state at taken c.loop-taken.written n
    c.difference-before.result c.allowance-allowed.ensures c.difference-before.ensures c.loop-taken.invariant no_more.0 no_more.1 _ refl)
