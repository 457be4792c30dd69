-- How many events a run takes: one step for each, no more than lines are read, no more than are allowed; and a budget falls with every run that takes
-- some. Assumes nothing.
use mathlib.Core.Path.{◌≡◌, refl}
use mathlib.Core.Bool.{Bool, true, false, cond}
use mathlib.Core.List.{List, [], ◌∷◌}
use Prim.Native.Nat.{ℕ, zero, suc, ◌-◌, ◌*◌, ◌≤◌, ◌<◌}
use native.Mathlib.Omega.{arith}
use borrow.Author.Tests.{eqb-false}
use lib.Dec.{eqb}
use lib.ListN.{length}
use Rattle.rules.specs.Model.{Call}
use Rattle.state.specs.declared.FederateCoordinationState.{FederateCoordinationState as Held}
use Rattle.calls.specs.Called.{state_of}
use Rattle.events.specs.Events.{event_of}
use Rattle.script.specs.Lines.{Reading, Bad, Good, item}
use Rattle.budget.specs.Run.{given, step_count, calls_by, calls_from, allowance}

pub calls-few : (n : ℕ) (script : List ℕ) (at : ℕ) → length (calls_from n script at) ≤ n
unfolding calls_from
calls-few zero script at = omega arith
calls-few (suc n) script at = go (λ next. calls-few n script next) (item event_of script at)
  where
    go : ((next : ℕ) → length (calls_from n script next) ≤ n) → (r : Reading Call) → length (calls_by r (λ next. calls_from n script next)) ≤ suc n
    go less (Bad place) = omega arith
    go less (Good c next) = omega (arith, less next)

pub step_count_lem : (cs : List Call) (s : Held) → step_count cs s ≡ length cs
unfolding step_count
step_count_lem [] s = refl
step_count_lem (c ∷ cs) s = omega (arith, step_count_lem cs (state_of (given c) s))

-- ---- the allowance

module _ (budget left room n : ℕ) (e : n ≡ allowance budget left room) where
  pub allowed-left : n ≤ left
  unfolding allowance
  allowed-left = omega (arith, e)

  pub allowed-fits : 5600 * n ≤ room
  unfolding allowance
  allowed-fits = omega (arith, e)

-- ---- a budget falls with every run

pub budget-falls : (budget taken left : ℕ) → left ≡ cond (eqb taken 0) 0 (budget - taken) → 0 < budget → left < budget
budget-falls budget taken left e h = go (eqb taken 0) refl e
  where
    go : (b : Bool) → eqb taken 0 ≡ b → left ≡ cond b 0 (budget - taken) → left < budget
    go true q f = omega (arith, f)
    go false q f = omega (arith, f, eqb-false taken 0 q)
