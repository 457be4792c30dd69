-- The numbers of policies and observations say the same as their cases: each by its few cases. Assumes nothing.
use mathlib.Core.Path.{◌≡◌, refl}
use Prim.Native.Nat.{ℕ, zero, suc, ◌+◌, ◌≤◌}
use native.Mathlib.Omega.{arith}
use lib.Dec.{eqb}
use Rattle.records.specs.Numbers.{observation_number}
use Rattle.rules.specs.Model.{Observation, Probed, HasParked, Rechecked}
use Rattle.rules.specs.Observation.{has_observed, is_coordinated}
use Rattle.state.specs.Cells.{policy_of, observation_of}

pub observed-cell : (o : Observation) (n : ℕ) → n ≤ 3 → has_observed o (observation_of n) ≡ eqb n (observation_number o + 1)
observed-cell Probed zero h = refl
observed-cell Probed (suc zero) h = refl
observed-cell Probed (suc (suc zero)) h = refl
observed-cell Probed (suc (suc (suc zero))) h = refl
observed-cell HasParked zero h = refl
observed-cell HasParked (suc zero) h = refl
observed-cell HasParked (suc (suc zero)) h = refl
observed-cell HasParked (suc (suc (suc zero))) h = refl
observed-cell Rechecked zero h = refl
observed-cell Rechecked (suc zero) h = refl
observed-cell Rechecked (suc (suc zero)) h = refl
observed-cell Rechecked (suc (suc (suc zero))) h = refl
observed-cell o (suc (suc (suc (suc n)))) h = absurd (omega arith)

pub coordinated-numbered : (n : ℕ) → n ≤ 2 → is_coordinated (policy_of n) ≡ eqb n 2
coordinated-numbered zero h = refl
coordinated-numbered (suc zero) h = refl
coordinated-numbered (suc (suc zero)) h = refl
coordinated-numbered (suc (suc (suc n))) h = absurd (omega arith)

pub observation-bound : (o : Observation) → observation_number o ≤ 2
observation-bound Probed = omega arith
observation-bound HasParked = omega arith
observation-bound Rechecked = omega arith
