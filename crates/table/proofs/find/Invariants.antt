use mathlib.Core.Path.{◌≡◌}
use Prim.Native.Nat.{◌-◌}
use lib.Dec.{eqb}
use lib.ListN.{get_or}
use Rattle.state.specs.Walk.{place_from}
use Rattle.table.proofs.find.Given as goal

abbrev pub invariant-loop-i : goal.invariant-loop-i
invariant-loop-i l =
    place_from (λ j. eqb (get_or l.state.enclaves j 0) l.enclave) 0 l.state.count ≡
    place_from (λ j. eqb (get_or l.state.enclaves j 0) l.enclave) l.i (l.state.count - l.i)
