use Prim.Native.Nat.{◌-◌}
use Rattle.state.specs.Cells.{optional_of}
use Rattle.state.specs.View.{tag_at}
use Rattle.state.specs.Walk.{least_from}
use Rattle.table.proofs.Loops.{Means}
use Rattle.table.proofs.least_candidate.Given as goal

abbrev pub invariant-loop-i : goal.invariant-loop-i
invariant-loop-i l = Means l.least (least_from (λ j. optional_of (tag_at l.state j)) l.i (l.state.count - l.i))
