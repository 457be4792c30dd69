use Rattle.table.proofs.Loops.{completed_at, Ahead}
use Rattle.table.proofs.front.Given as goal

abbrev pub invariant-loop-i : goal.invariant-loop-i
invariant-loop-i l = Ahead (completed_at l.state) l.state.count l.horizon l.i l.greatest
