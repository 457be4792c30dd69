use Rattle.table.specs.Scan.{blocks_at, answered_at}
use Rattle.table.proofs.Loops.{Passed}
use Rattle.table.proofs.scan.Given as goal

abbrev pub invariant-loop-i : goal.invariant-loop-i
invariant-loop-i l = Passed (blocks_at l.state l.frontier) (answered_at l.state l.frontier l.generation) l.state.count l.i l.answered
