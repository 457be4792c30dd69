use Rattle.table.specs.Flags.{Cleared}
use Rattle.table.proofs.published_without.Given as goal

abbrev pub invariant-loop-place : goal.invariant-loop-place
invariant-loop-place g l = Cleared (goal.F-post g l.leaves) l.state l.place l.flags
