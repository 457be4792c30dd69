-- The budget falls with every turn, and the room keeps its length.
use Rattle.std.proofs.Common.{◌≡◌, length}
use Rattle.output.proofs.list_script.Given as goal

abbrev pub invariant-loop-budget : goal.invariant-loop-budget
invariant-loop-budget g l = length l.room ≡ length l.initial.room

abbrev pub decreases-loop-budget : goal.decreases-loop-budget
decreases-loop-budget g l = l.budget
