-- What is left of the run from here is what the whole run gives; the events that may still be taken fall.
use Prim.Native.Nat.{◌-◌}
use Rattle.run.proofs.Turns.{Left}
use Rattle.run.proofs.run.Given as goal

abbrev pub invariant-loop-taken : goal.invariant-loop-taken
invariant-loop-taken l = Left l.script l.allowed l.before l.initial.state l.initial.at l.initial.out l.out l.state l.at l.taken l.written

abbrev pub decreases-loop-taken : goal.decreases-loop-taken
decreases-loop-taken l = l.allowed - l.taken
