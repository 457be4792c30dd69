use Prim.Native.Nat.{◌+◌}
use mathlib.Core.Path.{◌≡◌}
use lib.ListN.{length}
use Rattle.events.specs.Events.{event_number}
use Rattle.eventlines.specs.Named.{fields_of}
use Rattle.eventlines.proofs.Names.{number_from}
use Rattle.eventlines.proofs.event_number.Given as goal

abbrev pub invariant-loop-name : goal.invariant-loop-name
invariant-loop-name l = (number_from l.number l.w (fields_of l.names) ≡ event_number l.w) × (l.number + length (fields_of l.names) ≡ 18)

abbrev pub decreases-loop-name : goal.decreases-loop-name
decreases-loop-name l = length (fields_of l.names)
