use Prim.Native.Nat.{◌-◌}
use mathlib.Core.Path.{◌≡◌}
use Rattle.events.specs.Events.{event_of}
use Rattle.script.specs.Lines.{items}
use Rattle.script.specs.Told.{passed_of}
use Rattle.script.proofs.pass_events.Given as goal

abbrev pub invariant-loop-k : goal.invariant-loop-k
invariant-loop-k l = passed_of (items l.number event_of l.script l.from) ≡ passed_of (items (l.number - l.k) event_of l.script l.at)
