-- Document 01, "Revise", on the small parts: all that it changes but the observations. Assumes nothing.
use Rattle.std.specs.Prelude.{false}
use Rattle.records.specs.Numbers.{next_revision}
use Rattle.state.specs.declared.Coordination.{Coordination}
use Rattle.state.specs.declared.Completion.{Completion}
use Rattle.state.specs.Cells.{absent}

-- "Revision advances by one and 2^64 - 1 goes to 0; pending publication .. idle authorization .. cleared; phase Active."
abbrev pub revised_of : Coordination → Coordination
revised_of c = record {
  revision = next_revision c.revision;
  phase = 0;
  authorized = false;
  idle_authorization = 0;
  pending = false;
  pending_revision = 0;
  pending_next_event = absent;
  pending_grant_horizon = absent;
}

-- "completion probe .. cleared"
abbrev pub unprobed_of : Completion → Completion
unprobed_of k = record k { completion_probe = absent }
