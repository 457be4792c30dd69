-- The pending publication of the small parts, as the rules have it. Assumes nothing.
use Rattle.std.specs.Prelude.{Option}
use Rattle.records.specs.declared.FederatePublication.{FederatePublication}
use Rattle.state.specs.declared.Coordination.{Coordination}
use Rattle.state.specs.Cells.{publication_if}

abbrev pub pending_of : Coordination → Option FederatePublication
pending_of c = publication_if c.pending c.pending_revision c.pending_next_event c.pending_grant_horizon
