-- A participant or a state with one field set. The one file of the rules that names every field: a new field is added to Model and here.
use Rattle.records.specs.declared.FederatePublication.{FederatePublication}
use Rattle.tags.specs.declared.Tag.{Tag}
use Rattle.std.specs.Prelude.{ℕ, Bool, List, Option}
use Rattle.rules.specs.Model.{OptionalAcquisition, OptionalInputs, CoordinationPhase, OptionalObservation, Participant, State}

abbrev pub with_candidate : Option Tag → Participant → Participant
with_candidate v p = record { index = p.index; candidate = v; completed = p.completed; published = p.published; completion_observed = p.completion_observed; observation = p.observation; granted = p.granted; started = p.started }

abbrev pub with_completed : Option Tag → Participant → Participant
with_completed v p = record { index = p.index; candidate = p.candidate; completed = v; published = p.published; completion_observed = p.completion_observed; observation = p.observation; granted = p.granted; started = p.started }

abbrev pub with_published : Bool → Participant → Participant
with_published v p = record { index = p.index; candidate = p.candidate; completed = p.completed; published = v; completion_observed = p.completion_observed; observation = p.observation; granted = p.granted; started = p.started }

abbrev pub with_completion_observed : Option ℕ → Participant → Participant
with_completion_observed v p = record { index = p.index; candidate = p.candidate; completed = p.completed; published = p.published; completion_observed = v; observation = p.observation; granted = p.granted; started = p.started }

abbrev pub with_observation : OptionalObservation → Participant → Participant
with_observation v p = record { index = p.index; candidate = p.candidate; completed = p.completed; published = p.published; completion_observed = p.completion_observed; observation = v; granted = p.granted; started = p.started }

abbrev pub with_granted : Option Tag → Participant → Participant
with_granted v p = record { index = p.index; candidate = p.candidate; completed = p.completed; published = p.published; completion_observed = p.completion_observed; observation = p.observation; granted = v; started = p.started }

abbrev pub with_started : Option Tag → Participant → Participant
with_started v p = record { index = p.index; candidate = p.candidate; completed = p.completed; published = p.published; completion_observed = p.completion_observed; observation = p.observation; granted = p.granted; started = v }

abbrev pub with_participants : List Participant → State → State
with_participants v s = record { participants = v; lifecycle = s.lifecycle; phase = s.phase; revision = s.revision; idle_authorization = s.idle_authorization; pending_publication = s.pending_publication; grant_horizon = s.grant_horizon; completed_frontier = s.completed_frontier; pending_inputs = s.pending_inputs; completion_generation = s.completion_generation; completion_probe = s.completion_probe; first_failure = s.first_failure; input_horizon = s.input_horizon; input_acquisition = s.input_acquisition }

abbrev pub with_phase : CoordinationPhase → State → State
with_phase v s = record { participants = s.participants; lifecycle = s.lifecycle; phase = v; revision = s.revision; idle_authorization = s.idle_authorization; pending_publication = s.pending_publication; grant_horizon = s.grant_horizon; completed_frontier = s.completed_frontier; pending_inputs = s.pending_inputs; completion_generation = s.completion_generation; completion_probe = s.completion_probe; first_failure = s.first_failure; input_horizon = s.input_horizon; input_acquisition = s.input_acquisition }

abbrev pub with_revision : ℕ → State → State
with_revision v s = record { participants = s.participants; lifecycle = s.lifecycle; phase = s.phase; revision = v; idle_authorization = s.idle_authorization; pending_publication = s.pending_publication; grant_horizon = s.grant_horizon; completed_frontier = s.completed_frontier; pending_inputs = s.pending_inputs; completion_generation = s.completion_generation; completion_probe = s.completion_probe; first_failure = s.first_failure; input_horizon = s.input_horizon; input_acquisition = s.input_acquisition }

abbrev pub with_idle_authorization : Option ℕ → State → State
with_idle_authorization v s = record { participants = s.participants; lifecycle = s.lifecycle; phase = s.phase; revision = s.revision; idle_authorization = v; pending_publication = s.pending_publication; grant_horizon = s.grant_horizon; completed_frontier = s.completed_frontier; pending_inputs = s.pending_inputs; completion_generation = s.completion_generation; completion_probe = s.completion_probe; first_failure = s.first_failure; input_horizon = s.input_horizon; input_acquisition = s.input_acquisition }

abbrev pub with_pending_publication : Option FederatePublication → State → State
with_pending_publication v s = record { participants = s.participants; lifecycle = s.lifecycle; phase = s.phase; revision = s.revision; idle_authorization = s.idle_authorization; pending_publication = v; grant_horizon = s.grant_horizon; completed_frontier = s.completed_frontier; pending_inputs = s.pending_inputs; completion_generation = s.completion_generation; completion_probe = s.completion_probe; first_failure = s.first_failure; input_horizon = s.input_horizon; input_acquisition = s.input_acquisition }

abbrev pub with_grant_horizon : Option Tag → State → State
with_grant_horizon v s = record { participants = s.participants; lifecycle = s.lifecycle; phase = s.phase; revision = s.revision; idle_authorization = s.idle_authorization; pending_publication = s.pending_publication; grant_horizon = v; completed_frontier = s.completed_frontier; pending_inputs = s.pending_inputs; completion_generation = s.completion_generation; completion_probe = s.completion_probe; first_failure = s.first_failure; input_horizon = s.input_horizon; input_acquisition = s.input_acquisition }

abbrev pub with_completed_frontier : Option Tag → State → State
with_completed_frontier v s = record { participants = s.participants; lifecycle = s.lifecycle; phase = s.phase; revision = s.revision; idle_authorization = s.idle_authorization; pending_publication = s.pending_publication; grant_horizon = s.grant_horizon; completed_frontier = v; pending_inputs = s.pending_inputs; completion_generation = s.completion_generation; completion_probe = s.completion_probe; first_failure = s.first_failure; input_horizon = s.input_horizon; input_acquisition = s.input_acquisition }

abbrev pub with_pending_inputs : OptionalInputs → State → State
with_pending_inputs v s = record { participants = s.participants; lifecycle = s.lifecycle; phase = s.phase; revision = s.revision; idle_authorization = s.idle_authorization; pending_publication = s.pending_publication; grant_horizon = s.grant_horizon; completed_frontier = s.completed_frontier; pending_inputs = v; completion_generation = s.completion_generation; completion_probe = s.completion_probe; first_failure = s.first_failure; input_horizon = s.input_horizon; input_acquisition = s.input_acquisition }

abbrev pub with_completion_generation : ℕ → State → State
with_completion_generation v s = record { participants = s.participants; lifecycle = s.lifecycle; phase = s.phase; revision = s.revision; idle_authorization = s.idle_authorization; pending_publication = s.pending_publication; grant_horizon = s.grant_horizon; completed_frontier = s.completed_frontier; pending_inputs = s.pending_inputs; completion_generation = v; completion_probe = s.completion_probe; first_failure = s.first_failure; input_horizon = s.input_horizon; input_acquisition = s.input_acquisition }

abbrev pub with_completion_probe : Option Tag → State → State
with_completion_probe v s = record { participants = s.participants; lifecycle = s.lifecycle; phase = s.phase; revision = s.revision; idle_authorization = s.idle_authorization; pending_publication = s.pending_publication; grant_horizon = s.grant_horizon; completed_frontier = s.completed_frontier; pending_inputs = s.pending_inputs; completion_generation = s.completion_generation; completion_probe = v; first_failure = s.first_failure; input_horizon = s.input_horizon; input_acquisition = s.input_acquisition }

abbrev pub with_first_failure : Option ℕ → State → State
with_first_failure v s = record { participants = s.participants; lifecycle = s.lifecycle; phase = s.phase; revision = s.revision; idle_authorization = s.idle_authorization; pending_publication = s.pending_publication; grant_horizon = s.grant_horizon; completed_frontier = s.completed_frontier; pending_inputs = s.pending_inputs; completion_generation = s.completion_generation; completion_probe = s.completion_probe; first_failure = v; input_horizon = s.input_horizon; input_acquisition = s.input_acquisition }

abbrev pub with_input_horizon : Option Tag → State → State
with_input_horizon v s = record { participants = s.participants; lifecycle = s.lifecycle; phase = s.phase; revision = s.revision; idle_authorization = s.idle_authorization; pending_publication = s.pending_publication; grant_horizon = s.grant_horizon; completed_frontier = s.completed_frontier; pending_inputs = s.pending_inputs; completion_generation = s.completion_generation; completion_probe = s.completion_probe; first_failure = s.first_failure; input_horizon = v; input_acquisition = s.input_acquisition }

abbrev pub with_input_acquisition : OptionalAcquisition → State → State
with_input_acquisition v s = record { participants = s.participants; lifecycle = s.lifecycle; phase = s.phase; revision = s.revision; idle_authorization = s.idle_authorization; pending_publication = s.pending_publication; grant_horizon = s.grant_horizon; completed_frontier = s.completed_frontier; pending_inputs = s.pending_inputs; completion_generation = s.completion_generation; completion_probe = s.completion_probe; first_failure = s.first_failure; input_horizon = s.input_horizon; input_acquisition = v }
