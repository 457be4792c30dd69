-- The state as the code holds it and as the rules speak of it. `view` reads it, `put` writes it over another, and `represents` says which
-- values hold a state of document 01: no hidden cell, so that each has one representation. The one file that names the fields of both. Assumes nothing.
use Rattle.records.specs.declared.FederatePublication.{FederatePublication}
use Rattle.std.specs.Prelude.{Bool, true, false, not, cond, ◌&&◌, List, [], ◌∷◌, ◌++◌, map, ℕ, ◌+◌, eqb, leb, length, get_or, take, drop, None, Option, Some}
use Rattle.std.specs.Option.{is_some, unwrap_or}
use Rattle.tags.specs.Tags.{◌≡ₜ◌}
use Rattle.records.specs.Numbers.{policy_number, phase_number, observation_number}
use Rattle.rules.specs.Model.{Tag, OptionalObservation, Unobserved, Observed, OptionalAcquisition, NoneStored, Stored, OptionalInputs, NoInputs, Inputs, Participant, State}
use Rattle.state.specs.declared.FederateCoordinationState.{FederateCoordinationState as Held}
use Rattle.state.specs.declared.Coordination.{Coordination}
use Rattle.state.specs.declared.Completion.{Completion}
use Rattle.state.specs.declared.Gate.{Gate}
use Rattle.state.specs.Walk.{tab, all_of}
use Rattle.state.specs.Cells.{absent, is_absent, optional_of, cell_of, is_neat, tag_in, number_if, is_zero_unless, observation_of, phase_of, policy_of, publication_if, inputs_of, stored_of}

-- ---- reading

abbrev pub tag_at : Held → ℕ → Tag
tag_at s k = tag_in s.seconds s.nanoseconds s.microsteps k

-- the participant at place j
abbrev pub row_at : Held → ℕ → Participant
row_at s j = record {
  index = get_or s.enclaves j 0;
  candidate = optional_of (tag_at s j);
  completed = optional_of (tag_at s (32 + j));
  published = get_or s.published j false;
  completion_observed = number_if (get_or s.acknowledged j false) (get_or s.completion_observed j 0);
  observation = observation_of (get_or s.observation j 0);
  granted = optional_of s.gate.granted;
  started = optional_of (tag_at s (64 + j));
}

abbrev pub rows_of : Held → List Participant
rows_of s = tab (row_at s) 0 s.count

abbrev pub view : Held → State
view s = record {
  participants = rows_of s;
  lifecycle = policy_of s.lifecycle;
  phase = phase_of s.coordination.phase;
  revision = s.coordination.revision;
  idle_authorization = number_if s.coordination.authorized s.coordination.idle_authorization;
  pending_publication = publication_if s.coordination.pending s.coordination.pending_revision s.coordination.pending_next_event s.coordination.pending_grant_horizon;
  grant_horizon = optional_of s.grant_horizon;
  completed_frontier = optional_of s.completion.completed_frontier;
  pending_inputs = inputs_of s.completion.first_input s.completion.last_input;
  completion_generation = s.completion.completion_generation;
  completion_probe = optional_of s.completion.completion_probe;
  first_failure = number_if s.failed s.first_failure;
  input_horizon = optional_of s.gate.input_horizon;
  input_acquisition = stored_of s.gate.stored_revision s.gate.stored_granted;
}

-- ---- which values hold a state of document 01

abbrev pub neat_at : Held → ℕ → Bool
neat_at s j =
    is_neat (tag_at s j) && is_neat (tag_at s (32 + j)) && is_neat (tag_at s (64 + j)) &&
    is_zero_unless (get_or s.acknowledged j false) (get_or s.completion_observed j 0) && leb (get_or s.observation j 0) 3

abbrev pub neat_coordination : Coordination → Bool
neat_coordination c =
    leb c.phase 6 && is_zero_unless c.authorized c.idle_authorization &&
    cond c.pending (is_neat c.pending_next_event && is_neat c.pending_grant_horizon)
    (eqb c.pending_revision 0 && c.pending_next_event ≡ₜ absent && c.pending_grant_horizon ≡ₜ absent)

-- both inputs are there or neither
abbrev pub neat_completion : Completion → Bool
neat_completion c =
    is_neat c.completed_frontier && is_neat c.completion_probe && is_neat c.first_input && is_neat c.last_input &&
    cond (is_absent c.first_input) (is_absent c.last_input) (not (is_absent c.last_input))

abbrev pub neat_gate : Gate → Bool
neat_gate g =
    is_neat g.input_horizon && is_neat g.granted && is_neat g.stored_granted &&
    is_zero_unless (not (is_absent g.stored_granted)) g.stored_revision

unfoldable pub represents : Held → Bool
represents s =
    all_of (neat_at s) 0 s.count && neat_coordination s.coordination && neat_completion s.completion && neat_gate s.gate &&
    is_neat s.grant_horizon && is_zero_unless s.failed s.first_failure && leb s.lifecycle 2

-- ---- writing: the participants over the first places, everything past them kept

abbrev pub over : {A : Type 0} → List A → ℕ → List A → List A
over l at vs = take at l ++ vs ++ drop (at + length vs) l

abbrev pub over_tags : {A : Type 0} → (Tag → A) → List A → List Participant → List A
over_tags part l ps =
    over
    (over (over l 0 (map (λ p. part (cell_of p.candidate)) ps)) 32 (map (λ p. part (cell_of p.completed)) ps))
    64
    (map (λ p. part (cell_of p.started)) ps)

abbrev pub observation_cell : OptionalObservation → ℕ
observation_cell Unobserved = 0
observation_cell (Observed o) = observation_number o + 1

-- one tag is granted to all: the first participant's
abbrev pub granted_of : List Participant → Option Tag
granted_of [] = None
granted_of (p ∷ ps) = p.granted

abbrev pub coordination_by : Option FederatePublication → State → Coordination
coordination_by None m = record {
  revision = m.revision;
  phase = phase_number m.phase;
  authorized = is_some m.idle_authorization;
  idle_authorization = unwrap_or m.idle_authorization 0;
  pending = false;
  pending_revision = 0;
  pending_next_event = absent;
  pending_grant_horizon = absent;
}
coordination_by (Some p) m = record {
  revision = m.revision;
  phase = phase_number m.phase;
  authorized = is_some m.idle_authorization;
  idle_authorization = unwrap_or m.idle_authorization 0;
  pending = true;
  pending_revision = p.revision;
  pending_next_event = cell_of p.next_event;
  pending_grant_horizon = cell_of p.grant_horizon;
}

abbrev pub first_of : OptionalInputs → Tag
first_of NoInputs = absent
first_of (Inputs first last) = first

abbrev pub last_of : OptionalInputs → Tag
last_of NoInputs = absent
last_of (Inputs first last) = last

abbrev pub stored_revision : OptionalAcquisition → ℕ
stored_revision NoneStored = 0
stored_revision (Stored r t) = r

abbrev pub stored_tag : OptionalAcquisition → Tag
stored_tag NoneStored = absent
stored_tag (Stored r t) = t

unfoldable pub put : Held → State → Held
put s m = record {
  count = s.count;
  enclaves = over s.enclaves 0 (map (λ p. p.index) m.participants);
  published = over s.published 0 (map (λ p. p.published) m.participants);
  observation = over s.observation 0 (map (λ p. observation_cell p.observation) m.participants);
  acknowledged = over s.acknowledged 0 (map (λ p. is_some p.completion_observed) m.participants);
  completion_observed = over s.completion_observed 0 (map (λ p. unwrap_or p.completion_observed 0) m.participants);
  seconds = over_tags (λ t. t.seconds) s.seconds m.participants;
  nanoseconds = over_tags (λ t. t.nanoseconds) s.nanoseconds m.participants;
  microsteps = over_tags (λ t. t.microstep) s.microsteps m.participants;
  coordination = coordination_by m.pending_publication m;
  completion = record {
    completed_frontier = cell_of m.completed_frontier;
    first_input = first_of m.pending_inputs;
    last_input = last_of m.pending_inputs;
    completion_generation = m.completion_generation;
    completion_probe = cell_of m.completion_probe;
  };
  gate = record {
    input_horizon = cell_of m.input_horizon;
    stored_revision = stored_revision m.input_acquisition;
    stored_granted = stored_tag m.input_acquisition;
    granted = cell_of (granted_of m.participants);
  };
  grant_horizon = cell_of m.grant_horizon;
  failed = is_some m.first_failure;
  first_failure = unwrap_or m.first_failure 0;
  lifecycle = policy_number m.lifecycle;
}
