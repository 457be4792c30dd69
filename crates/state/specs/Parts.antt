-- The parts of a state that a scheduler message's own rule can change, read out of it and put back. Assumes nothing.
use Rattle.std.specs.Prelude.{◌≡◌, true, false, cond, List, ◌++◌, ℕ, ◌+◌, ◌<◌, eqb, ltb, length, get_or, set, replicate, drop, None, Option, Some}
use Rattle.rules.specs.Model.{Participant}
use Rattle.state.specs.declared.FederateCoordinationState.{FederateCoordinationState as Held}
use Rattle.state.specs.declared.Coordination.{Coordination}
use Rattle.state.specs.declared.Completion.{Completion}
use Rattle.state.specs.declared.Gate.{Gate}
use Rattle.state.specs.declared.Row.{Row}
use Rattle.state.specs.declared.Parts.{Parts}
use Rattle.state.specs.Walk.{place_from}
use Rattle.state.specs.Cells.{absent, optional_of, number_if}
use Rattle.state.specs.View.{tag_at}

-- the columns are of their lengths, as those of every state that a program holds are
pub record Sized (s : Held) : Type 0 where
  pub enclaves : length s.enclaves ≡ 32
  pub published : length s.published ≡ 32
  pub observation : length s.observation ≡ 32
  pub acknowledged : length s.acknowledged ≡ 32
  pub observed : length s.completion_observed ≡ 32
  pub seconds : length s.seconds ≡ 96
  pub nanoseconds : length s.nanoseconds ≡ 96
  pub microsteps : length s.microsteps ≡ 96

-- no two of the first n places hold the same number
abbrev pub Apart : List ℕ → ℕ → Type 0
Apart es n = (i j : ℕ) → i < j → j < n → get_or es i 0 ≡ get_or es j 0 → ⊥

-- the place where enclave e stands among the participants, if it is one of them
abbrev pub placed : ℕ → ℕ → Option ℕ
placed i n = cond (ltb i n) (Some i) None

abbrev pub place_in : Held → ℕ → Option ℕ
place_in s e = placed (place_from (λ j. eqb (get_or s.enclaves j 0) e) 0 s.count) s.count

-- enclave e stands at place i, and nowhere else
pub record Seated (s : Held) (e i : ℕ) : Type 0 where
  pub within : i < s.count
  pub here : eqb (get_or s.enclaves i 0) e ≡ true
  pub others : (j : ℕ) → j < s.count → (j ≡ i → ⊥) → eqb (get_or s.enclaves j 0) e ≡ false

-- ---- one participant's cells

abbrev pub row_of : Held → ℕ → Row
row_of s i = record {
  published = get_or s.published i false;
  candidate = tag_at s i;
  completed = tag_at s (32 + i);
  acknowledged = get_or s.acknowledged i false;
  completion_observed = get_or s.completion_observed i 0;
}

-- a participant with these cells
abbrev pub row_put : Row → Participant → Participant
row_put w p = record p {
  candidate = optional_of w.candidate;
  completed = optional_of w.completed;
  published = w.published;
  completion_observed = number_if w.acknowledged w.completion_observed;
}

abbrev pub parts_of : Held → ℕ → Parts
parts_of s i = record { row = row_of s i; coordination = s.coordination; completion = s.completion; failed = s.failed; first_failure = s.first_failure }

-- the state with these parts at place i, these observations and this gate
abbrev pub rebuilt : Held → ℕ → Parts → List ℕ → Gate → Held
rebuilt s i p o g = record s {
  published = set s.published i p.row.published;
  observation = o;
  acknowledged = set s.acknowledged i p.row.acknowledged;
  completion_observed = set s.completion_observed i p.row.completion_observed;
  seconds = set (set s.seconds i p.row.candidate.seconds) (32 + i) p.row.completed.seconds;
  nanoseconds = set (set s.nanoseconds i p.row.candidate.nanoseconds) (32 + i) p.row.completed.nanoseconds;
  microsteps = set (set s.microsteps i p.row.candidate.microstep) (32 + i) p.row.completed.microstep;
  coordination = p.coordination;
  completion = p.completion;
  gate = g;
  failed = p.failed;
  first_failure = p.first_failure;
}

-- the state with this row's cells at place i
abbrev pub with_row : Held → ℕ → Row → Held
with_row s i w = rebuilt s i (record { row = w; coordination = s.coordination; completion = s.completion; failed = s.failed; first_failure = s.first_failure }) s.observation s.gate

-- the phase, and "pending publication cleared"
abbrev pub without_pending : ℕ → Coordination → Coordination
without_pending phase c =
    record c { phase = phase; pending = false; pending_revision = 0; pending_next_event = absent; pending_grant_horizon = absent }

-- the observations of the first n places cleared
abbrev pub cleared : ℕ → List ℕ → List ℕ
cleared n l = replicate n 0 ++ drop n l

-- ---- one small part replaced

abbrev pub with_coordination : Coordination → Held → Held
with_coordination c s = record s { coordination = c }

abbrev pub with_completion : Completion → Held → Held
with_completion c s = record s { completion = c }

abbrev pub with_gate : Gate → Held → Held
with_gate g s = record s { gate = g }
