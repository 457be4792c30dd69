-- The queries (state.rs: revision, phase, is_stopped, first_failure, grant_horizon, candidate, pending_publication, idle_confirmation_revision;
-- document 01: the completed frontier, the generation and "settled") and their answers on a refusal. Assumes nothing.
use Rattle.tags.specs.declared.Tag.{Tag}
use Rattle.std.specs.Prelude.{ℕ, Bool, not, cond, ◌&&◌, None, Option, Some}
use Rattle.tags.specs.Tags.{is_present}
use Rattle.rules.specs.Model.{AwaitingIdleConfirmation, Participant, State}
use Rattle.rules.specs.Walk.{find, is}
use Rattle.rules.specs.Acquisition.{is_pending}
use Rattle.rules.specs.Calls.{is_sound}

-- a query gives 27 and the answer said of a refusal (no, unknown, absent or 0), or 0 and what it asks for
pub record Asked (A : Type 0) : Type 0 where
  pub refusal : ℕ
  pub answer : A

abbrev pub ask : {A : Type 0} → A → (State → A) → State → Asked A
ask refused query s = record { refusal = cond (is_sound s) 0 27; answer = cond (is_sound s) (query s) refused }

-- "**Settled** is 1 when no publication is pending and no completion probe is out."
abbrev pub is_settled : State → Bool
is_settled s = not (is_pending s.pending_publication) && not (is_present s.completion_probe)

abbrev pub idle_confirmation_revision : State → Option ℕ
idle_confirmation_revision s = cond (is AwaitingIdleConfirmation s) (Some s.revision) None

-- "`candidate` (unknown told apart from none)": none is unknown
abbrev pub candidate_by : Option Participant → Option (Option Tag)
candidate_by None = None
candidate_by (Some p) = Some p.candidate

abbrev pub candidate_of : ℕ → State → Option (Option Tag)
candidate_of e s = candidate_by (find e s.participants)
