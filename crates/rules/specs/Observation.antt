-- Document 01, "Observation" with its table of verdicts, and "Idle confirmation" (state.rs: handle_observation, handle_idle_confirmation).
-- Assumes nothing.
use Rattle.std.specs.Prelude.{ℕ, ◌+◌, ◌*◌, Bool, true, false, not, cond, ◌&&◌, ◌||◌, List, [], ◌∷◌, eqb, get_or, None, Some}
use Rattle.records.specs.Numbers.{next_revision, phase_number, observation_number}
use Rattle.rules.specs.Model.{LifecyclePolicy, KeepAlive, TerminateWhenIdle, CoordinatedTermination, CoordinationPhase, Probing, Parking, Rechecking, AwaitingIdleConfirmation, Observation, Probed, HasParked, Rechecked, OptionalObservation, Unobserved, Observed, Verdict, Counts, Ignored, Refused, Participant, Probe, Park, Recheck, State, Step}
use Rattle.rules.specs.Set.{with_observation, with_phase, with_revision, with_idle_authorization, with_pending_publication}
use Rattle.rules.specs.Walk.{all, any, every, only, quiet, emit, is, is_number, outdated}
use Rattle.rules.specs.Publication.{forget}
use Rattle.rules.specs.Stop.{stop_of}

-- "a table of seven phases by three observations"; the last two rows are never looked up
--                 Probed    Parked    Rechecked
abbrev pub verdicts : List Verdict
verdicts =
    Refused ∷ Refused ∷ Refused ∷
    Counts ∷ Refused ∷ Refused ∷
    Ignored ∷ Counts ∷ Refused ∷
    Ignored ∷ Ignored ∷ Counts ∷
    Refused ∷ Refused ∷ Refused ∷
    Ignored ∷ Ignored ∷ Ignored ∷
    Ignored ∷ Ignored ∷ Ignored ∷
    []

abbrev pub verdict_of : CoordinationPhase → Observation → Verdict
verdict_of h o = get_or verdicts (phase_number h * 3 + observation_number o) Ignored

abbrev pub is_refused : Verdict → Bool
is_refused Counts = false
is_refused Ignored = false
is_refused Refused = true

-- this enclave has this observation
abbrev pub has_observed : Observation → OptionalObservation → Bool
has_observed o Unobserved = false
has_observed o (Observed q) = eqb (observation_number o) (observation_number q)

abbrev pub is_coordinated : LifecyclePolicy → Bool
is_coordinated KeepAlive = false
is_coordinated TerminateWhenIdle = false
is_coordinated CoordinatedTermination = true

-- "under CoordinatedTermination without authorization for this revision"
abbrev pub lacks_authorization : State → Bool
lacks_authorization s = is_coordinated s.lifecycle && not (is_number s.idle_authorization s.revision)

-- "Probed gives Park, phase Parking; Parked gives Recheck, phase Rechecking; Rechecked stops, or phase AwaitingIdleConfirmation"
unfoldable pub agreed : Observation → State → Step
agreed Probed s = emit (Park s.revision ∷ []) (with_phase Parking s)
agreed HasParked s = emit (Recheck s.revision ∷ []) (with_phase Rechecking s)
agreed Rechecked s = cond (lacks_authorization s) (quiet (with_phase AwaitingIdleConfirmation s)) (stop_of s)

abbrev pub observes : Observation → Participant → Participant
observes o p = with_observation (Observed o) p

abbrev pub all_observed : Observation → State → Bool
all_observed o s = all (λ p. has_observed o p.observation) s.participants

-- "Once all have this one, all are cleared"
unfoldable pub tally : Observation → State → Step
tally o s = cond (all_observed o s) (agreed o (every forget s)) (quiet s)

abbrev pub observed_already : ℕ → Observation → State → Bool
observed_already e o s = any (λ p. eqb p.index e && has_observed o p.observation) s.participants

-- "A repeat does nothing."
unfoldable pub observe_by : Verdict → ℕ → Observation → State → Step
observe_by Counts e o s = cond (observed_already e o s) (quiet s) (tally o (only e (observes o) s))
observe_by Ignored e o s = quiet s
observe_by Refused e o s = quiet s

-- "Stopped, stale or AwaitingIdleConfirmation"
abbrev pub unheard : ℕ → State → Bool
unheard r s = outdated r s || is AwaitingIdleConfirmation s

-- ".. nothing. Else the table."
unfoldable pub observation_of : ℕ → ℕ → Observation → State → Step
observation_of e r o s = cond (unheard r s) (quiet s) (observe_by (verdict_of s.phase o) e o s)

-- ---- idle confirmation

-- "pending publication cleared, authorization is the new revision, emit Probe, phase Probing; the completion probe stays"
abbrev pub probed_again : State → Step
probed_again s =
    emit (Probe s.revision ∷ []) (with_idle_authorization (Some s.revision) (with_pending_publication None (with_phase Probing s)))

-- "Only in that phase and revision"
abbrev pub awaits : ℕ → State → Bool
awaits r s = is AwaitingIdleConfirmation s && eqb r s.revision

-- "revision advances"
unfoldable pub idle_confirmation_of : ℕ → State → Step
idle_confirmation_of r s = cond (awaits r s) (probed_again (with_revision (next_revision s.revision) s)) (quiet s)
