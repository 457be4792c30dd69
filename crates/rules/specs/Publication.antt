-- Document 01, "Revise", "Active" and "Publish" (state.rs: revise_publication, activate, publish). Assumes nothing.
use Rattle.tags.specs.declared.Tag.{Tag}
use Rattle.std.specs.Prelude.{ℕ, Bool, true, false, not, cond, List, [], ◌∷◌, ◌++◌, None, Option, Some}
use Rattle.tags.specs.Tags.{same_optional}
use Rattle.records.specs.Numbers.{next_revision}
use Rattle.rules.specs.Model.{FederatePublication, NoneStored, LifecyclePolicy, KeepAlive, TerminateWhenIdle, CoordinatedTermination, CoordinationPhase, Active, Probing, Parking, Rechecking, Parked, AwaitingIdleConfirmation, Stopped, Unobserved, Participant, CoordinationAction, Publish, Probe, Park, Recheck, Resume, State, Step}
use Rattle.rules.specs.Set.{with_candidate, with_published, with_observation, with_phase, with_revision, with_idle_authorization, with_pending_publication, with_completion_probe, with_input_acquisition}
use Rattle.rules.specs.Walk.{all, least_of, find, every, only, quiet, emit, is, is_stopped}

abbrev pub forget : Participant → Participant
forget p = with_observation Unobserved p

abbrev pub unpublish : Participant → Participant
unpublish p = with_published false p

-- "Revision advances by one and 2^64 - 1 goes to 0; pending publication, completion probe, idle authorization and all observations are cleared; phase Active."
unfoldable pub revise_of : State → State
revise_of s =
    with_revision (next_revision s.revision)
    (with_pending_publication None (with_completion_probe None (with_idle_authorization None (every forget (with_phase Active s)))))

-- "Clears the probe and this enclave's published flag, even when stopped."
abbrev pub deactivated : ℕ → State → State
deactivated e s = with_completion_probe None (only e unpublish s)

abbrev pub resumed : ℕ → State → Step
resumed e s = emit (Resume e s.revision ∷ []) s

-- "If running: revise, then Resume."
unfoldable pub activate_of : ℕ → State → Step
activate_of e s = cond (is_stopped s) (quiet (deactivated e s)) (resumed e (revise_of (deactivated e s)))

-- "Unchanged and published: repeat Probe, Park or Recheck in those phases, else nothing."
abbrev pub repeated : CoordinationPhase → ℕ → List CoordinationAction
repeated Active r = []
repeated Probing r = Probe r ∷ []
repeated Parking r = Park r ∷ []
repeated Rechecking r = Recheck r ∷ []
repeated Parked r = []
repeated AwaitingIdleConfirmation r = []
repeated Stopped r = []

-- "No candidate at all: KeepAlive parks; others emit Probe, phase Probing. Else Active."
abbrev pub idle_phase : Option Tag → LifecyclePolicy → CoordinationPhase
idle_phase None KeepAlive = Parked
idle_phase None TerminateWhenIdle = Probing
idle_phase None CoordinatedTermination = Probing
idle_phase (Some t) l = Active

abbrev pub idle_probe : Option Tag → LifecyclePolicy → ℕ → List CoordinationAction
idle_probe None KeepAlive r = []
idle_probe None TerminateWhenIdle r = Probe r ∷ []
idle_probe None CoordinatedTermination r = Probe r ∷ []
idle_probe (Some t) l r = []

abbrev pub least_candidate : State → Option Tag
least_candidate s = least_of (λ p. p.candidate) s.participants

-- "Publish with the least present candidate and the horizon"
abbrev pub publication_of : State → FederatePublication
publication_of s = record { revision = s.revision; next_event = least_candidate s; grant_horizon = s.grant_horizon }

-- "emit Publish .., keep it as pending, drop the stored acquisition, then Resume if changed and the entry phase was not Active"
unfoldable pub announce : ℕ → Bool → State → Step
announce e resume s =
    emit
    (Publish (publication_of s) ∷ cond resume (Resume e s.revision ∷ []) [] ++ idle_probe (least_candidate s) s.lifecycle s.revision)
    (with_phase (idle_phase (least_candidate s) s.lifecycle) (with_input_acquisition NoneStored (with_pending_publication (Some (publication_of s)) s)))

abbrev pub all_published : State → Bool
all_published s = all (λ p. p.published) s.participants

-- "store the candidate, set published"
abbrev pub store : Option Tag → Participant → Participant
store c p = with_candidate c (with_published true p)

-- "when all are, emit Publish"
unfoldable pub enlist : ℕ → Option Tag → Bool → State → Step
enlist e c resume s =
    cond (all_published (only e (store c) s)) (announce e resume (only e (store c) s)) (quiet (only e (store c) s))

-- "A changed candidate revises. Unchanged and published: repeat .. Else (changed or not) store the candidate"
unfoldable pub publish_by : ℕ → Option Tag → State → Option Participant → Step
publish_by e c s None = quiet s
publish_by e c s (Some p) =
    cond (same_optional p.candidate c)
    (cond p.published (emit (repeated s.phase s.revision) s) (enlist e c false s))
    (enlist e c (not (is Active s)) (revise_of s))

-- "Stopped: nothing."
unfoldable pub publish_of : ℕ → Option Tag → State → Step
publish_of e c s = cond (is_stopped s) (quiet s) (publish_by e c s (find e s.participants))
