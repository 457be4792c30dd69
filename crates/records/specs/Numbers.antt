-- The numbers that document 01 gives to each case of the records' enums, and the next revision. Assumes nothing.
use Rattle.std.specs.Prelude.{◌≡◌, ◌≤◌, ℕ, ◌+◌, ◌%◌, ◌^◌, None, Option, Some, Result, MatchResult}
use Rattle.records.specs.declared.LifecyclePolicy.{LifecyclePolicy}
use Rattle.records.specs.declared.LifecyclePolicy.TheVariants.{KeepAlive, TerminateWhenIdle, CoordinatedTermination}
use Rattle.records.specs.declared.CoordinationPhase.{CoordinationPhase}
use Rattle.records.specs.declared.CoordinationPhase.TheVariants as phase
use Rattle.records.specs.declared.Observation.{Observation}
use Rattle.records.specs.declared.Observation.TheVariants as observation
use Rattle.records.specs.declared.SchedulerMessage.{SchedulerMessage}
use Rattle.records.specs.declared.SchedulerMessage.TheVariants as message
use Rattle.records.specs.declared.CoordinationAction.{CoordinationAction}
use Rattle.records.specs.declared.CoordinationAction.TheVariants as action
use Rattle.records.specs.declared.UnknownNumber.{UnknownNumber}
use Rattle.records.specs.declared.Verdict.{Verdict}
use Rattle.records.specs.declared.Verdict.TheVariants as verdict
use Rattle.records.specs.declared.Refusal.{Refusal}
use Rattle.records.specs.declared.Refusal.TheVariants as refusal

-- "Revision advances by one and 2^64 - 1 goes to 0"
abbrev pub next_revision : ℕ → ℕ
next_revision r = (r + 1) % 2 ^ 64

-- policies, phases and observations from 0 in the Rust's order
abbrev pub policy_number : LifecyclePolicy → ℕ
policy_number KeepAlive = 0
policy_number TerminateWhenIdle = 1
policy_number CoordinatedTermination = 2

abbrev pub phase_number : CoordinationPhase → ℕ
phase_number phase.Active = 0
phase_number phase.Probing = 1
phase_number phase.Parking = 2
phase_number phase.Rechecking = 3
phase_number phase.Parked = 4
phase_number phase.AwaitingIdleConfirmation = 5
phase_number phase.Stopped = 6

abbrev pub observation_number : Observation → ℕ
observation_number observation.Probed = 0
observation_number observation.Parked = 1
observation_number observation.Rechecked = 2

-- scheduler messages from 1 in the order of the script's events
abbrev pub message_number : SchedulerMessage → ℕ
message_number (message.Active e) = 1
message_number (message.Publish e t) = 2
message_number (message.CompleteTag e t n) = 3
message_number (message.CompletionObserved e g) = 4
message_number (message.ParticipantStopped e) = 5
message_number (message.Failed e) = 6

-- "Action record": the kinds
abbrev pub action_number : CoordinationAction → ℕ
action_number (action.Publish p) = 1
action_number (action.AdvanceHorizon t) = 2
action_number (action.Grant e t) = 3
action_number (action.Complete c) = 4
action_number (action.CompletionProbe e g) = 5
action_number (action.Probe r) = 6
action_number (action.Park r) = 7
action_number (action.Recheck r) = 8
action_number (action.Resume e r) = 9
action_number action.Stop = 10
action_number action.Abort = 11

-- "counts, ignored, refused"
abbrev pub verdict_number : Verdict → ℕ
verdict_number verdict.Counts = 0
verdict_number verdict.Ignored = 1
verdict_number verdict.Refused = 2

-- "Ceilings and refusals"
abbrev pub refusal_number : Option Refusal → ℕ
refusal_number None = 0
refusal_number (Some refusal.NoParticipants) = 1
refusal_number (Some refusal.DuplicateEnclave) = 2
refusal_number (Some refusal.UnknownEnclave) = 3
refusal_number (Some refusal.InvalidObservationTransition) = 4
refusal_number (Some refusal.TooManyParticipants) = 5
refusal_number (Some refusal.IndexTooLarge) = 6
refusal_number (Some refusal.ImproperTag) = 7
refusal_number (Some refusal.RoomTooSmall) = 8
refusal_number (Some refusal.GenerationSpent) = 9
refusal_number (Some refusal.DelayOutOfRange) = 10
refusal_number (Some refusal.ScriptOutOfForm) = 11
refusal_number (Some refusal.ScriptTooLong) = 12
refusal_number (Some refusal.UnsoundState) = 27
refusal_number (Some refusal.NoActionRecord) = 28

-- what a number is read as: the case that has it, or the number, where none of so many cases does
abbrev pub Decodes : {A : Type 0} → (A → ℕ) → ℕ → ℕ → Result A UnknownNumber → Type 0
Decodes number_of cases n r = MatchResult r (λ x. number_of x ≡ n) (λ e. (e.0 ≡ n) × (cases ≤ n))
