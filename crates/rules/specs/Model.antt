-- The state that document 01's rules speak of, the calls by their words in a script, and what a call gives. Assumes nothing.
use Rattle.std.specs.Prelude.{ℕ, Bool, List, Option}
-- the declared types, passed on: every other file takes them from here
pub use Rattle.tags.specs.declared.Tag.{Tag}
pub use Rattle.records.specs.declared.FederatePublication.{FederatePublication}
pub use Rattle.records.specs.declared.LifecyclePolicy.{LifecyclePolicy}
pub use Rattle.records.specs.declared.LifecyclePolicy.TheVariants.{KeepAlive, TerminateWhenIdle, CoordinatedTermination}
pub use Rattle.records.specs.declared.CoordinationPhase.{CoordinationPhase}
pub use Rattle.records.specs.declared.CoordinationPhase.TheVariants.{Active, Probing, Parking, Rechecking, Parked, AwaitingIdleConfirmation, Stopped}
-- the observation Parked is `HasParked` here, beside the phase
pub use Rattle.records.specs.declared.Observation.{Observation}
pub use Rattle.records.specs.declared.Observation.TheVariants.{Probed, Parked as HasParked, Rechecked}
pub use Rattle.records.specs.declared.Verdict.{Verdict}
pub use Rattle.records.specs.declared.Verdict.TheVariants.{Counts, Ignored, Refused}
pub use Rattle.records.specs.declared.CoordinationAction.{CoordinationAction}
pub use Rattle.records.specs.declared.CoordinationAction.TheVariants.{Publish, AdvanceHorizon, Grant, Complete, CompletionProbe, Probe, Park, Recheck, Resume, Stop, Abort}

-- a phase acknowledgement, where one is kept
pub data OptionalObservation : Type 0 where
  Unobserved : OptionalObservation
  Observed : Observation → OptionalObservation

-- the stored acquisition, its revision and its tag
pub data OptionalAcquisition : Type 0 where
  NoneStored : OptionalAcquisition
  Stored : ℕ → Tag → OptionalAcquisition

-- the pending pair of network inputs: first and last
pub data OptionalInputs : Type 0 where
  NoInputs : OptionalInputs
  Inputs : Tag → Tag → OptionalInputs

-- ParticipantState, with its index
pub record Participant : Type 0 where
  pub index : ℕ
  pub candidate : Option Tag
  pub completed : Option Tag
  pub published : Bool
  pub completion_observed : Option ℕ
  pub observation : OptionalObservation
  pub granted : Option Tag
  pub started : Option Tag

-- FederateCoordinationState; the participants by ascending index
pub record State : Type 0 where
  pub participants : List Participant
  pub lifecycle : LifecyclePolicy
  pub phase : CoordinationPhase
  pub revision : ℕ
  pub idle_authorization : Option ℕ
  pub pending_publication : Option FederatePublication
  pub grant_horizon : Option Tag
  pub completed_frontier : Option Tag
  pub pending_inputs : OptionalInputs
  pub completion_generation : ℕ
  pub completion_probe : Option Tag
  pub first_failure : Option ℕ
  pub input_horizon : Option Tag
  pub input_acquisition : OptionalAcquisition

-- what a rule gives: the next state, and the actions in their order
pub record Step : Type 0 where
  pub state : State
  pub actions : List CoordinationAction

-- "Events": the seventeen calls
pub data Call : Type 0 where
  active stopped : ℕ → Call
  publish : ℕ → Option Tag → Call
  complete : ℕ → Tag → Bool → Call
  observed : ℕ → ℕ → Call
  failed : Option ℕ → Call
  acquire : ℕ → Tag → Call
  sent : ℕ → Option Tag → Option Tag → Call
  observe : ℕ → ℕ → Observation → Call
  idle : ℕ → Call
  stop progress : Call
  horizon : Option Tag → Call
  begin late done : ℕ → Tag → Call
  input : List ℕ → Call

-- what a call gives: 0 or the number of its refusal, its answer, and the step
pub record Result : Type 0 where
  pub refusal : ℕ
  pub answer : Option Bool
  pub step : Step

-- a call, and the bytes of room lent to it
pub record Given : Type 0 where
  pub room : ℕ
  pub what : Call
