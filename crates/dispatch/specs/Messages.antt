-- Message dispatch (document 01, "message dispatch, choosing by kind number"): the call that a scheduler message is, what it names, and what the two halves
-- of a message's own rule promise. Assumes nothing.
use Rattle.std.specs.Prelude.{◌≡◌, Bool, true, false, ◌||◌, eqb, List, [], ◌∷◌, ℕ, T, None, Option, Some}
use Rattle.records.specs.declared.SchedulerMessage.{SchedulerMessage}
use Rattle.records.specs.declared.SchedulerMessage.TheVariants as message
use Rattle.rules.specs.Model.{Tag, CoordinationAction, Complete, Call, active, publish, complete, observed, stopped, failed}
use Rattle.state.specs.declared.FederateCoordinationState.{FederateCoordinationState as Held}
use Rattle.state.specs.declared.Coordination.{Coordination}
use Rattle.state.specs.declared.Next.{Next}
use Rattle.state.specs.View.{view, neat_coordination, neat_completion}
use Rattle.state.specs.Parts.{with_coordination, with_completion, with_gate}
use Rattle.state.specs.Decides.{conclusion, said_of}
use Rattle.publication.specs.Announce.{announcement, dropped_if}
use Rattle.dispatch.specs.declared.Said.{Said}
use Rattle.dispatch.specs.declared.Said.TheVariants.{Word, Announcement, Completion as Completing}
use Rattle.dispatch.specs.declared.Concluded.{Concluded}

abbrev pub call_of : SchedulerMessage → Call
call_of (message.Active e) = active e
call_of (message.Publish e c) = publish e c
call_of (message.CompleteTag e t n) = complete e t n
call_of (message.CompletionObserved e g) = observed e g
call_of (message.ParticipantStopped e) = stopped e
call_of (message.Failed e) = failed e

-- the enclave that a message names, if any
abbrev pub enclave_of : SchedulerMessage → Option ℕ
enclave_of (message.Active e) = Some e
enclave_of (message.Publish e c) = Some e
enclave_of (message.CompleteTag e t n) = Some e
enclave_of (message.CompletionObserved e g) = Some e
enclave_of (message.ParticipantStopped e) = Some e
enclave_of (message.Failed e) = e

-- e is the enclave that is named, or nobody is
abbrev pub Names : Option ℕ → ℕ → Type 0
Names None e = Unit {0}
Names (Some x) e = x ≡ e

abbrev pub tag_of : SchedulerMessage → Option Tag
tag_of (message.Active e) = None
tag_of (message.Publish e c) = c
tag_of (message.CompleteTag e t n) = Some t
tag_of (message.CompletionObserved e g) = None
tag_of (message.ParticipantStopped e) = None
tag_of (message.Failed e) = None

-- CompleteTag and CompletionObserved, which leave publication, stop and failure alone
abbrev pub about_completion : SchedulerMessage → Bool
about_completion (message.Active e) = false
about_completion (message.Publish e c) = false
about_completion (message.CompleteTag e t n) = true
about_completion (message.CompletionObserved e g) = true
about_completion (message.ParticipantStopped e) = false
about_completion (message.Failed e) = false

-- the same of a message's kind number
abbrev pub kind_about_completion : ℕ → Bool
kind_about_completion k = eqb k 3 || eqb k 4

-- the actions of a message's own rule
abbrev pub actions_of : ℕ → Said → Coordination → List CoordinationAction
actions_of e (Word n) c = said_of n e c.revision
actions_of e (Announcement resume) c = announcement e resume c
actions_of e (Completing k) c = Complete k ∷ []

-- "drop the stored acquisition" comes with Publish
abbrev pub drops : Said → Bool
drops (Word n) = false
drops (Announcement resume) = true
drops (Completing k) = false

-- c concludes the own rule of enclave e's message in s
pub record Concludes (s : Held) (e : ℕ) (n : Next) (c : Concluded) : Type 0 where
  pub step : conclusion e n (view s) ≡ record { state = view (with_gate (dropped_if (drops c.said) s.gate) (with_completion c.completion (with_coordination c.coordination s))); actions = actions_of e c.said c.coordination }
  pub coordination : T (neat_coordination c.coordination)
  pub completion : T (neat_completion c.completion)
