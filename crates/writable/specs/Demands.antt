-- What a call writes can be read back (document 01, "Action record" and refusal 28): every action of a call can be written, so that the records that the
-- call leaves in the room read as its actions. Only statements stand here; proofs/ReadBack.antt proves them, and proofs/Declared.antt that every
-- declared state is of its widths. Assumes nothing.
use Rattle.std.specs.Prelude.{ℕ, ◌*◌, ◌<◌, ◌≡◌, List, length, drop, get_or, Ok}
use Rattle.std.specs.Int.{w64}
use Rattle.std.proofs.Common.{Fits}
use Rattle.records.specs.declared.SchedulerMessage.{SchedulerMessage}
use Rattle.records.specs.declared.SchedulerMessage.TheVariants as message
use Rattle.octets.specs.Runs.{put_at}
use Rattle.actions.specs.Record.{records_of}
use Rattle.actions.specs.Reading.{read_action}
use Rattle.actions.specs.Demands.{FitsTag, FitsOptional, Writable}
use Rattle.rules.specs.Model.{CoordinationAction, Call, Given}
use Rattle.rules.specs.Calls.{facts, take_step}
use Rattle.rules.specs.Demands.{Each}
use Rattle.state.specs.declared.FederateCoordinationState.{FederateCoordinationState as Held}
use Rattle.state.specs.View.{view, tag_at}
use Rattle.calls.specs.Called.{lent, refusal_of, actions_of}

-- the cells that an action can carry are of their widths, as those of every state that a program holds are
pub record StateFits (s : Held) : Type 0 where
  pub revision : Fits w64 s.coordination.revision
  pub tags : (k : ℕ) → FitsTag (tag_at s k)
  pub horizon : FitsTag s.grant_horizon
  pub input_horizon : FitsTag s.gate.input_horizon
  pub stored_granted : FitsTag s.gate.stored_granted

-- the tags that a call gives are of their widths
abbrev pub CallFits : Call → Type 0
CallFits c = Each FitsOptional (facts c).tags

-- the same of a scheduler message, whose call gives the tag that it has
abbrev pub MessageFits : SchedulerMessage → Type 0
MessageFits (message.Active e) = Unit {0}
MessageFits (message.Publish e c) = FitsOptional c
MessageFits (message.CompleteTag e t n) = FitsTag t
MessageFits (message.CompletionObserved e g) = Unit {0}
MessageFits (message.ParticipantStopped e) = Unit {0}
MessageFits (message.Failed e) = Unit {0}

-- every action of a call, refused or not, can be written
abbrev pub ActionsAreWritable : Type 0
ActionsAreWritable = (g : Given) (s : Held) → StateFits s → CallFits g.what → Each Writable (actions_of g s)

-- the same of the step of a call that is not refused
abbrev pub StepIsWritable : Type 0
StepIsWritable =
    (room : ℕ) (c : Call) (s : Held) → 0 ≡ refusal_of (lent room c) s → StateFits s → CallFits c → Each Writable (take_step c (view s)).actions

-- in the room that a call leaves, the i-th record reads as the i-th action
abbrev pub CallReadsBack : Type 0
CallReadsBack =
    (room : List ℕ) (c : Call) (s : Held) (i : ℕ) (other : CoordinationAction) → StateFits s → CallFits c
    → i < length (actions_of (lent (length room) c) s)
    → read_action (drop (56 * i) (put_at room 0 (records_of (actions_of (lent (length room) c) s)))) ≡ Ok (get_or (actions_of (lent (length room) c) s) i other)
