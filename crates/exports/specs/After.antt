-- What the call that a host's numbers tell, if any, leaves: the state, the reply in numbers, every byte of the room. What tells no call is refused 11
-- and changes nothing. Assumes nothing.
use Rattle.std.specs.Prelude.{◌≡◌, List, ℕ, length, None, Option, Some}
use Rattle.octets.specs.Runs.{put_at}
use Rattle.records.specs.Numbers.{refusal_number}
use Rattle.records.specs.declared.Refusal.TheVariants.{ScriptOutOfForm}
use Rattle.actions.specs.Record.{records_of}
use Rattle.rules.specs.Model.{Call}
use Rattle.state.specs.declared.FederateCoordinationState.{FederateCoordinationState as Held}
use Rattle.calls.specs.Called.{lent, refusal_of, state_of, actions_of, answer_of}
use Rattle.plain.specs.declared.ReplyNumbers.{ReplyNumbers}
use Rattle.plain.specs.Replied.{reply_numbers}

-- with so many bytes of room
unfoldable pub state_after : Option Call → ℕ → Held → Held
state_after None room s = s
state_after (Some c) room s = state_of (lent room c) s

unfoldable pub reply_after : Option Call → ℕ → Held → ReplyNumbers
reply_after None room s = reply_numbers (refusal_number (Some ScriptOutOfForm)) None 0
reply_after (Some c) room s = reply_numbers (refusal_of (lent room c) s) (answer_of (lent room c) s) (length (actions_of (lent room c) s))

-- the records of its actions, then the bytes that were there
unfoldable pub room_after : Option Call → List ℕ → Held → List ℕ
room_after None room s = room
room_after (Some c) room s = put_at room 0 (records_of (actions_of (lent (length room) c) s))

-- from this state and room, this next state, reply and room
abbrev pub Gives : Option Call → Held → List ℕ → Held → ReplyNumbers → List ℕ → Type 0
Gives o s room next reply after =
    (next ≡ state_after o (length room) s) × (reply ≡ reply_after o (length room) s) × (after ≡ room_after o room s)
