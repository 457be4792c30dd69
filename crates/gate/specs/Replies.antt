-- What `input_is_late` and `input_completed` promise: the refusal, the answer and the number of actions of every call (calls, Called). The state
-- cannot change, so none comes back. Assumes nothing.
use Rattle.std.specs.Prelude.{◌≡◌, Bool, length, Option, Some}
use Rattle.records.specs.Numbers.{refusal_number}
use Rattle.records.specs.declared.Refusal.{Refusal}
use Rattle.rules.specs.Model.{Given}
use Rattle.state.specs.declared.FederateCoordinationState.{FederateCoordinationState as Held}
use Rattle.calls.specs.declared.Reply.{Reply}
use Rattle.calls.specs.Called.{refusal_of, actions_of, answer_of}

pub record Replies (g : Given) (s : Held) (r : Reply) : Type 0 where
  pub refusal : refusal_number r.refusal ≡ refusal_of g s
  pub answer : r.answer ≡ answer_of g s
  pub actions : r.actions ≡ length (actions_of g s)

-- the answer with this refusal, if any
abbrev pub answering : Option Refusal → Bool → Reply
answering n b = record { refusal = n; answer = Some b; actions = 0 }
