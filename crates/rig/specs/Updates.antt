-- What a call on a lent state promises: all that the call by value promises, of the state that is left there and of the reply. Assumes nothing.
use Rattle.rules.specs.Model.{Given}
use Rattle.state.specs.declared.FederateCoordinationState.{FederateCoordinationState as Held}
use Rattle.calls.specs.declared.Reply.{Reply}
use Rattle.calls.specs.Called.{Promised}

-- a state that was lent, the state that is left there, and the reply
abbrev pub Updates : Given → Held → Held → Reply → Type 0
Updates g before after r = Promised g before (record { state = after; reply = r })
