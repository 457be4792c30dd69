-- `exports::federate_call` keeps what taking the event promises, in numbers. Assumes nothing.
use Rattle.exports.proofs.Numbered.{called-numbered}
use Rattle.exports.proofs.federate_call.Goals as goal

pub returns : goal.returns
returns c = rw c.reply_numbers.ensures (called-numbered _ _ c.event_of-event.ensures _ _ _ _ c.take-called.ensures)
