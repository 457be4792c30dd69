-- `script::read_events` is what the events come to, one law for each way that they go. Assumes nothing.
use Rattle.std.specs.Prelude.{Err}
use mathlib.Core.Path.{ap, ◌∙◌}
use Rattle.script.proofs.Turns.{exit, good-is}
use Rattle.script.proofs.Scripts.{read-bad, events-bad, events-followed, events-counted}
use Rattle.script.proofs.read_events.Goals as goal

pub returns-in_err-events : goal.returns-in_err-events
returns-in_err-events c = exit _ _ c.from_residual.ensures.1 ∙ read-bad _ _ _ c.in_err-events.ensures

pub returns-in_err-last : goal.returns-in_err-last
returns-in_err-last c =
    exit _ _ c.from_residual-in_err-last.ensures.1 ∙ rw (good-is c.in_ok-events.ensures) (events-bad _ _ _ _ _ c.in_err-last.ensures)

pub returns-then-last-bytes : goal.returns-then-last-bytes
returns-then-last-bytes c =
    ap Err c.bad_line.ensures ∙ rw (good-is c.in_ok-events.ensures) (events-followed _ _ _ _ _ c.in_ok-last.ensures c.if-last-bytes.true)

pub returns : goal.returns
returns c = rw (good-is c.in_ok-events.ensures) (events-counted _ _ _ _ _ c.in_ok-last.ensures c.if-last-bytes.false)
