-- `script::pass_event` is the place of the item that the line there is: bad if it has no LF or is no event. Assumes nothing.
use Rattle.std.specs.Prelude.{Err}
use mathlib.Core.Path.{ap, sym, ◌∙◌}
use mathlib.Core.Bool.{not}
use Rattle.events.specs.Events.{event_of}
use Rattle.script.specs.Told.{passed_of}
use Rattle.script.proofs.Items.{item-unended}
use Rattle.script.proofs.Turns.{pass-told}
use Rattle.script.proofs.pass_event.Goals as goal

pub returns-then-not-is_ended : goal.returns-then-not-is_ended
returns-then-not-is_ended c =
    ap Err c.bad_line.ensures ∙ ap passed_of (sym (item-unended event_of _ _ _ c.is_ended.ensures (ap not c.if-not-is_ended.true)))

pub returns : goal.returns
returns c =
    c.ok_or.ensures.value ∙ rw (c.then_some.ensures, c.bad_line-2.ensures)
    (pass-told _ _ _ c.line_from-line.ensures _ c.is_event.ensures _ _ c.is_ended.ensures (ap not c.if-not-is_ended.false) c.place_after-next.ensures)
