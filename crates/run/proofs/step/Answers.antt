-- `run::step` takes and lists the event at a place, by the line there, or nothing where there is none. Assumes nothing.
use mathlib.Core.Path.{refl, sym, ap, ◌∙◌, subst}
use mathlib.Core.Bool.{not}
use Rattle.events.specs.Events.{event_of}
use Rattle.events.specs.Told.{call_told, enclaves_of}
use Rattle.run.specs.Promises.{ListsBy}
use Rattle.run.proofs.Steps.{unended, no-event, an-event}
use Rattle.run.proofs.step.Goals as goal

pub returns-then-not-is_ended : goal.returns-then-not-is_ended
returns-then-not-is_ended c = let a = c.args in
    unended a.script.now a.at a.state a.number a.written a.out.now _ refl _ c.is_ended.ensures (ap not c.if-not-is_ended.true)

pub returns-in_err-event : goal.returns-in_err-event
returns-in_err-event c = let a = c.args in
    no-event a.script.now a.at a.state a.number a.written a.out.now _ c.from_residual.ensures
    (c.in_err-event.ensures ∙ ap event_of c.line_from-line.ensures)

pub returns : goal.returns
returns c = let a = c.args in
    let event = c.in_ok-event.event in
    let line = c.line_from-line.result.now in
    let told = c.in_ok-event.ensures in
    let names = c.enclaves-enclaves.ensures in
    an-event a.script.now a.at a.state a.number a.written a.out.now _ _ _ c.is_ended.ensures (ap not c.if-not-is_ended.false)
    _ c.place_after.ensures (call_told event (enclaves_of line)) (ap event_of (sym c.line_from-line.ensures) ∙ sym told)
    (subst (λ es. ListsBy (call_told event es) a.state a.number a.written a.out.now c.list_event-listed.new.out c.list_event-listed.result) names c.list_event-listed.ensures)
