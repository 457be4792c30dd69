-- `eventlines::read_event` meets its contract: the event of an `input` by what its fields name, and of every other line by its fields (Lines). Assumes nothing.
use mathlib.Core.Path.{ap, ◌∙◌}
use Rattle.std.specs.Prelude.{Some}
use Rattle.events.specs.declared.Event.TheVariants.{Input}
use Rattle.events.specs.Told.{fields_from}
use Rattle.eventlines.proofs.Lines.{input_told, input-event, line-input, line_other, event-tells}
use Rattle.eventlines.proofs.read_event.Goals as goal

pub returns-in_err-named : goal.returns-in_err-named
returns-in_err-named c = let k = c.event_number-kind in
    let f = c.find-at in
    let line = c.args.line.now in
    event-tells line c.from_residual.result _
    (c.from_residual.ensures ∙ ap input_told c.in_err-named.ensures ∙ input-event (fields_from f.result line))
    (line-input line f.result f.ensures.0 k.result k.ensures c.if-kind-eq16.true)

pub returns-then-kind-eq16 : goal.returns-then-kind-eq16
returns-then-kind-eq16 c = let k = c.event_number-kind in
    let f = c.find-at in
    let line = c.args.line.now in
    event-tells line (Some (Input c.in_ok-named.named.count)) _
    (ap input_told c.in_ok-named.ensures ∙ input-event (fields_from f.result line))
    (line-input line f.result f.ensures.0 k.result k.ensures c.if-kind-eq16.true)

pub returns : goal.returns
returns c = let k = c.event_number-kind in
    let f = c.find-at in
    let line = c.args.line.now in
    event-tells line c.with_fields.result _ c.with_fields.ensures
    (line_other line f.result f.ensures.0 k.result k.ensures c.if-kind-eq16.false)
