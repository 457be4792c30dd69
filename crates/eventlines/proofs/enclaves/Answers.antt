-- `eventlines::enclaves` meets its contract: what the fields of an `input` name, and nothing for every other line (Lines). Assumes nothing.
use mathlib.Core.Path.{ap, ◌∙◌}
use Rattle.events.specs.Events.{input_of}
use Rattle.events.specs.Told.{fields_from}
use Rattle.eventlines.proofs.Lines.{enclaves_in, enclaves-in, enclaves-input, enclaves-other}
use Rattle.eventlines.proofs.enclaves.Goals as goal

pub returns-then-kind-ne16 : goal.returns-then-kind-ne16
returns-then-kind-ne16 c = let k = c.event_number-kind in
    let f = c.find-at in
    enclaves-other c.args.line.now f.result f.ensures.0 k.result k.ensures c.if-kind-ne16.true

pub returns-in-Some : goal.returns-in-Some
returns-in-Some c = let k = c.event_number-kind in
    let f = c.find-at in
    let line = c.args.line.now in
    ap enclaves_in c.in-Some.ensures ∙ enclaves-in (input_of (fields_from f.result line))
    ∙ enclaves-input line f.result f.ensures.0 k.result k.ensures c.if-kind-ne16.false

pub returns-in-None : goal.returns-in-None
returns-in-None c = let k = c.event_number-kind in
    let f = c.find-at in
    let line = c.args.line.now in
    ap enclaves_in c.in-None.ensures ∙ enclaves-in (input_of (fields_from f.result line))
    ∙ enclaves-input line f.result f.ensures.0 k.result k.ensures c.if-kind-ne16.false
