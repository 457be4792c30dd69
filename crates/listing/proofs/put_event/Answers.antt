-- `listing::put_event` meets its contract: the number, and three fields right after it. Assumes nothing.
use Rattle.std.proofs.Common.{◌∷◌, [], ◌∙◌, arith}
use Rattle.printing.proofs.Runs.{at_most}
use Rattle.fields.specs.Fields.{words}
use Rattle.fields.specs.declared.Field.TheVariants.{Number}
use Rattle.fields.proofs.Lines.{then-line}
use Rattle.listing.specs.Listing.{event_line}
use Rattle.listing.proofs.put_event.Goals as goal

pub returns : goal.returns
unfolding event_line
returns c =
    let three = words (Number c.from.result ∷ c.said.result ∷ Number c.args.actions ∷ []) in
    let put = then-line three c.put_decimal-after.ensures c.put_rest.ensures (omega (arith, c.said.ensures.room)) in
    rw (← c.said.ensures.word, ← (c.from.ensures ∙ c.refusal_number.ensures)) (at_most put (omega (arith, c.said.ensures.room)))
