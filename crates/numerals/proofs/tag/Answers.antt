-- `numerals::tag` meets its contract: what the parts of the text make (Tags). Assumes nothing.
use Rattle.std.proofs.Common.{sym, ◌∙◌}
use Rattle.numerals.proofs.Tags.{cut-alone, one_part, two_parts, three_parts, four_parts}
use Rattle.numerals.proofs.tag.Goals as goal

pub returns-in_err-s : goal.returns-in_err-s
returns-in_err-s c = c.from_residual.ensures ∙ one_part c.args.t.now c.in_err-s.ensures

pub returns-in_err-n : goal.returns-in_err-n
returns-in_err-n c = c.from_residual-in_err-n.ensures ∙ two_parts c.args.t.now c.in_ok-s.s.now c.in_ok-s.rest.now c.in_ok-s.ensures c.in_err-n.ensures

pub returns-then-is_some : goal.returns-then-is_some
returns-then-is_some c =
    four_parts c.args.t.now c.in_ok-s.s.now c.in_ok-s.rest.now c.in_ok-s.ensures c.in_ok-n.n.now c.in_ok-n.m.now c.in_ok-n.ensures c.cut-3.result c.cut-3.ensures
    (sym c.is_some.ensures ∙ c.if-is_some.true)

pub returns : goal.returns
returns c =
    let last = cut-alone c.in_ok-n.m.now c.cut-3.result c.cut-3.ensures (sym c.is_some.ensures ∙ c.if-is_some.false) in
    c.joined.ensures ∙ sym (three_parts c.args.t.now c.in_ok-s.s.now c.in_ok-s.rest.now c.in_ok-s.ensures c.in_ok-n.n.now c.in_ok-n.m.now c.in_ok-n.ensures last)
