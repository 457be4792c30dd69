-- `numerals::number` meets its contract: no digit, a zero before another, and what `digits` promises of all else. Assumes nothing.
use native.Mathlib.Omega.{arith}
use Rattle.numerals.proofs.Numbers.{number-none, number-zero, number-one, number_more}
use Rattle.numerals.proofs.number.Goals as goal

pub returns-in_default : goal.returns-in_default
returns-in_default c = let a = c.args in
    let more = number_more a.most a.t.now in
    let one = number-one a.most a.t.now in
    grind (arith, more, one)

pub returns-in-empty : goal.returns-in-empty
returns-in-empty c = number-none c.args.most c.args.t.now (omega arith)

pub returns-in-empty-2 : goal.returns-in-empty-2
returns-in-empty-2 c = let zero = number-zero c.args.most c.args.t.now in grind (arith, zero)
