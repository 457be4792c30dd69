-- `numerals::cut` meets its contract: one part alone where there is no colon, and else the part before it and those after it. Assumes nothing.
use Rattle.std.proofs.Common.{arith}
use Rattle.numerals.specs.Numerals.{colon}
use Rattle.numerals.proofs.Splits.{part-rest, split_at, split-whole}
use Rattle.numerals.proofs.cut.Goals as goal

pub returns-then-a-t : goal.returns-then-a-t
returns-then-a-t c = rw part-rest (split_at colon c.args.t.now c.find-a.result c.find-a.ensures.0 c.if-a-t.true)

pub returns-else-a-t : goal.returns-else-a-t
returns-else-a-t c = split-whole colon c.args.t.now c.find-a.result c.find-a.ensures.0 (omega arith)
