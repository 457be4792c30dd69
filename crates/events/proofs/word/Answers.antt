-- `events::word`: the number fits 32 bits, since `numerals::number` was given the most that it may be. Assumes nothing.
use Rattle.std.proofs.Common.{arith, sym}
use Rattle.numerals.proofs.Numbers.{number-le}
use Rattle.events.proofs.word.Goals as goal

pub overflow_cast-result : goal.overflow_cast-result
overflow_cast-result c = grind (arith, number-le 4294967295 c.args.t.now c.in_ok-number.field-0 (sym c.in_ok-number.ensures))
