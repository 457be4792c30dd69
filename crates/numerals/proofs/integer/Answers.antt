-- `numerals::integer` meets its contract, by its first byte. Assumes nothing.
use Rattle.std.proofs.Common.{◌≡◌, ◌-◌, length, ◌∙◌, arith}
use Rattle.numerals.proofs.Splits.{part-rest}
use Rattle.numerals.proofs.Numbers.{number-none}
use Rattle.numerals.proofs.Integers.{integer-none, integer-minus, integer-plain}
use Rattle.numerals.proofs.integer.Goals as goal
use Rattle.numerals.proofs.integer.Goals.{in_default-via-then-t-lt1, in_default-via-else-t-lt1+in_default-1}

pub returns-in-45 : goal.returns-in-45
returns-in-45 c = let a = c.args in
    c.negative.ensures ∙ rw part-rest (integer-minus a.half a.t.now (omega arith) (grind arith))

pub returns-in_default : goal.returns-in_default
returns-in_default c = let a = c.args in
    let plain = integer-plain a.half a.t.now in
    elim c.in_default.branch [
      | in_default-via-then-t-lt1 w ↦
          let empty : length a.t.now ≡ 0 = grind arith in
          c.positive.ensures ∙ rw (← (number-none (a.half - 1) a.t.now empty)) (integer-none a.half a.t.now empty)
      | in_default-via-else-t-lt1+in_default-1 w ↦ c.positive.ensures ∙ plain (grind arith) (grind arith)
    ]
