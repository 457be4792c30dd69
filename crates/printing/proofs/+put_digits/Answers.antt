-- `printing::put_digits` meets its contract. A number below 10 is one digit; of any other the digits of its tenth are put first, in one digit
-- less, and then its last digit. Assumes nothing.
use native.Mathlib.Omega.{arith}
use Rattle.printing.proofs.Runs.{then-more, at_most}
use Rattle.printing.proofs.Numbers.{digits-small, digits-large}
use Rattle.printing.proofs.+put_digits.Goals as goal

pub returns-then-n-lt10 : goal.returns-then-n-lt10
returns-then-n-lt10 t c = let a = c.args in rw (digits-small a.most a.n (omega arith) (omega arith)) (at_most c.put_byte.ensures (omega arith))

pub returns : goal.returns
returns t c = let a = c.args in
    rw (digits-large a.most a.n (omega arith) (omega arith)) (at_most (then-more c.put_digits-last.ensures c.put_byte-2.ensures (omega arith)) (omega arith))
