-- `printing::put_decimal` meets its contract: 2^64 has 20 digits. Assumes nothing.
use Rattle.printing.specs.Printing.{decimal}
use Rattle.printing.proofs.put_decimal.Goals as goal

pub returns : goal.returns
unfolding decimal
returns c = c.put_digits.ensures
