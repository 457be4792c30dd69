-- `fields::put_field` meets its contract: a space and the word. Assumes nothing.
use native.Mathlib.Omega.{arith}
use Rattle.printing.proofs.Runs.{then-more}
use Rattle.fields.proofs.put_field.Goals as goal

pub returns : goal.returns
returns c = then-more c.put_byte-word.ensures c.put_word.ensures (omega arith)
