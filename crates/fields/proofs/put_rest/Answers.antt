-- `fields::put_rest` meets its contract: the fields, and the line's end right after them. Assumes nothing.
use native.Mathlib.Omega.{arith}
use Rattle.fields.proofs.Lines.{then-end}
use Rattle.fields.proofs.put_rest.Goals as goal

pub returns : goal.returns
returns c = then-end c.args.fields.now c.put_fields-end.ensures c.put_byte.ensures (omega arith)
