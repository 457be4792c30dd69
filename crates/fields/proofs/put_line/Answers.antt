-- `fields::put_line` meets its contract: the first word, and the rest right after it. Assumes nothing.
use native.Mathlib.Omega.{arith}
use Rattle.fields.specs.Fields.{words}
use Rattle.fields.proofs.Lines.{then-line}
use Rattle.fields.proofs.put_line.Goals as goal

pub returns : goal.returns
returns c = then-line (words c.args.fields.now) c.put_text-after.ensures c.put_rest.ensures (omega arith)
