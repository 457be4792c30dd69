-- `printing::put_byte` meets its contract: one byte stored is a run of one byte. Assumes nothing.
use mathlib.Core.Path.{refl}
use native.Mathlib.Omega.{arith}
use Rattle.printing.proofs.Runs.{put_one}
use Rattle.printing.proofs.put_byte.Goals as goal

pub returns : goal.returns
returns c = let a = c.args in record { after = refl; bytes = put_one a.out.now a.at a.byte (omega arith); within = omega arith }
