-- `printing::put_integer` meets its contract, by the sign: the laws of proofs/Numbers.antt. Assumes nothing.
use Rattle.std.proofs.Common.{◌≡◌, sym, ap, ◌∙◌, true, false, pos, arith}
use Rattle.std.specs.Prelude.{int_lt, unsigned_abs}
use mir.Facts.{to_z-of_z}
use Rattle.printing.proofs.Runs.{then-more, at_most}
use Rattle.printing.proofs.Numbers.{positive-text, negative-text}
use Rattle.printing.proofs.put_integer.Goals as goal

pub returns-then-z-lt0 : goal.returns-then-z-lt0
returns-then-z-lt0 c =
    let same = to_z-of_z c.ranges.z in
    let t : int_lt c.args.z (pos 0) ≡ true = rw same at c.if-z-lt0.true in
    let size : unsigned_abs c.args.z ≡ c.unsigned_abs.result = ap unsigned_abs (sym same) ∙ sym c.unsigned_abs.ensures.value in
    rw (negative-text c.args.z t, size) (then-more c.put_byte-sign.ensures c.put_decimal.ensures (omega arith))

pub returns : goal.returns
returns c =
    let same = to_z-of_z c.ranges.z in
    let t : int_lt c.args.z (pos 0) ≡ false = rw same at c.if-z-lt0.false in
    let size : unsigned_abs c.args.z ≡ c.unsigned_abs-2.result = ap unsigned_abs (sym same) ∙ sym c.unsigned_abs-2.ensures.value in
    rw (positive-text c.args.z t, size) (at_most c.put_decimal-2.ensures (omega arith))
