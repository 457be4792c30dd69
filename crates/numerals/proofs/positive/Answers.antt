-- `numerals::positive` meets its contract: the number that was read has the same bits. Assumes nothing.
use Rattle.std.proofs.Common.{◌≡◌, sym, ◌∙◌, arith, w64}
use Rattle.std.specs.Prelude.{Some}
use mir.Facts.{to_z_pos}
use Rattle.numerals.specs.Numerals.{number_of}
use Rattle.numerals.proofs.Numbers.{number-le}
use Rattle.numerals.proofs.positive.Goals as goal

pub overflow_cast-result : goal.overflow_cast-result
overflow_cast-result c = let e : number_of c.args.most c.args.t.now ≡ Some c.in_ok-number.field-0 = sym c.number.ensures ∙ c.in_ok-number.was in
    record { sfits = omega (arith, number-le c.args.most c.args.t.now c.in_ok-number.field-0 e) }

pub returns : goal.returns
returns c = let n = c.in_ok-number.field-0 in
    let e : number_of c.args.most c.args.t.now ≡ Some n = sym c.number.ensures ∙ c.in_ok-number.was in
    rw (to_z_pos w64 {n = n} (omega (arith, number-le c.args.most c.args.t.now n e)), e)
