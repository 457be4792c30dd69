-- `numerals::negative` meets its contract: none for what is no number and for 0, and else the bits of the negative (Integers). Assumes nothing.
use Rattle.std.proofs.Common.{◌≡◌, sym, ◌∙◌, arith}
use Rattle.std.specs.Prelude.{Some}
use Rattle.numerals.specs.Numerals.{number_of}
use Rattle.numerals.proofs.Numbers.{number-le}
use Rattle.numerals.proofs.Integers.{neg_is}
use Rattle.numerals.proofs.negative.Goals as goal

pub overflow_cast-result : goal.overflow_cast-result
overflow_cast-result c = let e : number_of c.args.half c.args.t.now ≡ Some c.in_ok-k.k = sym c.number.ensures ∙ c.in_ok-k.was in
    record { sfits = omega (arith, number-le c.args.half c.args.t.now c.in_ok-k.k e) }

pub returns-in_default : goal.returns-in_default
returns-in_default c = let e : number_of c.args.half c.args.t.now ≡ Some c.in_ok-k.k = sym c.number.ensures ∙ c.in_ok-k.was in
    rw e (neg_is c.in_ok-k.k (grind arith) (omega (arith, number-le c.args.half c.args.t.now c.in_ok-k.k e)))
