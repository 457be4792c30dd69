-- `numerals::joined` meets its contract: what is read fits its width (Integers). Assumes nothing.
use Rattle.std.proofs.Common.{◌≡◌, sym, ◌∙◌, ◌^◌, SFits, w32, w64}
use Rattle.std.specs.Prelude.{Some}
use mir.Facts.{to_z-of_z, sfits_widen}
use Rattle.numerals.specs.Numerals.{integer_of}
use Rattle.numerals.proofs.Integers.{integer-fits}
use Rattle.numerals.proofs.joined.Goals as goal

pub overflow_cast-result : goal.overflow_cast-result
overflow_cast-result c =
    let narrow = integer-fits w32 c.args.n.now c.in_ok-integer-2.field-0 (sym c.integer-2.ensures ∙ c.in_ok-integer-2.was) in
    let wide : SFits w64 c.in_ok-integer-2.field-0 = sfits_widen tt narrow in
    rw (to_z-of_z wide) narrow

pub returns : goal.returns
returns c =
    let seconds : integer_of (2 ^ 63) c.args.s.now ≡ Some c.in_ok-integer.field-0 = sym c.integer.ensures ∙ c.in_ok-integer.was in
    let nanoseconds : integer_of (2 ^ 31) c.args.n.now ≡ Some c.in_ok-integer-2.field-0 = sym c.integer-2.ensures ∙ c.in_ok-integer-2.was in
    let fits : SFits w64 c.in_ok-integer.field-0 = integer-fits w64 c.args.s.now c.in_ok-integer.field-0 seconds in
    let narrow : SFits w32 c.in_ok-integer-2.field-0 = integer-fits w32 c.args.n.now c.in_ok-integer-2.field-0 nanoseconds in
    let wide : SFits w64 c.in_ok-integer-2.field-0 = sfits_widen tt narrow in
    rw (seconds, nanoseconds, sym c.number.ensures ∙ c.in_ok-number.was, to_z-of_z fits, to_z-of_z wide, to_z-of_z narrow)
