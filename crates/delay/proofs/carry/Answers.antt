-- `delay::carry`: quotient and remainder of the nanoseconds keep the total, and the repaired pair's seconds are an i64, so they are in range. Assumes nothing.
use mathlib.Core.Path.{◌∙◌, ap, sym}
use lib.IntN.{pos}
use mir.Syntax.{w64}
use mir.Val.{SFits}
use Rattle.std.proofs.Common.{rules, arith}
use Rattle.std.proofs.lemmas.Int.{ints, quot-rem}
use Rattle.delay.specs.Delay.{leaves_range}
use Rattle.delay.proofs.Sum.{fits_stays}
use Rattle.delay.proofs.carry.Goals as goal

pub returns : goal.returns
returns c = λ z e.
    let r = c.repair_signs.ensures z (omega (arith, ints, e, quot-rem c.args.sum.nanoseconds (pos 1_000_000_000), c.in-Some.ensures)) in
    let f : SFits w64 c.repair_signs.result.seconds = search rules in
    (sym (ap (λ d. leaves_range d.seconds) r) ∙ fits_stays c.repair_signs.result.seconds f, r)
