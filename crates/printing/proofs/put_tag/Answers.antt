-- `printing::put_tag` meets its contract: five runs, one right after the other. Assumes nothing.
use native.Mathlib.Omega.{arith}
use mathlib.Core.Path.{◌∙◌}
use borrow.Author.Rules.{rules}
use mir.Syntax.{w32, w64}
use mir.Val.{SFits}
use mir.Facts.{to_z-of_z, sfits_widen}
use Rattle.printing.specs.Printing.{tag_text}
use Rattle.printing.proofs.Runs.{then-more}
use Rattle.printing.proofs.put_tag.Goals as goal

pub returns : goal.returns
unfolding tag_text
returns c = let t = c.args.tag in
    let s : SFits w64 t.seconds = search rules in
    let n : SFits w32 t.nanoseconds = search rules in
    let w : SFits w64 t.nanoseconds = sfits_widen tt n in
    let seconds = rw (to_z-of_z s) at c.put_integer-seconds.ensures in
    let nanoseconds = rw (c.from.ensures ∙ to_z-of_z n, to_z-of_z w) at c.put_integer-nanoseconds.ensures in
    let two = then-more seconds c.put_byte-colon.ensures (omega arith) in
    let four = then-more (then-more two nanoseconds (omega arith)) c.put_byte-second_colon.ensures (omega arith) in
    then-more four c.put_decimal.ensures (omega arith)
