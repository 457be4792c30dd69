-- `soundness::is_cell` is `is_cell`: a tag without nanoseconds is proper. Assumes nothing.
use mathlib.Core.Path.{sym, ap, ◌∙◌}
use mir.Syntax.{w32}
use mir.Val.{SFits, to_z}
use mir.Facts.{to_z-of_z}
use borrow.Author.Rules.{rules}
use Rattle.soundness.proofs.Cells.{cell-none}
use Rattle.soundness.proofs.is_cell.Goals as goal

pub returns-then-t-eq0 : goal.returns-then-t-eq0
returns-then-t-eq0 c = let t = c.args.t in
    let n : SFits w32 t.nanoseconds = search rules in
    cell-none t (sym (to_z-of_z n) ∙ ap (to_z w32) c.if-t-eq0.true)
