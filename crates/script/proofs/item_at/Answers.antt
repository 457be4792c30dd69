-- `script::item_at` is the line at a place: bad if it has no LF or was read as nothing. Assumes nothing.
use Rattle.std.specs.Prelude.{Err}
use mathlib.Core.Path.{ap, sym, ◌∙◌}
use mathlib.Core.Bool.{not}
use Rattle.script.specs.Told.{read_of}
use Rattle.script.proofs.Items.{item-unended, item-none, item-good}
use Rattle.script.proofs.item_at.Goals as goal

pub returns-then-not-is_ended : goal.returns-then-not-is_ended
returns-then-not-is_ended g c = ap Err c.bad_line.ensures ∙ sym (ap read_of (item-unended _ _ _ _ c.is_ended.ensures (ap not c.if-not-is_ended.true)))

pub returns-in_default : goal.returns-in_default
returns-in_default g c = ap Err c.bad_line-in_default.ensures ∙ sym (ap read_of (item-none _ _ _ c.in_default.is))

pub returns : goal.returns
returns g c = sym (ap read_of (item-good _ _ _ _ _ _ c.is_ended.ensures (ap not c.if-not-is_ended.false) c.place_after-next.ensures c.in-Some.is))
