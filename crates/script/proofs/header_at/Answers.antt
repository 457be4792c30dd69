-- `script::header_at` is the item that the line at the place is. Assumes nothing.
use mathlib.Core.Path.{ap, ◌∙◌}
use Rattle.script.specs.Script.{header_of}
use Rattle.script.specs.Told.{read_of}
use Rattle.script.proofs.Items.{item-line}
use Rattle.script.proofs.header_at.Goals as goal

pub returns : goal.returns
returns c = c.item_at.ensures ∙ ap read_of (item-line _ _ _ _ (c.header.ensures ∙ ap (header_of _ _) c.line_from-line.ensures))
