-- `script::settings_at` is the item `settings 3` that the line at the place is. Assumes nothing.
use mathlib.Core.Path.{ap, ◌∙◌}
use Rattle.script.specs.Script.{header_of, is_three, settings_of}
use Rattle.script.specs.Told.{read_of}
use Rattle.script.proofs.Items.{item-line}
use Rattle.script.proofs.settings_at.Goals as goal

pub returns : goal.returns
returns c = let reads = c.header.ensures ∙ ap (header_of _ _) c.line_from-line.ensures in
    c.item_at.ensures ∙ ap read_of (item-line settings_of _ _ _ (c.only_three.ensures ∙ ap is_three reads))
