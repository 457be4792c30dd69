-- `script::policy_at` is the item that the line at the place is. Assumes nothing.
use mathlib.Core.Path.{ap, ◌∙◌}
use Rattle.script.specs.Script.{policy_of}
use Rattle.script.specs.Told.{read_of}
use Rattle.script.proofs.Items.{item-line}
use Rattle.script.proofs.policy_at.Goals as goal

pub returns : goal.returns
returns c = c.item_at.ensures ∙ ap read_of (item-line policy_of _ _ _ (c.policy.ensures ∙ ap policy_of c.line_from-line.ensures))
