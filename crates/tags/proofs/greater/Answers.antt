-- `tags::greater` is `greater_of`: std's `max` by the derived order. Assumes nothing.
use Rattle.std.proofs.Common.{◌∙◌}
use Rattle.tags.proofs.Derived.{derived_greater}
use Rattle.tags.proofs.greater.Goals as goal

pub returns : goal.returns
returns c = c.max.ensures ∙ derived_greater c.args.a c.args.b
