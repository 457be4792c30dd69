-- `tags::same_optional` is the definition of its name: `==` by the derived equality. Assumes nothing.
use Rattle.std.proofs.Common.{◌∙◌}
use Rattle.tags.proofs.Derived.{derived_optional}
use Rattle.tags.proofs.same_optional.Goals as goal

pub returns : goal.returns
returns c = c.eq.ensures ∙ derived_optional c.args.m c.args.n
