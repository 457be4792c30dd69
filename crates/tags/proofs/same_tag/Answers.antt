-- `tags::same_tag` is `◌≡ₜ◌`, which the derived equality is. Assumes nothing.
use Rattle.std.proofs.Common.{◌∙◌}
use Rattle.tags.proofs.Derived.{derived_equality}
use Rattle.tags.proofs.same_tag.Goals as goal

pub returns : goal.returns
returns c = c.eq.ensures ∙ derived_equality c.args.a c.args.b
