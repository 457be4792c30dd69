-- `tags::lesser` is `lesser_of`: std's `min` by the derived order. Assumes nothing.
use Rattle.std.proofs.Common.{◌∙◌}
use Rattle.tags.proofs.Derived.{derived_lesser}
use Rattle.tags.proofs.lesser.Goals as goal

pub returns : goal.returns
returns c = c.min.ensures ∙ derived_lesser c.args.a c.args.b
