-- `exports::no_policy` gives the blank state of an opening of nobody. Assumes nothing.
use mathlib.Core.Path.{◌∙◌}
use Rattle.exports.proofs.Numbered.{nobody-blank}
use Rattle.exports.proofs.no_policy.Goals as goal

pub returns : goal.returns
returns c = rw (c.from.ensures, c.new-nobody.ensures.state ∙ nobody-blank _ _ _)
