-- `tags::at_or_below` is `◌≤ₜ◌`: its four tests are those of the definition, in its order. Assumes nothing.
use Rattle.std.proofs.Common.{rules}
use Rattle.tags.specs.Branches.{branches}
use Rattle.tags.specs.Tags.{◌≤ₜ◌}
use Rattle.tags.proofs.at_or_below.Goals as goal

pub returns-then-a-b : goal.returns-then-a-b
unfolding ◌≤ₜ◌
returns-then-a-b c = search (rules, branches) depth 12

pub returns-then-b-a : goal.returns-then-b-a
unfolding ◌≤ₜ◌
returns-then-b-a c = search (rules, branches) depth 12

pub returns-then-a-b-2 : goal.returns-then-a-b-2
unfolding ◌≤ₜ◌
returns-then-a-b-2 c = search (rules, branches) depth 12

pub returns-then-b-a-2 : goal.returns-then-b-a-2
unfolding ◌≤ₜ◌
returns-then-b-a-2 c = search (rules, branches) depth 12

pub returns : goal.returns
unfolding ◌≤ₜ◌
returns c = search (rules, branches) depth 12
