-- `table::find` is `place_from` the first place on: at each turn it is to be found from i on. Assumes nothing.
use borrow.Author.Rules.{rules}
use Rattle.table.proofs.Loops.{seeks}
use Rattle.table.proofs.find.Goals as goal

pub returns-then-state-i : goal.returns-then-state-i
returns-then-state-i c = search (rules, seeks) depth 12

pub loop-i-preserved : goal.loop-i-preserved
loop-i-preserved c = search (rules, seeks) depth 12

pub returns : goal.returns
returns c = search (rules, seeks) depth 12
