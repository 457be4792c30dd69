-- `table::least_candidate` is the cell of the fold `least_from`, taken from the last place down. Assumes nothing.
use native.Mathlib.Omega.{arith}
use Rattle.state.specs.View.{tag_at}
use Rattle.table.proofs.Loops.{least, fold_start, fold-back}
use Rattle.table.proofs.least_candidate.Goals as goal

pub loop-i-init : goal.loop-i-init
loop-i-init c = let s = c.args.state.now in fold_start least (tag_at s) s.count

pub loop-i-preserved : goal.loop-i-preserved
loop-i-preserved c = let s = c.args.state.now in
    fold-back least (tag_at s) s.count c.loop-i.i _ _ _ (omega arith) (omega arith) c.loop-i.invariant c.tag_at-candidate.ensures c.lesser_cell-least.ensures
