-- `table::least_completed` is the cell of the fold `least_from`, taken from the last place down, if all places have a tag: one that has none ends the walk.
-- Assumes nothing.
use mathlib.Core.Path.{refl}
use Prim.Native.Nat.{◌-◌}
use native.Mathlib.Omega.{arith}
use Rattle.table.proofs.Loops.{completed_at, least, fold_start, fold-back, every-start, every_back, every-lacks, has-tag, lacks-tag}
use Rattle.table.proofs.least_completed.Goals as goal

pub loop-i-init : goal.loop-i-init
loop-i-init c = let s = c.args.state.now in record { every = every-start _ s.count; least = fold_start least (completed_at s) s.count }

pub returns-then-is_absent : goal.returns-then-is_absent
returns-then-is_absent c = let s = c.args.state.now in
    let lacks = lacks-tag (completed_at s (c.loop-i.i - 1)) c.tag_at-completed.ensures c.is_absent.ensures c.if-is_absent.true in
    rw (every-lacks _ s.count c.loop-i.i (omega arith) (omega arith) lacks) refl

pub loop-i-preserved : goal.loop-i-preserved
loop-i-preserved c = let s = c.args.state.now in
    let i = c.loop-i.invariant in
    let at = c.tag_at-completed.ensures in
    let has = has-tag (completed_at s (c.loop-i.i - 1)) at c.is_absent.ensures c.if-is_absent.false in record {
      every = every_back _ s.count c.loop-i.i (omega arith) (omega arith) i.every has;
      least = fold-back least (completed_at s) s.count c.loop-i.i _ _ _ (omega arith) (omega arith) i.least at c.lesser_cell-least.ensures;
    }
