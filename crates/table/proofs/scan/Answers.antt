-- `table::scan`: no place from i on blocks, and `answered` says whether all of them have answered; one that blocks ends the walk. Assumes nothing.
use mathlib.Core.Bool.{true, false}
use native.Mathlib.Omega.{arith}
use Rattle.table.proofs.Loops.{row-ahead, row-behind, row-blocks, scan-start, scan-blocked, scan-turn}
use Rattle.table.proofs.scan.Goals as goal

pub loop-i-init : goal.loop-i-init
loop-i-init c = scan-start _ _ c.args.state.now.count

-- the test of the tag that was read is that of the columns' cells
pub returns-then-holds_back : goal.returns-then-holds_back
returns-then-holds_back c =
    scan-blocked _ _ c.args.state.now.count c.loop-i.i (omega arith) (omega arith)
    (row-blocks (rw c.tag_at-completed.ensures at c.lags.ensures) c.if-lags.true (rw c.tag_at-candidate.ensures at c.holds_back.ensures) c.if-holds_back.true)

-- one that lags and does not hold back: whether it has observed
pub loop-i-preserved-then-not-has_observed : goal.loop-i-preserved-then-not-has_observed
loop-i-preserved-then-not-has_observed c =
    scan-turn _ _ c.args.state.now.count c.loop-i.i (omega arith) (omega arith) c.loop-i.answered false c.loop-i.invariant
    (row-behind _ _ (rw c.tag_at-completed.ensures at c.lags.ensures) false c.if-lags.true (rw c.tag_at-candidate.ensures at c.holds_back.ensures)
    c.if-holds_back.false c.has_observed.ensures c.if-not-has_observed.true)

pub loop-i-preserved-else-not-has_observed : goal.loop-i-preserved-else-not-has_observed
loop-i-preserved-else-not-has_observed c =
    scan-turn _ _ c.args.state.now.count c.loop-i.i (omega arith) (omega arith) c.loop-i.answered true c.loop-i.invariant
    (row-behind _ _ (rw c.tag_at-completed.ensures at c.lags.ensures) true c.if-lags.true (rw c.tag_at-candidate.ensures at c.holds_back.ensures)
    c.if-holds_back.false c.has_observed.ensures c.if-not-has_observed.false)

pub loop-i-preserved : goal.loop-i-preserved
loop-i-preserved c =
    scan-turn _ _ c.args.state.now.count c.loop-i.i (omega arith) (omega arith) c.loop-i.answered true c.loop-i.invariant
    (row-ahead _ _ (rw c.tag_at-completed.ensures at c.lags.ensures) c.if-lags.false)
