-- `table::front`: none of the places before i has reached the horizon and `greatest` is theirs, so it and the places from i on decide. Assumes nothing.
use mathlib.Core.Bool.{not}
use mathlib.Core.Path.{ap, sym, ◌∙◌}
use native.Mathlib.Omega.{arith}
use Rattle.table.proofs.Loops.{completed_at, front-start, front-reached, front-turn, front-done}
use Rattle.table.proofs.front.Goals as goal

pub loop-i-init : goal.loop-i-init
loop-i-init c = let s = c.args.state.now in front-start (completed_at s) s.count s.grant_horizon

pub returns-then-not-lags : goal.returns-then-not-lags
returns-then-not-lags c = let s = c.args.state.now in
    front-reached (completed_at s) s.count s.grant_horizon c.loop-i.i _ c.loop-i.invariant _ _ (omega arith) c.tag_at-completed.ensures c.lags.ensures
    (ap not c.if-not-lags.true) (sym c.is_absent.ensures ∙ c.if-is_absent.false)

pub loop-i-preserved : goal.loop-i-preserved
loop-i-preserved c = let s = c.args.state.now in
    front-turn (completed_at s) s.count s.grant_horizon c.loop-i.i _ c.loop-i.invariant _ _ (omega arith) c.tag_at-completed.ensures c.lags.ensures
    (ap not c.if-not-lags.false) _ c.greater_cell-greatest.ensures

pub returns : goal.returns
returns c = let s = c.args.state.now in
    front-done (completed_at s) s.count s.grant_horizon c.loop-i.i _ c.loop-i.invariant (omega arith) (sym c.is_absent.ensures ∙ c.if-is_absent.false)
