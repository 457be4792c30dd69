-- `table::all_published` is `all_of` of the flags: those from i on are set, and one that is not ends the walk. Assumes nothing.
use mathlib.Core.Path.{sym}
use native.Mathlib.Omega.{arith}
use Rattle.table.proofs.Loops.{every-start, every_back, every-lacks}
use Rattle.table.proofs.all_published.Goals as goal

pub loop-i-init : goal.loop-i-init
loop-i-init c = every-start _ c.args.state.now.count

pub returns-then-not-state-i : goal.returns-then-not-state-i
returns-then-not-state-i c = sym (every-lacks _ c.args.state.now.count c.loop-i.i (omega arith) (omega arith) c.if-not-state-i.true)

pub loop-i-preserved : goal.loop-i-preserved
loop-i-preserved c = every_back _ c.args.state.now.count c.loop-i.i (omega arith) (omega arith) c.loop-i.invariant c.if-not-state-i.false
