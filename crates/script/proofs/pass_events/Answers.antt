-- `script::pass_events` passes over so many items: what is left from here ends where all end. Assumes nothing.
use mathlib.Core.Path.{sym, ◌∙◌}
use native.Mathlib.Omega.{arith}
use Rattle.events.specs.Events.{event_of}
use Rattle.script.proofs.Turns.{exit, pass-bad, pass-turn, pass-done}
use Rattle.script.proofs.pass_events.Goals as goal

pub returns-in_err-at : goal.returns-in_err-at
returns-in_err-at c = let l = c.loop-k in
    exit _ _ c.from_residual.ensures.1 ∙ pass-bad event_of _ c.args.number l.k l.at (omega arith) _ c.in_err-at.ensures ∙ sym l.invariant

pub loop-k-preserved : goal.loop-k-preserved
loop-k-preserved c = let l = c.loop-k in
    l.invariant ∙ pass-turn event_of _ c.args.number l.k l.at (omega arith) _ c.in_ok-at.ensures

pub returns : goal.returns
returns c = let l = c.loop-k in pass-done event_of _ c.args.number l.k l.at (omega arith) ∙ sym l.invariant
