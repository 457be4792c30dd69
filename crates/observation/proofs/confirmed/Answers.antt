-- `observation::confirmed` meets its contract: by the rule's test. Assumes nothing.
use Rattle.std.proofs.Common.{refl}
use Rattle.observation.proofs.Deciding.{idle-quiet, idle-probes}
use Rattle.observation.proofs.confirmed.Goals as goal

pub returns-then-not-awaits : goal.returns-then-not-awaits
returns-then-not-awaits c = let a = c.args in λ s h e. idle-quiet s h a.c e _ a.revision _ c.awaits.ensures refl c.if-not-awaits.true

pub returns : goal.returns
returns c = let a = c.args in
    λ s h e. idle-probes s h a.c e _ a.revision _ c.awaits.ensures _ c.next-next.ensures (rw (c.without_pending.ensures, c.from-probing.ensures) refl) c.if-not-awaits.false
