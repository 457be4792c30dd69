-- `observation::stopped` meets its contract: by the phase. Assumes nothing.
use Rattle.std.proofs.Common.{refl, sym, ◌∙◌}
use Rattle.observation.proofs.Deciding.{stop-stopped, stop-running}
use Rattle.observation.proofs.stopped.Goals as goal

pub returns-then-c-from : goal.returns-then-c-from
returns-then-c-from c = λ s h e. stop-stopped s h c.args.c e _ refl (c.if-c-from.true ∙ c.from.ensures)

pub returns : goal.returns
returns c = λ s h e. stop-running s h c.args.c e _ (rw (c.without_pending.ensures, c.from-2.ensures) refl) (λ z. c.if-c-from.false (z ∙ sym c.from.ensures))
