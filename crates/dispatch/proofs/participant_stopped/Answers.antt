-- `dispatch::participant_stopped` meets its contract: both returns by their laws in Halting. Assumes nothing.
use mathlib.Core.Path.{sym, ap, ◌∙◌}
use Rattle.state.specs.Parts.{without_pending}
use Rattle.dispatch.proofs.Halting.{neat-stopping, stop-running, stop-stopped}
use Rattle.dispatch.proofs.participant_stopped.Goals as goal

pub returns-then-c-from-clause-step : goal.returns-then-c-from-clause-step
returns-then-c-from-clause-step c = rw c.says.ensures (stop-stopped c.args.parts (c.if-c-from.true ∙ c.from.ensures))

pub returns : goal.returns
returns c =
    let p = c.args.parts in
    let u = c.without_pending-next.ensures ∙ ap (λ n. without_pending n p.coordination) c.from-2.ensures in
    rw c.says-2.ensures (record { step = stop-running p _ u (λ h. c.if-c-from.false (h ∙ sym c.from.ensures)); neat = neat-stopping p _ u })
