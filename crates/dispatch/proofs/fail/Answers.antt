-- `dispatch::fail` meets its contract: both returns by their laws in Halting. Assumes nothing.
use mathlib.Core.Path.{sym, ap, ◌∙◌}
use Rattle.state.specs.Parts.{without_pending}
use Rattle.dispatch.proofs.Halting.{fail-running, fail-stopped, neat-failing}
use Rattle.dispatch.proofs.fail.Goals as goal

pub returns-then-c-from-clause-step : goal.returns-then-c-from-clause-step
returns-then-c-from-clause-step c = rw c.says.ensures (λ e. fail-stopped c.args.parts (c.if-c-from.true ∙ c.from.ensures) e c.args.enclave)

pub returns : goal.returns
returns c =
    let p = c.args.parts in
    let u = c.without_pending-next.ensures ∙ ap (λ n. without_pending n p.coordination) c.from-2.ensures in
    rw (c.says-2.ensures, c.is_some.ensures, c.unwrap_or.ensures)
    (record { step = fail-running p _ u c.args.enclave (λ h. c.if-c-from.false (h ∙ sym c.from.ensures)); neat = neat-failing p _ u c.args.enclave })
