-- `publication::activate` meets its contract: both returns by their laws in Activation, from what `unprobed` and `revised` promise. Assumes nothing.
use mathlib.Core.Path.{sym, ◌∙◌}
use Rattle.publication.proofs.Activation.{activate-running, activate-stopped, neat-running, neat-stopped}
use Rattle.publication.proofs.activate.Goals as goal

pub returns-then-c-from : goal.returns-then-c-from
returns-then-c-from c = let p = c.args.parts in
    let u = c.unprobed-next.ensures in
    rw c.says.ensures (record { step = activate-stopped p _ u (c.if-c-from.true ∙ c.from.ensures); neat = neat-stopped p _ u })

pub returns : goal.returns
returns c = let p = c.args.parts in
    let u = c.unprobed-next.ensures in
    let v = c.revised-next.ensures in
    record { step = activate-running p _ u _ v (λ h. c.if-c-from.false (h ∙ sym c.from.ensures)); neat = neat-running p _ u _ v }
