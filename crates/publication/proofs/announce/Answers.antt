-- `publication::announce` meets its contract: both returns by Announcing, from what the readers of the columns promise. Assumes nothing.
use mathlib.Core.Path.{ap, ◌∙◌}
use Rattle.records.specs.Numbers.{phase_number}
use Rattle.publication.proofs.Announcing.{announces-not, announces-now}
use Rattle.publication.proofs.announce.Goals as goal

pub returns-then-not-all_published : goal.returns-then-not-all_published
returns-then-not-all_published c = announces-not c.args.state.now c.args.coordination _ c.all_published.ensures c.if-not-all_published.true

pub returns : goal.returns
returns c =
    announces-now c.args.state.now c.args.coordination _ c.all_published.ensures c.if-not-all_published.false _ c.least_candidate-least.ensures
    _ (c.from.ensures ∙ ap phase_number c.idle_phase.ensures)
