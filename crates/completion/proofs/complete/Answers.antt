-- `completion::complete` is the first half of `complete_tag_of`, and keeps the parts neat: each return by the law of Halves for the tests on its way. Assumes nothing.
use mathlib.Core.Path.{refl, sym, ◌∙◌}
use borrow.Author.Tests.{eq-eqb, ne_eqb}
use Rattle.tags.specs.Branches.{is_true, is_false}
use Rattle.completion.proofs.Halves.{complete-stopped, complete-passed, complete-stores, complete-neat}
use Rattle.completion.proofs.complete.Goals as goal
use Rattle.completion.proofs.complete.Goals.{then-parts-from-via-then-parts-from, then-parts-from-via-else-parts-from+then-not-lags}

pub returns-then-parts-from-clause-step : goal.returns-then-parts-from-clause-step
returns-then-parts-from-clause-step c e t =
    elim c.then-parts-from.branch [
      | then-parts-from-via-then-parts-from w ↦ complete-stopped e _ _ _ (eq-eqb _ 6 (w.if-parts-from.true ∙ c.from.ensures))
      | then-parts-from-via-else-parts-from+then-not-lags w ↦
          complete-passed e _ _ _ (ne_eqb _ 6 (λ h. w.if-parts-from.false (h ∙ sym c.from.ensures))) (is_false w.lags.ensures w.if-not-lags.true)
    ]

pub returns-then-network_input-clause-step : goal.returns-then-network_input-clause-step
returns-then-network_input-clause-step c e t =
    complete-stores e c.args.tag c.args.network_input c.args.parts c.widened-next.result (rw c.if-network_input.true c.widened-next.ensures) t
    (ne_eqb _ 6 (λ h. c.if-parts-from.false (h ∙ sym c.from.ensures))) (is_true c.lags.ensures c.if-not-lags.false)

pub returns-then-network_input-clause-neat : goal.returns-then-network_input-clause-neat
returns-then-network_input-clause-neat c =
    complete-neat c.args.tag c.args.network_input c.args.parts c.widened-next.result (rw c.if-network_input.true c.widened-next.ensures)

pub returns-else-network_input-clause-step : goal.returns-else-network_input-clause-step
returns-else-network_input-clause-step c e t =
    complete-stores e c.args.tag c.args.network_input c.args.parts c.args.parts.completion (rw c.if-network_input.false refl) t
    (ne_eqb _ 6 (λ h. c.if-parts-from.false (h ∙ sym c.from.ensures))) (is_true c.lags.ensures c.if-not-lags.false)

pub returns-else-network_input-clause-neat : goal.returns-else-network_input-clause-neat
returns-else-network_input-clause-neat c = complete-neat c.args.tag c.args.network_input c.args.parts c.args.parts.completion (rw c.if-network_input.false refl)
