-- `completion::observe_completion` is the first half of `observed_of`, and keeps the parts neat: each return by the law of Halves for the tests on its way.
-- Assumes nothing.
use borrow.Author.Tests.{eq-eqb, ne_eqb}
use Rattle.tags.specs.Branches.{is_true, is_false}
use Rattle.completion.proofs.Halves.{observed-neat, observed-stores, observed-outdated, observed-unasked}
use Rattle.completion.proofs.observe_completion.Goals as goal
use Rattle.completion.proofs.observe_completion.Goals.{else-not-is_absent-via-then-not-is_absent+else-generation-completion, else-not-is_absent-via-else-not-is_absent}

pub returns-then-generation-completion-clause-step : goal.returns-then-generation-completion-clause-step
returns-then-generation-completion-clause-step c e =
    let a = c.args in
    observed-stores e a.generation a.parts (is_false c.is_absent.ensures c.if-not-is_absent.true)
    (eq-eqb a.generation a.parts.completion.completion_generation c.if-generation-completion.true)

pub returns-then-generation-completion-clause-neat : goal.returns-then-generation-completion-clause-neat
returns-then-generation-completion-clause-neat c = observed-neat c.args.generation c.args.parts

pub returns-else-not-is_absent-clause-step : goal.returns-else-not-is_absent-clause-step
returns-else-not-is_absent-clause-step c e =
    elim c.else-not-is_absent.branch [
      | else-not-is_absent-via-then-not-is_absent+else-generation-completion w ↦
          observed-outdated e _ _ (is_false c.is_absent.ensures w.if-not-is_absent.true) (ne_eqb _ _ w.if-generation-completion.false)
      | else-not-is_absent-via-else-not-is_absent w ↦ observed-unasked e _ _ (is_true c.is_absent.ensures w.if-not-is_absent.false)
    ]
