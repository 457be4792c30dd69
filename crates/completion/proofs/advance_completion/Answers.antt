-- `completion::advance_completion` is `advance_of`: stopped, f missing, or the step towards f. Assumes nothing.
use mathlib.Core.Path.{sym, ◌∙◌}
use borrow.Author.Tests.{eq-eqb, ne_eqb}
use Rattle.state.proofs.Halves.{stopped-is}
use Rattle.completion.proofs.Steps.{still-stopped, still-missing}
use Rattle.completion.proofs.Answers.{front-is, is-there}
use Rattle.completion.proofs.advance_completion.Goals as goal

pub returns-then-phase-from : goal.returns-then-phase-from
returns-then-phase-from c s whole v at own =
    rw (c.still.ensures, ← own) (still-stopped s whole (stopped-is s whole ∙ rw at (eq-eqb c.args.phase 6 (c.if-phase-from.true ∙ c.from.ensures))))

pub returns-in-None : goal.returns-in-None
returns-in-None c s whole v at own =
    rw (c.still-in-None.ensures, ← own)
    (still-missing s whole (stopped-is s whole ∙ rw at (ne_eqb c.args.phase 6 (λ e. c.if-phase-from.false (e ∙ sym c.from.ensures)))) (front-is v c.front.result c.front.ensures ∙ sym c.in-None.ensures))

pub returns-in-Some : goal.returns-in-Some
returns-in-Some c s whole v at own =
    c.advance_to.ensures s whole v own (is-there c.front.result c.in-Some.ensures)
    (stopped-is s whole ∙ rw at (ne_eqb c.args.phase 6 (λ e. c.if-phase-from.false (e ∙ sym c.from.ensures)))) (front-is v c.front.result c.front.ensures ∙ sym c.in-Some.ensures)
