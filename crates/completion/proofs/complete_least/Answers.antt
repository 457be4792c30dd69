-- `completion::complete_least` is `complete_all` of the least completed tag: each return by the law of Steps for the tests on its way. Assumes nothing.
use mathlib.Core.Path.{sym, ◌∙◌}
use Rattle.completion.proofs.Steps.{least-missing, least-passed, least-completes}
use Rattle.completion.proofs.Answers.{least-is, is-there}
use Rattle.completion.proofs.complete_least.Goals as goal

pub returns-in_err-least : goal.returns-in_err-least
returns-in_err-least c s whole v own = rw c.from_residual.ensures (least-missing s whole (least-is v c.least_completed.result c.least_completed.ensures ∙ sym c.in_err-least.ensures))

pub returns-then-not-lags : goal.returns-then-not-lags
returns-then-not-lags c s whole v own =
    least-passed s whole c.in_ok-least.least (least-is v c.least_completed.result c.least_completed.ensures ∙ sym c.in_ok-least.ensures)
    (rw own (sym c.lags.ensures ∙ c.if-not-lags.true))

pub returns : goal.returns
returns c s whole v own =
    rw (c.reached.ensures, ← own)
    (least-completes s whole c.in_ok-least.least (least-is v c.least_completed.result c.least_completed.ensures ∙ sym c.in_ok-least.ensures)
    (is-there c.least_completed.result c.in_ok-least.ensures) (rw own (sym c.lags.ensures ∙ c.if-not-lags.false)))
