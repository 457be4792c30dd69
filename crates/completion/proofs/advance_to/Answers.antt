-- `completion::advance_to` is `advance_of` where it runs and f is known: each return by the law of Steps for what was scanned. Assumes nothing.
use Rattle.std.specs.Prelude.{Ok}
use mathlib.Core.Path.{sym, ◌∙◌}
use mathlib.Core.Bool.{true, false}
use Rattle.completion.proofs.Steps.{to-reached, to-blocked, to-unblocked}
use Rattle.completion.proofs.Answers.{Towards, held-by, scan-blocked, scan-free}
use Rattle.completion.proofs.advance_to.Goals as goal

pub returns-then-not-lags : goal.returns-then-not-lags
returns-then-not-lags c s whole v own present runs front =
    let f = c.args.frontier in
    held-by (Towards f (Ok c.unasked.result)) v own
    (λ w r g. rw c.unasked.ensures (to-reached _ w f present r g (sym c.lags.ensures ∙ c.if-not-lags.true))) whole runs front

pub returns-in-Blocked : goal.returns-in-Blocked
returns-in-Blocked c s whole v own present runs front =
    let f = c.args.frontier in
    held-by (Towards f (Ok c.unasked-in-Blocked.result)) v own
    (λ w r g. rw c.unasked-in-Blocked.ensures (to-blocked _ w f present r g (sym c.lags.ensures ∙ c.if-not-lags.false) (scan-blocked _ _ c.in-Blocked.ensures)))
    whole runs front

pub returns-in-Waiting : goal.returns-in-Waiting
returns-in-Waiting c s whole v own present runs front =
    let f = c.args.frontier in
    let free = scan-free _ _ false c.in-Waiting.ensures in
    held-by (Towards f c.unblocked.result) v own
    (λ w r g. rw c.unblocked.ensures (to-unblocked _ w f present r g (sym c.lags.ensures ∙ c.if-not-lags.false) free.0 false free.1)) whole runs front

pub returns-in-Answered : goal.returns-in-Answered
returns-in-Answered c s whole v own present runs front =
    let f = c.args.frontier in
    let free = scan-free _ _ true c.in-Answered.ensures in
    held-by (Towards f c.unblocked-in-Answered.result) v own
    (λ w r g. rw c.unblocked-in-Answered.ensures (to-unblocked _ w f present r g (sym c.lags.ensures ∙ c.if-not-lags.false) free.0 true free.1)) whole runs front
