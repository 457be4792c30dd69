-- `script::read_settings` is what the settings and the events come to: the good lines so far, then a bad one or the events. Assumes nothing.
use mathlib.Core.Path.{ap, ◌∙◌}
use Rattle.script.proofs.Turns.{exit, good-is}
use Rattle.script.proofs.Scripts.{answered-bad, told_by, script-told}
use Rattle.script.proofs.read_settings.Goals as goal

pub returns-in_err-second : goal.returns-in_err-second
returns-in_err-second c = λ ps kept. exit _ _ c.from_residual.ensures.1 ∙ answered-bad _ _ _ c.in_err-second.ensures

pub returns-in_err-policy : goal.returns-in_err-policy
returns-in_err-policy c = λ ps kept.
    exit _ _ c.from_residual-in_err-policy.ensures.1
    ∙ rw (good-is c.in_ok-second.ensures) (answered-bad _ _ _ c.in_err-policy.ensures)

pub returns-in_err-revision : goal.returns-in_err-revision
returns-in_err-revision c = λ ps kept.
    exit _ _ c.from_residual-in_err-revision.ensures.1
    ∙ rw (good-is c.in_ok-second.ensures, good-is c.in_ok-policy.ensures) (answered-bad _ _ _ c.in_err-revision.ensures)

pub returns-in_err-generation : goal.returns-in_err-generation
returns-in_err-generation c = λ ps kept.
    exit _ _ c.from_residual-in_err-generation.ensures.1
    ∙ rw (good-is c.in_ok-second.ensures, good-is c.in_ok-policy.ensures, good-is c.in_ok-revision.ensures)
    (answered-bad _ _ _ c.in_err-generation.ensures)

pub returns-in_err-events : goal.returns-in_err-events
returns-in_err-events c = λ ps kept.
    exit _ _ c.from_residual-in_err-events.ensures.1
    ∙ rw (good-is c.in_ok-second.ensures, good-is c.in_ok-policy.ensures, good-is c.in_ok-revision.ensures, good-is c.in_ok-generation.ensures)
    (ap (told_by c.args.participants c.in_ok-policy.policy c.in_ok-revision.revision c.in_ok-generation.generation) c.in_err-events.ensures ∙ script-told _ ps _ _ _ _ c.args.participants kept)

pub returns : goal.returns
returns c = λ ps kept.
    rw (good-is c.in_ok-second.ensures, good-is c.in_ok-policy.ensures, good-is c.in_ok-revision.ensures, good-is c.in_ok-generation.ensures)
    (ap (told_by c.args.participants c.in_ok-policy.policy c.in_ok-revision.revision c.in_ok-generation.generation) c.in_ok-events.ensures ∙ script-told _ ps _ _ _ _ c.args.participants kept)
