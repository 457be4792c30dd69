-- `script::read_script` is what its bytes come to: 12, a bad line of the participants, or what the sections after them come to. Assumes nothing.
use mathlib.Core.Path.{◌∙◌}
use Rattle.script.specs.Script.{script_of}
use Rattle.script.proofs.Turns.{exit, good-is}
use Rattle.script.proofs.Scripts.{answered-bad, script-long, script-short, participants-bad, participants-read}
use Rattle.script.proofs.read_script.Goals as goal

pub returns-then-bytes-gt65536 : goal.returns-then-bytes-gt65536
returns-then-bytes-gt65536 c = script-long _ c.if-bytes-gt65536.true

pub returns-in_err-number : goal.returns-in_err-number
unfolding script_of
returns-in_err-number c =
    exit _ _ c.from_residual.ensures.1 ∙ rw (script-short _ c.if-bytes-gt65536.false) (answered-bad _ _ _ c.in_err-number.ensures)

pub returns-in_err-participants : goal.returns-in_err-participants
unfolding script_of
returns-in_err-participants c =
    exit _ _ c.from_residual-in_err-participants.ensures.1
    ∙ rw (script-short _ c.if-bytes-gt65536.false, good-is c.in_ok-number.ensures) (participants-bad _ _ _ c.in_err-participants.ensures)

pub returns : goal.returns
unfolding script_of
returns c =
    rw (script-short _ c.if-bytes-gt65536.false, good-is c.in_ok-number.ensures)
    (participants-read _ _ _ _ _ c.in_ok-participants.ensures c.read_settings.ensures)
