-- `actions::read_action` meets its contract: each way through it is a case of `read_action`. Assumes nothing.
use Rattle.std.proofs.Common.{◌≡◌, sym, ◌∙◌, arith}
use Rattle.std.specs.Prelude.{None, Some}
use Rattle.std.proofs.lemmas.Result.{err_from_is_err_and}
use Rattle.records.specs.declared.Refusal.TheVariants.{NoActionRecord}
use Rattle.actions.proofs.Reading.{read_short, read-unknown, read-confirmed, read-other}
use Rattle.actions.proofs.read_action.Goals as goal

pub returns-then-bytes-lt56 : goal.returns-then-bytes-lt56
returns-then-bytes-lt56 c = read_short c.args.bytes.now c.if-bytes-lt56.true

pub returns-in_err-action : goal.returns-in_err-action
returns-in_err-action c =
    let none : c.candidate.result ≡ None = grind arith in
    let is : c.in_err-action.field-0.0 ≡ NoActionRecord = grind arith in
    let p = err_from_is_err_and c.from_residual.result c.from_residual.ensures.1 in
    rw (p.1, p.2, is) (read-unknown c.args.bytes.now c.if-bytes-lt56.false (sym c.candidate.ensures ∙ none))

pub returns-then-is_confirmed : goal.returns-then-is_confirmed
returns-then-is_confirmed c =
    let some : c.candidate.result ≡ Some c.in_ok-action.action = grind arith in
    read-confirmed c.args.bytes.now c.if-bytes-lt56.false _ (sym c.candidate.ensures ∙ some) (sym c.is_confirmed.ensures ∙ c.if-is_confirmed.true)

pub returns-else-is_confirmed : goal.returns-else-is_confirmed
returns-else-is_confirmed c =
    let some : c.candidate.result ≡ Some c.in_ok-action.action = grind arith in
    read-other c.args.bytes.now c.if-bytes-lt56.false _ (sym c.candidate.ensures ∙ some) (sym c.is_confirmed.ensures ∙ c.if-is_confirmed.false)
