-- `queries::candidate` refuses what is_sound refuses, and finds the enclave's place: one law for each return. Assumes nothing.
use Rattle.std.proofs.Common.{sym, ◌∙◌, arith}
use Rattle.state.proofs.Rows.{place-some}
use Rattle.queries.proofs.Asking.{few, candidate-unknown, candidate-known}
use Rattle.queries.proofs.candidate.Goals as goal

pub find-requires : goal.find-requires
find-requires c = few _ (sym c.is_sound.ensures ∙ c.if-not-is_sound.false)

pub returns-in_default : goal.returns-in_default
returns-in_default c =
    candidate-unknown _ (sym c.is_sound.ensures ∙ c.if-not-is_sound.false) _ c.in_default.ensures c.answer_if-in_default.ensures

pub tag_at-requires : goal.tag_at-requires
tag_at-requires c =
    let n = few c.args.state (sym c.is_sound.ensures ∙ c.if-not-is_sound.false) in
    let l = (place-some c.args.state c.args.enclave c.in-Some.ensures).1 in
    omega arith

pub returns : goal.returns
returns c =
    candidate-known _ (sym c.is_sound.ensures ∙ c.if-not-is_sound.false) _ c.in-Some.ensures c.tag_at.ensures
    (rw c.optional_of.ensures at c.answer_if-2.ensures)
