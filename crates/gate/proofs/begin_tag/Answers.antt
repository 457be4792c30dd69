-- `gate::begin_tag` keeps the promise of the call `begin`: it refuses 27, then 7, and else answers the rule's tests, and stores where they hold.
-- Assumes nothing.
use Rattle.std.specs.Prelude.{Some, None}
use mathlib.Core.Path.{◌≡◌, refl, sym, ap, ◌∙◌}
use mathlib.Core.Bool.{true, false}
use mathlib.Core.List.{[]}
use native.Mathlib.Omega.{arith}
use borrow.Author.Rules.{rules}
use Rattle.tags.specs.Tags.{is_proper}
use Rattle.rules.specs.Model.{begin}
use Rattle.rules.specs.Walk.{quiet}
use Rattle.rules.specs.Gate.{may_begin}
use Rattle.rules.specs.Calls.{says}
use Rattle.state.specs.View.{view}
use Rattle.state.specs.Parts.{Sized}
use Rattle.state.proofs.Rows.{nobody, place-some, seated-in}
use Rattle.calls.specs.Called.{lent, replied}
use Rattle.calls.proofs.Standing.{Standing, standing_by, promised-taken, promised-still}
use Rattle.gate.specs.Parts.{started_at}
use Rattle.gate.proofs.Ends.{asks-begin, asks-0, asks-passed, ends-asked, refused-no}
use Rattle.gate.proofs.Beginning.{may_free, step-free, may-unknown, may-known, step-begun, step-denied, started-view, started-neat, started-beyond}
use Rattle.gate.proofs.begin_tag.Goals as goal
use Rattle.gate.proofs.begin_tag.Goals.{Else-is_some}

pub returns-then-is_some : goal.returns-then-is_some
returns-then-is_some c =
    let a = c.args in
    ends-asked (begin a.enclave a.tag) (Some a.tag) (asks-begin a.enclave a.tag) a.state c.is_proper.ensures _ c.refusal_of-refusal.ensures
    (sym c.is_some.ensures ∙ c.if-is_some.true) (Some false) (refused-no (may_begin (view a.state).input_horizon a.enclave a.tag (view a.state))) c.with_reply.ensures

-- past 27 and 7
passed : (c : Else-is_some) → let s = c.args.state in Standing s × (is_proper c.args.tag ≡ true)
passed c =
    let a = c.args in
    let p = asks-passed (begin a.enclave a.tag) (Some a.tag) (asks-begin a.enclave a.tag) a.state c.is_proper.ensures _ c.refusal_of-refusal.ensures
    (sym c.is_some.ensures ∙ c.if-is_some.false)
    in
    let sized : Sized a.state = search rules in
    (standing_by a.state sized p.0, p.1)

pub returns-then-is_absent : goal.returns-then-is_absent
returns-then-is_absent c =
    let a = c.args in
    let s = a.state in
    let w = passed (goal.at.returns-then-is_absent c).Else-is_some in
    let h = sym c.is_absent.ensures ∙ c.if-is_absent.true in
    promised-still (lent 0 (begin a.enclave a.tag)) s w.0 (asks-0 _ (Some a.tag) (asks-begin a.enclave a.tag) s w.0.passing w.1) (Some true)
    (ap says (sym (may_free s a.enclave a.tag h))) (step-free s a.enclave a.tag h) c.with_reply-then-is_absent.ensures

pub find-requires : goal.find-requires
find-requires c = (passed (goal.at.find-requires c).Else-is_some).0.few

pub returns-in_default : goal.returns-in_default
returns-in_default c =
    let a = c.args in
    let s = a.state in
    let w = passed (goal.at.returns-in_default c).Else-is_some in
    let h = sym c.is_absent.ensures ∙ c.if-is_absent.false in
    let y = may-unknown s a.enclave a.tag h (nobody s a.enclave c.in_default.ensures) in
    promised-still (lent 0 (begin a.enclave a.tag)) s w.0 (asks-0 _ (Some a.tag) (asks-begin a.enclave a.tag) s w.0.passing w.1) (Some false)
    (ap says (sym y)) (step-denied s a.enclave a.tag y) c.with_reply-in_default.ensures

pub returns-then-not-may_begin : goal.returns-then-not-may_begin
returns-then-not-may_begin c =
    let a = c.args in
    let s = a.state in
    let w = passed (goal.at.returns-then-not-may_begin c).Else-is_some in
    let h = sym c.is_absent.ensures ∙ c.if-is_absent.false in
    let d = seated-in s a.enclave w.0.ascends c.in-Some.ensures in
    let y = may-known s a.enclave a.tag h c.in-Some.place w.0.good d ∙ sym c.may_begin.ensures ∙ c.if-not-may_begin.true in
    promised-still (lent 0 (begin a.enclave a.tag)) s w.0 (asks-0 _ (Some a.tag) (asks-begin a.enclave a.tag) s w.0.passing w.1) (Some false)
    (ap says (sym y)) (step-denied s a.enclave a.tag y) c.with_reply-then-not-may_begin.ensures

pub put_started-requires : goal.put_started-requires
put_started-requires c =
    let n = (passed (goal.at.put_started-requires c).Else-is_some).0.few in
    let l = (place-some c.args.state c.args.enclave c.in-Some.ensures).1 in
    omega arith

pub returns : goal.returns
returns c =
    let a = c.args in
    let s = a.state in
    let w = passed (goal.at.returns c).Else-is_some in
    let st = w.0 in
    let h = sym c.is_absent.ensures ∙ c.if-is_absent.false in
    let i = c.in-Some.place in
    let d = seated-in s a.enclave st.ascends c.in-Some.ensures in
    let y = may-known s a.enclave a.tag h i st.good d ∙ sym c.may_begin.ensures ∙ c.if-not-may_begin.false in
    promised-taken (lent 0 (begin a.enclave a.tag)) s st (asks-0 _ (Some a.tag) (asks-begin a.enclave a.tag) s st.passing w.1) (Some true) (ap says (sym y))
    (started_at s i a.tag) [] (started-beyond s a.enclave i a.tag st.good st.few d w.1) (started-neat s a.enclave i a.tag st.good st.few d w.1)
    (step-begun s a.enclave a.tag h y ∙ ap quiet (started-view s a.enclave i a.tag st.good st.few d w.1)) refl
    (c.with_reply-2.ensures ∙ ap (λ u. replied u None (Some true) 0) c.put_started.ensures)
