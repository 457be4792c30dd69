-- `gate::input_completed` keeps the promise of the call `done`: refused by 27 and 7, or the rule's question. Assumes nothing.
use mathlib.Core.Path.{◌∙◌, ap}
use Rattle.gate.specs.Replies.{answering}
use Rattle.gate.proofs.Ends.{done-question, asked-passed, asked-refused, asked-taken, few-in, ascends-in}
use Rattle.gate.proofs.input_completed.Goals as goal
use Rattle.gate.proofs.input_completed.Goals.{then-is_none, else-is_none}

pub is_completed-requires : goal.is_completed-requires
is_completed-requires c =
    let a = c.args in
    few-in a.state (asked-passed (done-question a.enclave a.tag) a.state c.is_proper.ensures _ c.refusal_of-refusal.ensures c.if-is_none.ensures)

pub returns : goal.returns
returns c =
    let a = c.args in
    let q = done-question a.enclave a.tag in
    let r = c.answering.ensures in
    elim c.if-is_none.branch [
      | then-is_none w ↦
          asked-taken q a.state c.is_proper.ensures _ c.refusal_of-refusal.ensures w.is_completed.result w.if-is_none.ensures (λ p. w.is_completed.ensures (ascends-in a.state p))
          (r ∙ ap (answering c.refusal_of-refusal.result) w.answering-is)
      | else-is_none w ↦
          asked-refused q a.state c.is_proper.ensures _ c.refusal_of-refusal.ensures w.if-is_none.ensures
          (r ∙ ap (answering c.refusal_of-refusal.result) (w.answering-is ∙ w.if-is_none.false))
    ]
