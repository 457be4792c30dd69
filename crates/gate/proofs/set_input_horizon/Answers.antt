-- `gate::set_input_horizon` keeps the promise of the call `horizon`: it refuses 27, then 7, and else stores. Assumes nothing.
use Rattle.std.specs.Prelude.{None}
use mathlib.Core.Path.{refl, ◌∙◌}
use borrow.Author.Rules.{rules}
use Rattle.rules.specs.Model.{horizon}
use Rattle.state.specs.Parts.{Sized}
use Rattle.calls.specs.Called.{replied}
use Rattle.calls.proofs.Refusals.{refuses-none}
use Rattle.calls.proofs.Standing.{standing_by}
use Rattle.gate.proofs.Ends.{asks-horizon, asks-passed, ends-asked, ends-capped}
use Rattle.gate.proofs.set_input_horizon.Goals as goal
use Rattle.gate.proofs.set_input_horizon.Goals.{then-is_none, else-is_none}

-- stored or refused
pub returns : goal.returns
returns c =
    let a = c.args in
    let r = c.with_reply.ensures in
    let n = c.refusal_of-refusal.result in
    let proper = c.proper_if_present.ensures in
    let sized : Sized a.state = search rules in
    elim c.if-is_none.branch [
      | then-is_none w ↦
          let p = asks-passed (horizon a.horizon) a.horizon (asks-horizon a.horizon) a.state proper n c.refusal_of-refusal.ensures w.if-is_none.ensures in
          ends-capped a.state a.horizon (standing_by a.state sized p.0) p.1 _ _ w.cell_of-state.ensures
          (r ∙ (λ i. replied (w.state-is i) (refuses-none n w.if-is_none.ensures i) None 0))
      | else-is_none w ↦
          ends-asked (horizon a.horizon) a.horizon (asks-horizon a.horizon) a.state proper n c.refusal_of-refusal.ensures w.if-is_none.ensures None refl
          (r ∙ (λ i. replied (w.state-is i) n None 0))
    ]
