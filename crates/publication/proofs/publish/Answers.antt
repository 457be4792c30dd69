-- `publication::publish` meets its contract: each return by its law in Enlisting, from what the calls promise and the branch taken. Assumes nothing.
use mathlib.Core.Path.{◌≡◌, sym, ap, ◌∙◌}
use mathlib.Core.Bool.{not}
use lib.Dec.{eqb}
use Rattle.publication.proofs.Enlisting.{neat-changed, neat-first, publish-again, publish-changed, publish-first, publish-stopped}
use Rattle.publication.proofs.publish.Goals as goal

pub returns-then-c-from : goal.returns-then-c-from
returns-then-c-from c = let a = c.args in
    rw c.says.ensures (record { step = publish-stopped a.parts a.next_event (c.if-c-from.true ∙ c.from.ensures); neat = λ proper h. h })

pub returns-then-parts : goal.returns-then-parts
returns-then-parts c = let a = c.args in
    let runs : a.parts.coordination.phase ≡ 6 → ⊥ = λ h. c.if-c-from.false (h ∙ sym c.from.ensures) in
    rw c.says-then-parts.ensures (record {
      step = publish-again a.parts a.next_event _ _ runs c.cell_of-candidate.ensures c.same_tag.ensures c.if-same_tag.true
          c.if-parts.true _ c.repeated.ensures;
      neat = λ proper h. h;
    })

pub returns-then-same_tag : goal.returns-then-same_tag
returns-then-same_tag c = let a = c.args in
    let runs : a.parts.coordination.phase ≡ 6 → ⊥ = λ h. c.if-c-from.false (h ∙ sym c.from.ensures) in
    let cell = c.cell_of-candidate.ensures in record {
      step = publish-first a.parts a.next_event _ _ runs cell c.same_tag.ensures c.if-same_tag.true c.if-parts.false;
      neat = neat-first a.parts a.next_event _ cell;
    }

pub returns : goal.returns
returns c = let a = c.args in
    let runs : a.parts.coordination.phase ≡ 6 → ⊥ = λ h. c.if-c-from.false (h ∙ sym c.from.ensures) in
    let cell = c.cell_of-candidate.ensures in
    let u = c.revised-next.ensures in
    let v = c.unprobed-next.ensures in record {
      step = publish-changed a.parts a.next_event _ _ runs cell c.same_tag.ensures c.if-same_tag.false _ (ap (λ n. not (eqb a.parts.coordination.phase n)) c.from-2.ensures) _ u _ v;
      neat = λ proper h. neat-changed a.parts a.next_event _ cell proper h _ u _ v;
    }
