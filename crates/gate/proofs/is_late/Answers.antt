-- `gate::is_late` is the rule's question, by the enclave's place or its lack. Assumes nothing.
use mathlib.Core.Path.{◌∙◌, ap}
use native.Mathlib.Omega.{arith}
use Rattle.tags.specs.Tags.{within}
use Rattle.state.specs.Cells.{optional_of}
use Rattle.state.proofs.Rows.{nobody, place-some, seated-in}
use Rattle.gate.proofs.Ends.{late-unknown, late-started, late-completed}
use Rattle.gate.proofs.is_late.Goals as goal

pub returns-in_default : goal.returns-in_default
returns-in_default c ascends = let s = c.args.state.now in late-unknown s c.args.enclave c.args.tag (nobody s c.args.enclave c.in_default.ensures)

pub tag_at-requires : goal.tag_at-requires
tag_at-requires c = let l = (place-some c.args.state.now c.args.enclave c.in-Some.ensures).1 in omega arith

pub returns-then-is_within_cell : goal.returns-then-is_within_cell
returns-then-is_within_cell c ascends =
    let a = c.args in
    let s = a.state.now in
    let yes = c.if-is_within_cell.true in
    yes ∙ late-started s a.enclave a.tag _ (seated-in s a.enclave ascends c.in-Some.ensures)
    (c.is_within_cell.ensures ∙ ap (λ u. within a.tag (optional_of u)) c.tag_at.ensures) yes

pub returns-else-is_within_cell : goal.returns-else-is_within_cell
returns-else-is_within_cell c ascends =
    let a = c.args in
    let s = a.state.now in
    late-completed s a.enclave a.tag _ (seated-in s a.enclave ascends c.in-Some.ensures)
    (c.is_within_cell.ensures ∙ ap (λ u. within a.tag (optional_of u)) c.tag_at.ensures)
    (c.is_within_cell-else-is_within_cell.ensures ∙ ap (λ u. within a.tag (optional_of u)) c.tag_at-else-is_within_cell.ensures) c.if-is_within_cell.false
