-- `gate::is_completed` is the rule's question, by the enclave's place or its lack. Assumes nothing.
use mathlib.Core.Path.{◌∙◌, ap}
use native.Mathlib.Omega.{arith}
use Rattle.tags.specs.Tags.{within}
use Rattle.state.specs.Cells.{optional_of}
use Rattle.state.proofs.Rows.{nobody, place-some, seated-in}
use Rattle.gate.proofs.Ends.{done-unknown, done-known}
use Rattle.gate.proofs.is_completed.Goals as goal

pub returns-in_default : goal.returns-in_default
returns-in_default c ascends = let s = c.args.state.now in done-unknown s c.args.enclave c.args.tag (nobody s c.args.enclave c.in_default.ensures)

pub tag_at-requires : goal.tag_at-requires
tag_at-requires c = let l = (place-some c.args.state.now c.args.enclave c.in-Some.ensures).1 in omega arith

pub returns : goal.returns
returns c ascends =
    let a = c.args in
    let s = a.state.now in
    done-known s a.enclave a.tag _ (seated-in s a.enclave ascends c.in-Some.ensures)
    (c.is_within_cell.ensures ∙ ap (λ u. within a.tag (optional_of u)) c.tag_at.ensures)
