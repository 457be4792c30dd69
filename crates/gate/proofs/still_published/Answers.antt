-- `gate::still_published` clears the flags of the named: each call of its closure answers whether its place's enclave is among them. Assumes nothing.
use mathlib.Core.Path.{◌≡◌, ◌∙◌}
use borrow.Author.Rules.{rules}
use lib.Dec.{eqb}
use lib.ListN.{get_or}
use Rattle.std.specs.List.{list_any}
use Rattle.rules.specs.Walk.{among}
use Rattle.table.proofs.Flags.{without_by}
use Rattle.gate.proofs.Among.{among-any}
use Rattle.gate.proofs.still_published.Goals as goal

pub returns : goal.returns
returns c =
    let s = c.args.state.now in
    let es = c.args.affected.now in
    without_by (λ j. among (get_or s.enclaves j 0) es) s _ _ c.published_without.ensures
    (λ j b h k. let e : b ≡ list_any (λ y. eqb y (get_or s.enclaves j 0)) es = search rules in e ∙ among-any (get_or s.enclaves j 0) es)
