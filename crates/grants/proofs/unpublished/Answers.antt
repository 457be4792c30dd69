-- `grants::unpublished` clears the flags of those that are granted: each call of its closure answers whether its place is. Assumes nothing.
use borrow.Author.Rules.{rules}
use Rattle.table.proofs.Flags.{without_by}
use Rattle.grants.specs.Acquire.{grantable_at}
use Rattle.grants.proofs.unpublished.Goals as goal

pub returns : goal.returns
returns c = let a = c.args in without_by (grantable_at a.state.now a.tag) a.state.now _ _ c.published_without.ensures (λ j b h k. search rules)
