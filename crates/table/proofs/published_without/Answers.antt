-- `table::published_without`: one turn clears the flag in hand where its place is told, and keeps it elsewhere. Assumes nothing.
use borrow.Author.Rules.{rules}
use Rattle.table.proofs.Flags.{clear-turn, keep-turn}
use Rattle.table.proofs.published_without.Goals as goal
use Rattle.table.proofs.published_without.Goals.{then-leaves, else-leaves}

pub loop-place-preserved : goal.loop-place-preserved
loop-place-preserved g c =
    let a = c.args in
    let l = c.loop-place in
    elim c.if-leaves.branch [
      | then-leaves w ↦ rw w.flags-is (clear-turn _ a.state.now l.place l.flags l.invariant (search rules) (rw w.if-leaves.true at c.leaves.ensures))
      | else-leaves w ↦ rw w.flags-is (keep-turn _ a.state.now l.place l.flags l.invariant (rw w.if-leaves.false at c.leaves.ensures))
    ]
