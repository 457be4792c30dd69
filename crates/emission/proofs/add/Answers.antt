-- `emission::add` adds one action: its record is put right after those written so far. Assumes nothing.
use mathlib.Core.Path.{refl}
use Rattle.emission.proofs.Adding.{add-one-more}
use Rattle.emission.proofs.add.Goals as goal

pub returns-clause-adds : goal.returns-clause-adds
returns-clause-adds c = add-one-more _ _ _ _ _ c.write_action.ensures.bytes refl
