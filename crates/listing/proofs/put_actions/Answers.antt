-- `listing::put_actions` meets its contract. The invariant: the lines of the first i records stand in the room, 160 bytes each at most.
-- Assumes nothing.
use mathlib.Core.Path.{refl}
use native.Mathlib.Omega.{arith}
use Rattle.printing.proofs.Runs.{put-nothing}
use Rattle.listing.specs.Records.{record_lines}
use Rattle.listing.proofs.Records.{then-record}
use Rattle.listing.proofs.put_actions.Goals as goal

pub loop-i-init : goal.loop-i-init
unfolding record_lines
loop-i-init c = let s = c.args in (refl, put-nothing s.out.now s.at 0)

pub loop-i-preserved : goal.loop-i-preserved
loop-i-preserved c = let s = c.args in
    (omega arith, then-record c.loop-i.i s.records.now c.loop-i.invariant.1 c.put_record-place.ensures (omega arith))
