-- The lines of the first i records stand in the room, 160 bytes each at most. Assumes nothing.
use mathlib.Core.Path.{◌≡◌}
use Prim.Native.Nat.{◌*◌}
use lib.ListN.{length}
use Rattle.printing.specs.Runs.{Puts}
use Rattle.listing.specs.Records.{record_lines}
use Rattle.listing.proofs.put_actions.Given as goal

abbrev pub invariant-loop-i : goal.invariant-loop-i
invariant-loop-i l = (length l.out ≡ length l.initial.out) × Puts l.initial.out l.at (record_lines l.i l.records) (160 * l.i) l.place l.out
