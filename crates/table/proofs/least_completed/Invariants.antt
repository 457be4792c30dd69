use mathlib.Core.Path.{◌≡◌}
use mathlib.Core.Bool.{true}
use Prim.Native.Nat.{◌-◌}
use Rattle.tags.specs.Tags.{is_present}
use Rattle.state.specs.Cells.{optional_of}
use Rattle.state.specs.Walk.{all_of, least_from}
use Rattle.table.proofs.Loops.{completed_at, Means}
use Rattle.table.proofs.least_completed.Given as goal

abbrev pub invariant-loop-i : goal.invariant-loop-i
invariant-loop-i l = record {
  every : all_of (λ j. is_present (optional_of (completed_at l.state j))) l.i (l.state.count - l.i) ≡ true;
  least : Means l.least (least_from (λ j. optional_of (completed_at l.state j)) l.i (l.state.count - l.i));
}
