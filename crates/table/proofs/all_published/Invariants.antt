use mathlib.Core.Path.{◌≡◌}
use mathlib.Core.Bool.{true, false}
use Prim.Native.Nat.{◌-◌}
use lib.ListN.{get_or}
use Rattle.state.specs.Walk.{all_of}
use Rattle.table.proofs.all_published.Given as goal

abbrev pub invariant-loop-i : goal.invariant-loop-i
invariant-loop-i l = all_of (λ j. get_or l.state.published j false) l.i (l.state.count - l.i) ≡ true
