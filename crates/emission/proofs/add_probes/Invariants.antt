use Prim.Native.Nat.{◌≤◌, ◌+◌}
use lib.ListN.{get_or}
use Rattle.tags.specs.Tags.{is_below}
use Rattle.rules.specs.Model.{CompletionProbe}
use Rattle.state.specs.Cells.{optional_of}
use Rattle.state.specs.View.{tag_at}
use Rattle.state.specs.Walk.{each_from}
use Rattle.emission.specs.Written.{Adds}
use Rattle.emission.proofs.add_probes.Given as goal

abbrev pub invariant-loop-i : goal.invariant-loop-i
invariant-loop-i l =
    (l.total ≤ l.written + l.i)
    × Adds (each_from (λ j. is_below (optional_of (tag_at l.state (32 + j))) l.frontier) (λ j. CompletionProbe (get_or l.state.enclaves j 0) l.generation) 0 l.i) l.initial.room l.written l.room l.total
