-- Which parts are neat, in named conjuncts, and the parts of a revision. Assumes nothing.
use Rattle.std.specs.Prelude.{None}
use lib.Dec.{T}
use Rattle.tags.specs.Tags.{◌≤ₜ◌}
use Rattle.state.specs.declared.Coordination.{Coordination}
use Rattle.state.specs.declared.Completion.{Completion}
use Rattle.state.specs.declared.Row.{Row}
use Rattle.state.specs.declared.Parts.{Parts}
use Rattle.state.specs.Cells.{is_neat, is_zero_unless}
use Rattle.state.specs.View.{neat_coordination, neat_completion}
use Rattle.state.specs.Decides.{neat_row, neat_parts}
use Rattle.state.proofs.Rows.{neat-cell}
use Rattle.state.proofs.Neat.{and_parts, four-parts, completion-parts, completion-whole}
use Rattle.publication.specs.Revise.{revised_of, unprobed_of}

pub record NeatParts (p : Parts) : Type 0 where
  pub row : T (neat_row p.row)
  pub coordination : T (neat_coordination p.coordination)
  pub completion : T (neat_completion p.completion)
  pub failure : T (is_zero_unless p.failed p.first_failure)

pub record NeatRow (w : Row) : Type 0 where
  pub candidate : T (is_neat w.candidate)
  pub completed : T (is_neat w.completed)
  pub observed : T (is_zero_unless w.acknowledged w.completion_observed)

pub row_of : (w : Row) → T (neat_row w) → NeatRow w
row_of w h = let r = simp and_parts at h in record { candidate = r.0.0; completed = r.0.1; observed = r.1 }

pub row-whole : (w : Row) → NeatRow w → T (neat_row w)
row-whole w v = simp and_parts ((v.candidate, v.completed), v.observed)

pub parts-of : (p : Parts) → T (neat_parts p) → NeatParts p
parts-of p h =
    let r = (four-parts (neat_row p.row) (neat_coordination p.coordination) (neat_completion p.completion) (is_zero_unless p.failed p.first_failure)).0 h in
    record { row = r.0.0.0; coordination = r.0.0.1; completion = r.0.1; failure = r.1 }

pub parts_whole : (p : Parts) → NeatParts p → T (neat_parts p)
parts_whole p v =
    (four-parts (neat_row p.row) (neat_coordination p.coordination) (neat_completion p.completion) (is_zero_unless p.failed p.first_failure)).1
    (((v.row, v.coordination), v.completion), v.failure)

pub neat-revised : (c : Coordination) → T (neat_coordination (revised_of c))
unfolding ◌≤ₜ◌
neat-revised c = tt

pub neat-unprobed : (k : Completion) → T (neat_completion k) → T (neat_completion (unprobed_of k))
neat-unprobed k h =
    let v = completion-parts k h in
    completion-whole (unprobed_of k) (record { frontier = v.frontier; probe = neat-cell None tt; first = v.first; last = v.last; both = v.both })
