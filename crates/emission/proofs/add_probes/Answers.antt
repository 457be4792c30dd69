-- `emission::add_probes` adds `probes_at`. The invariant: the probes of the first i places have been added, at most one for each. Assumes nothing.
use mathlib.Core.Path.{ap, ◌∙◌}
use native.Mathlib.Omega.{arith}
use Rattle.tags.specs.Tags.{is_below}
use Rattle.state.specs.Cells.{optional_of}
use Rattle.emission.proofs.Adding.{add_start, turn_added, turn_passed}
use Rattle.emission.proofs.add_probes.Goals as goal
use Rattle.emission.proofs.add_probes.Goals.{then-lags, else-lags}

pub loop-i-init : goal.loop-i-init
loop-i-init c = (omega arith, add_start _ _ _ _)

pub loop-i-preserved : goal.loop-i-preserved
loop-i-preserved c =
    let a = c.args in
    let is = c.lags.ensures ∙ ap (λ t. is_below (optional_of t) a.frontier) c.tag_at.ensures in
    elim c.if-lags.branch [
      | then-lags w ↦ (
        omega arith,
        rw (w.room-is, w.total-is) (turn_added _ _ c.loop-i.i _ _ _ _ _ is c.loop-i.invariant.1 w.if-lags.true _ _ w.add-total.ensures.adds),
      )
      | else-lags w ↦ (omega arith, rw (w.room-is, w.total-is) (turn_passed _ _ c.loop-i.i _ _ _ _ _ is c.loop-i.invariant.1 w.if-lags.false))
    ]
