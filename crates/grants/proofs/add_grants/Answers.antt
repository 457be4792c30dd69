-- `grants::add_grants` adds `grants_of`. The invariant: the Grants of the first places have been added, at most one for each. Assumes nothing.
use mathlib.Core.Path.{sym, ◌∙◌}
use native.Mathlib.Omega.{arith}
use Rattle.emission.proofs.Adding.{add_start}
use Rattle.grants.proofs.Turns.{granted-turn, passed-turn}
use Rattle.grants.proofs.add_grants.Goals as goal
use Rattle.grants.proofs.add_grants.Goals.{then-is_grantable, else-is_grantable}

pub loop-place-init : goal.loop-place-init
loop-place-init c = record { few = omega arith; adds = add_start _ _ _ _ }

pub loop-place-preserved : goal.loop-place-preserved
loop-place-preserved c =
    let a = c.args in
    let l = c.loop-place in
    let is = sym c.is_grantable.ensures in
    elim c.if-is_grantable.branch [
      | then-is_grantable w ↦ record {
        few = omega (arith, w.add-total.ensures.few);
        adds = rw (w.room-is, w.total-is) (granted-turn a.state.now a.tag l.place _ _ _ _ l.invariant.adds (is ∙ w.if-is_grantable.true) _ _
            (rw w.tag_at-candidate.ensures at w.add-total.ensures.adds));
      }
      | else-is_grantable w ↦ record {
        few = omega arith;
        adds = rw (w.room-is, w.total-is) (passed-turn a.state.now a.tag l.place _ _ _ _ l.invariant.adds (is ∙ w.if-is_grantable.false));
      }
    ]
