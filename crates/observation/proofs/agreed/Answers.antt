-- `observation::agreed` meets its contract: by the observation, and for the last one by the policy and the authorization. Assumes nothing.
use Rattle.observation.proofs.Deciding.{agreed-probed, agreed-parked, agreed-awaits, agreed-stops}
use Rattle.observation.proofs.agreed.Goals as goal

pub returns-in-Probed : goal.returns-in-Probed
returns-in-Probed c = rw c.in-Probed.is (λ s h e k. agreed-probed s h c.args.c e _ c.in_phase.ensures)

pub returns-in-Parked : goal.returns-in-Parked
returns-in-Parked c = rw c.in-Parked.is (λ s h e k. agreed-parked s h c.args.c e _ c.in_phase-in-Parked.ensures)

pub returns-then-lacks_authorization : goal.returns-then-lacks_authorization
returns-then-lacks_authorization c = let a = c.args in
    rw c.in-Rechecked.is (λ s h e k. agreed-awaits s h a.c e _ a.lifecycle k _ c.lacks_authorization.ensures c.in_phase-then-lacks_authorization.ensures c.if-lacks_authorization.true)

pub returns-else-lacks_authorization : goal.returns-else-lacks_authorization
returns-else-lacks_authorization c = let a = c.args in
    rw c.in-Rechecked.is (λ s h e k. agreed-stops s h a.c e _ a.lifecycle k _ c.lacks_authorization.ensures (c.stopped.ensures s h e) c.if-lacks_authorization.false)
