-- `observation::handle_idle_confirmation` is the call that takes the step of `confirmed`. Assumes nothing.
use Rattle.std.proofs.Common.{refl}
use Rattle.rules.specs.Model.{idle}
use Rattle.observation.proofs.Taking.{takes-idle}
use Rattle.observation.proofs.handle_idle_confirmation.Goals as goal

pub returns : goal.returns
returns c =
    let a = c.args in
    let t = takes-idle a.state a.revision c.confirmed-moved.result (λ h. c.confirmed-moved.ensures _ h refl) in
    record { promised = c.moved_unless_refused.ensures.promised (idle a.revision) t; bytes = c.moved_unless_refused.ensures.bytes (idle a.revision) t }
