-- `observation::stop` is the call that takes the step of `stopped`. Assumes nothing.
use Rattle.std.proofs.Common.{refl}
use Rattle.rules.specs.Model.{stop}
use Rattle.observation.proofs.Taking.{takes-stop}
use Rattle.observation.proofs.stop.Goals as goal

pub returns : goal.returns
returns c =
    let t = takes-stop c.args.state c.stopped-moved.result (λ h. c.stopped-moved.ensures _ h refl) in
    record { promised = c.moved_unless_refused.ensures.promised stop t; bytes = c.moved_unless_refused.ensures.bytes stop t }
