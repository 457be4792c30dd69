-- `session::nowhere` begins with the blank state, which an opening of nobody leaves. Assumes nothing.
use mathlib.Core.Path.{ap, ◌∙◌}
use Rattle.rules.specs.Model.{KeepAlive}
use Rattle.session.proofs.Opens.{nobody-blank}
use Rattle.session.proofs.nowhere.Goals as goal

pub returns : goal.returns
returns c =
    ap (λ h. record { state = h; at = 0; events = 0; left = 0 }) (c.new-opened.ensures.state ∙ nobody-blank KeepAlive 0 0)
