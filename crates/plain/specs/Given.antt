-- The call that a host's numbers tell: document 01's events in their order, from 1, and the observations in the Rust's, from 0. No number but these tells one.
-- Assumes nothing.
use Rattle.std.specs.Prelude.{cond, List, ℕ, eqb, None, Option, Some}
use Rattle.rules.specs.Model.{Probed, HasParked, Rechecked, Call, active, stopped, publish, complete, observed, failed, acquire, sent, observe, idle, stop, progress, horizon, begin, late, done, input}
use Rattle.state.specs.Cells.{number_if}
use Rattle.plain.specs.declared.CallNumbers.{CallNumbers}
use Rattle.plain.specs.Tags.{tag_if}

abbrev pub observe_by : ℕ → ℕ → ℕ → Option Call
observe_by e r o =
    cond (eqb o 0) (Some (observe e r Probed))
    (cond (eqb o 1) (Some (observe e r HasParked)) (cond (eqb o 2) (Some (observe e r Rechecked)) None))

-- the enclaves that an `input` names stand beside the numbers
unfoldable pub call_of : CallNumbers → List ℕ → Option Call
call_of n es =
    cond (eqb n.kind 1) (Some (active n.enclave))
    (cond (eqb n.kind 2) (Some (publish n.enclave (tag_if n.first)))
    (cond (eqb n.kind 3) (Some (complete n.enclave n.first.tag n.network_input))
    (cond (eqb n.kind 4) (Some (observed n.enclave n.number))
    (cond (eqb n.kind 5) (Some (stopped n.enclave))
    (cond (eqb n.kind 6) (Some (failed (number_if n.named n.enclave)))
    (cond (eqb n.kind 7) (Some (acquire n.number n.first.tag))
    (cond (eqb n.kind 8) (Some (sent n.number (tag_if n.first) (tag_if n.second)))
    (cond (eqb n.kind 9) (observe_by n.enclave n.number n.observation)
    (cond (eqb n.kind 10) (Some (idle n.number))
    (cond (eqb n.kind 11) (Some stop)
    (cond (eqb n.kind 12) (Some (horizon (tag_if n.first)))
    (cond (eqb n.kind 13) (Some (begin n.enclave n.first.tag))
    (cond (eqb n.kind 14) (Some (late n.enclave n.first.tag))
    (cond (eqb n.kind 15) (Some (done n.enclave n.first.tag))
    (cond (eqb n.kind 16) (Some (input es))
    (cond (eqb n.kind 17) (Some progress) None))))))))))))))))
