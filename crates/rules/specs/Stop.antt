-- Document 01, "ParticipantStopped, Failed, stop" (state.rs: stop, fail). Assumes nothing.
use Rattle.std.specs.Prelude.{cond, [], ◌∷◌, None, Option, ℕ}
use Rattle.rules.specs.Model.{Stopped, CoordinationAction, Stop, Abort, State, Step}
use Rattle.rules.specs.Set.{with_phase, with_pending_publication, with_first_failure}
use Rattle.rules.specs.Walk.{quiet, emit, is_stopped}

-- the action, "phase Stopped, pending publication cleared"
abbrev pub halted : CoordinationAction → State → Step
halted a s = emit (a ∷ []) (with_phase Stopped (with_pending_publication None s))

-- "If running: Stop"
unfoldable pub stop_of : State → Step
stop_of s = cond (is_stopped s) (quiet s) (halted Stop s)

-- "Failed: Abort .. stores its enclave, or none."
unfoldable pub fail_of : Option ℕ → State → Step
fail_of e s = cond (is_stopped s) (quiet s) (halted Abort (with_first_failure e s))
