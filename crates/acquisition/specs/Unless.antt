-- Document 01, "Calls: 27, 8, ..": a call that changes nothing, whatever comes after the two. Assumes nothing.
use Rattle.std.specs.Prelude.{cond, ◌&&◌, ℕ, None, Option, Some}
use Rattle.records.specs.declared.Refusal.{Refusal}
use Rattle.records.specs.declared.Refusal.TheVariants.{UnsoundState}
use Rattle.rules.specs.Calls.{is_sound}
use Rattle.state.specs.declared.FederateCoordinationState.{FederateCoordinationState as Held}
use Rattle.state.specs.View.{view, represents}
use Rattle.calls.specs.declared.Called.{Called}
use Rattle.calls.specs.Called.{replied, room_first}

-- 27 and 8 before what comes later, with the state as it came
abbrev pub unless_refused : Held → ℕ → Option Refusal → Called
unless_refused s room later = replied s (cond (represents s && is_sound (view s)) (room_first room s.count later) (Some UnsoundState)) None 0
