-- What holds of runs beyond the promises (document 01, "A run takes a number of events it may use .."), stated; proofs/ prove each. Assumes nothing.
use Rattle.std.specs.Prelude.{ℕ, ◌+◌, ◌*◌, ◌≤◌, ◌≡◌, min, List, ◌++◌, map, T, length, take}
use Rattle.rules.specs.Model.{Call}
use Rattle.rules.specs.Calls.{is_sound, run_calls}
use Rattle.state.specs.declared.FederateCoordinationState.{FederateCoordinationState as Held}
use Rattle.state.specs.View.{view, represents}
use Rattle.state.specs.Parts.{Sized}
use Rattle.script.specs.Lines.{Good}
use Rattle.script.specs.Script.{Script, script_of}
use Rattle.budget.specs.Run.{given, run_state, run_lines, step_count, calls_from, place_from, allowance}

-- in a script of good form a run from the first event takes the lesser of its budget and of the events, where the room suffices for them
abbrev pub TakesTheLesser : Type 0
TakesTheLesser =
    (bytes : List ℕ) (s : Script) (last budget room : ℕ) (h : Held) → script_of bytes ≡ Good s last → 5600 * min budget (length s.events) ≤ room
    → step_count (calls_from (allowance budget (length s.events) room) bytes s.events_at) h ≡ min budget (length s.events)

-- and the calls that it takes are the first of the script's
abbrev pub TakesTheFirst : Type 0
TakesTheFirst =
    (bytes : List ℕ) (s : Script) (last n : ℕ) → script_of bytes ≡ Good s last → n ≤ length s.events → calls_from n bytes s.events_at ≡ take n s.events

-- a run of more budget extends a run of less: it goes on from the state, with the number and at the place where that one ended
abbrev pub MoreExtendsLess : Type 0
MoreExtendsLess =
    (bytes : List ℕ) (at m n number : ℕ) (s : Held) → length (calls_from m bytes at) ≡ m
    → (calls_from (m + n) bytes at ≡ calls_from m bytes at ++ calls_from n bytes (place_from m bytes at))
    × (run_state (calls_from (m + n) bytes at) s ≡ run_state (calls_from n bytes (place_from m bytes at)) (run_state (calls_from m bytes at) s))
    × (run_lines number (calls_from (m + n) bytes at) s ≡ run_lines number (calls_from m bytes at) s
    ++ run_lines (number + m) (calls_from n bytes (place_from m bytes at)) (run_state (calls_from m bytes at) s))

-- the state of a run is that of the rules' run
abbrev pub RunFollowsRules : Type 0
RunFollowsRules =
    (cs : List Call) (s : Held) → Sized s → T (represents s) → T (is_sound (view s)) → view (run_state cs s) ≡ (run_calls (map given cs) (view s)).state
