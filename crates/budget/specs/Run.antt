-- Document 01, "Script and its listing": "A run takes a number of events it may use and reports how many it took, the lesser of the two; refused events
-- count." What a run of calls leaves of the state held, and what it lists. Assumes nothing.
use Rattle.std.specs.Prelude.{ℕ, zero, suc, ◌+◌, ◌/◌, min, List, [], ◌∷◌, ◌++◌, length}
use Rattle.rules.specs.Model.{Call, Given}
use Rattle.state.specs.declared.FederateCoordinationState.{FederateCoordinationState as Held}
use Rattle.calls.specs.Called.{lent, refusal_of, state_of, actions_of, answer_of}
use Rattle.events.specs.Events.{event_of}
use Rattle.script.specs.Lines.{Reading, Bad, Good, item}
use Rattle.listing.specs.Listing.{event_line, action_lines}

-- each event is lent room for the actions of 32 participants, 56 x (32 + 2) bytes
abbrev pub given : Call → Given
given c = lent 1904 c

-- ---- a run of calls

-- "per event: number, refusal, answer (0, 1 or `-`), action count; then its actions"
unfoldable pub event_lines : ℕ → Call → Held → List ℕ
event_lines number c s =
    event_line number (refusal_of (given c) s) (answer_of (given c) s) (length (actions_of (given c) s)) ++ action_lines (actions_of (given c) s)

unfoldable pub run_state : List Call → Held → Held
run_state [] s = s
run_state (c ∷ cs) s = run_state cs (state_of (given c) s)

-- the first of them has this number
unfoldable pub run_lines : ℕ → List Call → Held → List ℕ
run_lines number [] s = []
run_lines number (c ∷ cs) s = event_lines number c s ++ run_lines (number + 1) cs (state_of (given c) s)

-- "refused events count": whatever became of it, an event is one step
abbrev pub step_of : Call → Held → ℕ
step_of c s = 1

unfoldable pub step_count : List Call → Held → ℕ
step_count [] s = 0
step_count (c ∷ cs) s = step_of c s + step_count cs (state_of (given c) s)

-- ---- from a place of a script

abbrev pub calls_by : Reading Call → (ℕ → List Call) → List Call
calls_by (Bad place) rest = []
calls_by (Good c next) rest = c ∷ rest next

abbrev pub place_by : Reading Call → ℕ → (ℕ → ℕ) → ℕ
place_by (Bad place) at rest = at
place_by (Good c next) at rest = rest next

-- the calls of at most so many event lines from a place on: all of them in a script of good form
unfoldable pub calls_from : ℕ → List ℕ → ℕ → List Call
calls_from zero script at = []
calls_from (suc n) script at = calls_by (item event_of script at) (λ next. calls_from n script next)

-- the place after them
unfoldable pub place_from : ℕ → List ℕ → ℕ → ℕ
place_from zero script at = at
place_from (suc n) script at = place_by (item event_of script at) at (λ next. place_from n script next)

-- ---- the number of events

-- "the lesser of the two", and no more than surely fit: an event lists at most 35 lines of at most 160 bytes
unfoldable pub allowance : ℕ → ℕ → ℕ → ℕ
allowance budget left room = min budget (min left (room / 5600))
