-- What a run from a place promises. Assumes nothing.
use Rattle.std.specs.Prelude.{◌≡◌, List, ℕ, ◌+◌, ◌-◌, length, None, Option, Some}
use Rattle.octets.specs.Runs.{put_at}
use Rattle.rules.specs.Model.{Call}
use Rattle.state.specs.declared.FederateCoordinationState.{FederateCoordinationState as Held}
use Rattle.calls.specs.Called.{state_of}
use Rattle.script.specs.Lines.{Reading, Bad, Good}
use Rattle.budget.specs.Run.{given, event_lines, run_state, run_lines, step_count, calls_from, place_from, allowance}
use Rattle.run.specs.declared.Running.{Running}
use Rattle.run.specs.declared.Ran.{Ran}
use Rattle.run.specs.declared.Listed.{Listed}
use Rattle.run.specs.declared.Stepped.{Stepped}

-- the number of the next event
abbrev pub next_number : Running → ℕ
next_number p = p.events - p.left + 1

-- the run from a position with a budget: how many it took, the position after, how much of the room it wrote, and every byte of the room
pub record Runs (script : List ℕ) (p : Running) (budget : ℕ) (before after : List ℕ) (r : Ran) : Type 0 where
  pub taken : r.taken ≡ step_count (calls_from (allowance budget p.left (length before)) script p.at) p.state
  pub state : r.rest.state ≡ run_state (calls_from (allowance budget p.left (length before)) script p.at) p.state
  pub place : r.rest.at ≡ place_from (allowance budget p.left (length before)) script p.at
  pub events : r.rest.events ≡ p.events
  pub left : r.rest.left ≡ p.left - r.taken
  pub written : r.written ≡ length (run_lines (next_number p) (calls_from (allowance budget p.left (length before)) script p.at) p.state)
  pub bytes : after ≡ put_at before 0 (run_lines (next_number p) (calls_from (allowance budget p.left (length before)) script p.at) p.state)

-- an event's call, taken and listed from `written` on
abbrev pub ListsBy : Call → Held → ℕ → ℕ → List ℕ → List ℕ → Listed → Type 0
ListsBy c s number written before after r =
    (r ≡ record { state = state_of (given c) s; written = written + length (event_lines number c s) }) × (after ≡ put_at before written (event_lines number c s))

-- one event at a place: taken by its call and listed from `written` on; or there is none
abbrev pub StepsBy : Reading Call → Held → ℕ → ℕ → List ℕ → List ℕ → Option Stepped → Type 0
StepsBy (Bad place) s number written before after r = (r ≡ None) × (after ≡ before)
StepsBy (Good c next) s number written before after r =
    (r ≡ Some (record { state = state_of (given c) s; at = next; written = written + length (event_lines number c s) }))
    × (after ≡ put_at before written (event_lines number c s))
