-- What the functions that decide an observation, an idle confirmation or a stop promise, on the numbers that the state holds. Assumes nothing.
use Rattle.std.specs.Prelude.{◌≡◌, Bool, false, true, not, ◌||◌, List, [], ℕ, T, eqb}
use Rattle.rules.specs.Model.{Call, CoordinationAction, State, Step}
use Rattle.rules.specs.Calls.{facts, plain, take_step}
use Rattle.state.specs.declared.FederateCoordinationState.{FederateCoordinationState as Held}
use Rattle.state.specs.declared.Coordination.{Coordination}
use Rattle.state.specs.View.{view, represents, neat_coordination}
use Rattle.state.specs.Parts.{with_coordination}
use Rattle.state.specs.Decides.{said_of}
use Rattle.observation.specs.declared.Moved.{Moved}

-- "Stopped, stale or AwaitingIdleConfirmation", of the phase's number, the current revision and the one given
abbrev pub unheard_by : ℕ → ℕ → ℕ → Bool
unheard_by phase current revision = (eqb phase 6 || not (eqb revision current)) || eqb phase 5

abbrev pub in_phase : ℕ → Coordination → Coordination
in_phase phase c = record c { phase = phase }

-- the action that a move says, with the revision that it leaves; none of them names an enclave
abbrev pub says_of : Moved → List CoordinationAction
says_of d = said_of d.says 0 d.coordination.revision

-- d is this rule in s, and leaves no hidden cell
pub record Moves (rule : State → Step) (s : Held) (d : Moved) : Type 0 where
  pub step : rule (view s) ≡ record { state = view (with_coordination d.coordination s); actions = says_of d }
  pub neat : T (neat_coordination d.coordination)

-- in s the call c takes the step d: it names nothing and brings no tag, so that 27 and 8 alone refuse it
pub record Takes (s : Held) (d : Moved) (c : Call) : Type 0 where
  pub bare : facts c ≡ plain false true [] []
  pub moves : T (represents s) → Moves (take_step c) s d
