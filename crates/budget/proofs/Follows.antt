-- `RunFollowsRules`: a run of calls with room for 32 participants is a run of such calls, of which crate `follows` says that it is the rules'. Assumes
-- nothing.
use mathlib.Core.Path.{◌≡◌, refl, ap, ◌∙◌}
use mathlib.Core.List.{List, [], ◌∷◌, map}
use Rattle.rules.specs.Model.{Call}
use Rattle.state.specs.declared.FederateCoordinationState.{FederateCoordinationState as Held}
use Rattle.state.specs.View.{view}
use Rattle.calls.specs.Called.{state_of}
use Rattle.follows.specs.Demands.{state_after}
use Rattle.follows.proofs.Follows.{run-follows-rules as calls-follow-rules}
use Rattle.budget.specs.Run.{given, run_state}
use Rattle.budget.specs.Demands.{RunFollowsRules}

state-after : (cs : List Call) (s : Held) → run_state cs s ≡ state_after (map given cs) s
unfolding run_state state_after
state-after [] s = refl
state-after (c ∷ cs) s = state-after cs (state_of (given c) s)

pub run-follows-rules : RunFollowsRules
run-follows-rules cs s z neat sound = ap view (state-after cs s) ∙ (calls-follow-rules (map given cs) s (record { sized = z; neat = neat; sound = sound })).state
