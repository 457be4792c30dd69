-- The state held follows the rules: what a call makes of it is, in the view, the rules' call, and so for any run of calls (document 01, "Events" and
-- "Ceilings and refusals"). Only statements stand here; proofs/Follows.antt proves each. Assumes nothing.
use Rattle.std.specs.Prelude.{◌≡◌, List, [], ◌∷◌, ◌++◌}
use Rattle.rules.specs.Model.{CoordinationAction, Given}
use Rattle.rules.specs.Calls.{call, run_calls}
use Rattle.state.specs.declared.FederateCoordinationState.{FederateCoordinationState as Held}
use Rattle.state.specs.View.{view}
use Rattle.state.specs.Decides.{Good}
use Rattle.calls.specs.Called.{refusal_of, state_of, actions_of, answer_of}

-- ---- one call

pub record Follows (g : Given) (s : Held) : Type 0 where
  pub refusal : refusal_of g s ≡ (call g (view s)).refusal
  pub answer : answer_of g s ≡ (call g (view s)).answer
  pub actions : actions_of g s ≡ (call g (view s)).step.actions
  pub state : view (state_of g s) ≡ (call g (view s)).step.state

abbrev pub CallFollowsRules : Type 0
CallFollowsRules = (g : Given) (s : Held) → Good s → Follows g s

abbrev pub CallKeepsGood : Type 0
CallKeepsGood = (g : Given) (s : Held) → Good s → Good (state_of g s)

-- ---- a run of calls

unfoldable pub state_after : List Given → Held → Held
state_after [] s = s
state_after (g ∷ gs) s = state_after gs (state_of g s)

unfoldable pub actions_after : List Given → Held → List CoordinationAction
actions_after [] s = []
actions_after (g ∷ gs) s = actions_of g s ++ actions_after gs (state_of g s)

pub record RunFollows (gs : List Given) (s : Held) : Type 0 where
  pub state : view (state_after gs s) ≡ (run_calls gs (view s)).state
  pub actions : actions_after gs s ≡ (run_calls gs (view s)).actions

abbrev pub RunFollowsRules : Type 0
RunFollowsRules = (gs : List Given) (s : Held) → Good s → RunFollows gs s

abbrev pub RunKeepsGood : Type 0
RunKeepsGood = (gs : List Given) (s : Held) → Good s → Good (state_after gs s)
