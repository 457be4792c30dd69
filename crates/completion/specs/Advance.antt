-- Document 01, "After every taken scheduler message, if running", as the code takes it: what `advance_completion` and `complete_least` promise of
-- every state that has what they were given. Assumes nothing.
use Rattle.std.specs.Prelude.{◌≡◌, true, false, List, [], ◌∷◌, ℕ, ◌+◌, T, get_or, None, Option, Some, Result, Ok, Err}
use Rattle.tags.specs.Tags.{is_below}
use Rattle.records.specs.declared.Refusal.{Refusal}
use Rattle.records.specs.declared.Refusal.TheVariants.{GenerationSpent}
use Rattle.rules.specs.Model.{Tag, CoordinationAction, Complete, CompletionProbe, Step}
use Rattle.rules.specs.Walk.{quiet}
use Rattle.rules.specs.Completion.{advance_of, least_completed, complete_all}
use Rattle.rules.specs.Calls.{is_spent}
use Rattle.state.specs.declared.FederateCoordinationState.{FederateCoordinationState as Held}
use Rattle.state.specs.Cells.{optional_of}
use Rattle.state.specs.Walk.{each_from}
use Rattle.state.specs.View.{tag_at, view, neat_completion}
use Rattle.state.specs.Parts.{with_completion}
use Rattle.completion.specs.declared.Saying.{Saying}
use Rattle.completion.specs.declared.Saying.TheVariants.{Nothing, Probes, Completes}
use Rattle.completion.specs.declared.Advanced.{Advanced}
use Rattle.completion.specs.declared.Least.{Least}

-- a CompletionProbe to each lagging enclave
abbrev pub probes_at : Held → Tag → ℕ → List CoordinationAction
probes_at s f g =
    each_from (λ j. is_below (optional_of (tag_at s (32 + j))) f) (λ j. CompletionProbe (get_or s.enclaves j 0) g) 0 s.count

-- the actions that the completion step says, under this generation
abbrev pub sayings : Held → Saying → ℕ → List CoordinationAction
sayings s Nothing g = []
sayings s (Probes f) g = probes_at s f g
sayings s (Completes c) g = Complete c ∷ []

-- a is the completion step in s, which does not spend the generations
pub record Steps (s : Held) (a : Advanced) : Type 0 where
  pub unspent : is_spent (view s) ≡ false
  pub step : advance_of (view s) ≡ record { state = view (with_completion a.completion s); actions = sayings s a.saying a.completion.completion_generation }
  pub neat : T (neat_completion a.completion)

-- the generation would rise past 2^64 - 1: 9
pub record Spends (s : Held) (e : Refusal) : Type 0 where
  pub refusal : e ≡ GenerationSpent
  pub spent : is_spent (view s) ≡ true

-- r is the completion step in s, or its refusal
abbrev pub Advances : Held → Result Advanced Refusal → Type 0
Advances s (Ok a) = Steps s a
Advances s (Err e) = Spends s e

-- the step that completes so in s, or does not
abbrev pub least_step : Held → Option Least → Step
least_step s None = quiet (view s)
least_step s (Some l) = record { state = view (with_completion l.completion s); actions = Complete l.frontier ∷ [] }

abbrev pub is_neat_least : Option Least → Type 0
is_neat_least None = Unit {0}
is_neat_least (Some l) = T (neat_completion l.completion)

-- r completes the least completed tag of s, where all have one and it passes the frontier
pub record CompletesLeast (s : Held) (r : Option Least) : Type 0 where
  pub step : complete_all (least_completed (view s).participants) (view s) ≡ least_step s r
  pub neat : is_neat_least r
