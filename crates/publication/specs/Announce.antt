-- Document 01, "Publish", once all are published: what `announce` promises of every state that has what it was given. Assumes nothing.
use Rattle.std.specs.Prelude.{◌≡◌, Bool, true, cond, List, [], ◌∷◌, ◌++◌, ℕ, T, eqb, None, Option, Some}
use Rattle.rules.specs.Model.{Step, CoordinationAction, Publish, Resume, Probe}
use Rattle.rules.specs.Walk.{quiet}
use Rattle.rules.specs.Publication.{all_published, announce}
use Rattle.state.specs.declared.FederateCoordinationState.{FederateCoordinationState as Held}
use Rattle.state.specs.declared.Coordination.{Coordination}
use Rattle.state.specs.declared.Gate.{Gate}
use Rattle.state.specs.Cells.{absent, optional_of}
use Rattle.state.specs.View.{view, neat_coordination}
use Rattle.state.specs.Parts.{with_coordination, with_gate}

-- Publish with the pending publication, then Resume if told so, then Probe in phase Probing
abbrev pub announcement : ℕ → Bool → Coordination → List CoordinationAction
announcement e resume c =
    Publish (record { revision = c.pending_revision; next_event = optional_of c.pending_next_event; grant_horizon = optional_of c.pending_grant_horizon }) ∷
    cond resume (Resume e c.revision ∷ []) [] ++ cond (eqb c.phase 1) (Probe c.revision ∷ []) []

-- the stored acquisition dropped
abbrev pub dropped_of : Gate → Gate
dropped_of g = record g { stored_revision = 0; stored_granted = absent }

abbrev pub dropped_if : Bool → Gate → Gate
dropped_if b g = cond b (dropped_of g) g

-- once announced, with these small parts; else nothing changes
abbrev pub announced_step : Held → ℕ → Bool → Option Coordination → Step
announced_step s e resume None = quiet (view s)
announced_step s e resume (Some c) = record { state = view (with_gate (dropped_of s.gate) (with_coordination c s)); actions = announcement e resume c }

abbrev pub neat_if_present : Option Coordination → Bool
neat_if_present None = true
neat_if_present (Some c) = neat_coordination c

-- a announces in s if all are published there, and else changes nothing
pub record Announces (s : Held) (a : Option Coordination) : Type 0 where
  pub step : (e : ℕ) (resume : Bool) → cond (all_published (view s)) (announce e resume (view s)) (quiet (view s)) ≡ announced_step s e resume a
  pub neat : T (neat_if_present a)
