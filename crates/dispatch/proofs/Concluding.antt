-- What `conclude` answers is the second half of a message's own rule: the parts as they are with an action, or what publication and completion answer,
-- in every state that has what was given. Assumes nothing.
use Rattle.std.specs.Prelude.{None, Option, Some}
use mathlib.Core.Path.{◌≡◌, refl}
use mathlib.Core.Bool.{Bool}
use Prim.Native.Nat.{ℕ}
use lib.Dec.{T}
use Rattle.state.specs.declared.FederateCoordinationState.{FederateCoordinationState as Held}
use Rattle.state.specs.declared.Coordination.{Coordination}
use Rattle.state.specs.declared.Completion.{Completion}
use Rattle.state.specs.declared.Notice.{Notice}
use Rattle.state.specs.declared.Next.TheVariants.{Announces, Completes, Says}
use Rattle.state.specs.View.{represents}
use Rattle.state.specs.Decides.{conclusion}
use Rattle.state.proofs.Neat.{neat-completion, neat-coordination}
use Rattle.completion.specs.declared.Least.{Least}
use Rattle.completion.specs.Advance.{CompletesLeast}
use Rattle.publication.specs.Announce as announce
use Rattle.dispatch.specs.declared.Said.{Said}
use Rattle.dispatch.specs.declared.Said.TheVariants.{Announcement, Completion as Completing, Word}
use Rattle.dispatch.specs.declared.Concluded.{Concluded}
use Rattle.dispatch.specs.Messages.{Concludes}

-- these parts, and what is said
abbrev concluded : Coordination → Completion → Said → Concluded
concluded c k a = record { coordination = c; completion = k; said = a }

module _ (c : Coordination) (k : Completion) (s : Held) (e : ℕ) (whole : T (represents s)) (is_coordination : s.coordination ≡ c) (is_completion : s.completion ≡ k) where
  pub concludes-says : (n : Option Notice) → Concludes s e (Says n) (concluded c k (Word n))
  unfolding conclusion
  concludes-says n = rw (← is_coordination, ← is_completion) (record { step = refl; coordination = neat-coordination s whole; completion = neat-completion s whole })

  pub concludes-announced : (resume : Bool) (a : Coordination) → announce.Announces s (Some a) → Concludes s e (Announces resume) (concluded a k (Announcement resume))
  unfolding conclusion
  concludes-announced resume a h = rw (← is_completion) (record { step = h.step e resume; coordination = h.neat; completion = neat-completion s whole })

  pub concludes-unannounced : (resume : Bool) → announce.Announces s None → Concludes s e (Announces resume) (concluded c k (Word None))
  unfolding conclusion
  concludes-unannounced resume h =
      rw (← is_coordination, ← is_completion)
      (record { step = h.step e resume; coordination = neat-coordination s whole; completion = neat-completion s whole })

  pub concludes-completed : (l : Least) → CompletesLeast s (Some l) → Concludes s e Completes (concluded c l.completion (Completing l.frontier))
  unfolding conclusion
  concludes-completed l h = rw (← is_coordination) (record { step = h.step; coordination = neat-coordination s whole; completion = h.neat })

  pub concludes-uncompleted : CompletesLeast s None → Concludes s e Completes (concluded c k (Word None))
  unfolding conclusion
  concludes-uncompleted h =
      rw (← is_coordination, ← is_completion) (record { step = h.step; coordination = neat-coordination s whole; completion = neat-completion s whole })
