-- The announcement as records added one after the other: Publish, then Resume and Probe where they are said. Assumes nothing.
use Rattle.std.specs.Bool.{then_some}
use Rattle.std.specs.Prelude.{Option}
use mathlib.Core.Path.{◌≡◌, refl}
use mathlib.Core.Bool.{Bool, true, false, cond}
use mathlib.Core.List.{List, [], ◌∷◌}
use Prim.Native.Nat.{ℕ}
use lib.Dec.{eqb}
use Rattle.rules.specs.Model.{CoordinationAction, Publish, Resume, Probe}
use Rattle.state.specs.declared.Coordination.{Coordination}
use Rattle.state.specs.declared.Notice.{Notice}
use Rattle.state.specs.declared.Notice.TheVariants.{Probe as AsProbe, Resume as AsResume}
use Rattle.state.specs.Cells.{optional_of}
use Rattle.state.specs.Decides.{action_of, said_of}
use Rattle.publication.specs.Announce.{announcement}
use Rattle.emission.specs.Written.{Adds}
use Rattle.emission.proofs.Adding.{add-then}

said-if : (b : Bool) (n : Notice) (e r : ℕ) → said_of (then_some b n) e r ≡ cond b (action_of n e r ∷ []) []
said-if true n e r = refl
said-if false n e r = refl

-- the pending publication
abbrev pub publish_of : Coordination → CoordinationAction
publish_of c = Publish (record {
  revision = c.pending_revision;
  next_event = optional_of c.pending_next_event;
  grant_horizon = optional_of c.pending_grant_horizon;
})

pub announced : (c : Coordination) (resumes : Bool) (e : ℕ) (k l : Option Notice) (room room₁ room₂ room₃ : List ℕ) (n₁ n₂ n₃ : ℕ)
    → k ≡ then_some resumes AsResume → l ≡ then_some (eqb c.phase 1) AsProbe
    → Adds (publish_of c ∷ []) room 0 room₁ n₁ → Adds (said_of k e c.revision) room₁ n₁ room₂ n₂ → Adds (said_of l e c.revision) room₂ n₂ room₃ n₃
    → Adds (announcement e resumes c) room 0 room₃ n₃
announced c resumes e k l room room₁ room₂ room₃ n₁ n₂ n₃ u v f g h =
    let q = rw (u, said-if resumes AsResume e c.revision) at g in
    let r = rw (v, said-if (eqb c.phase 1) AsProbe e c.revision) at h in
    add-then (publish_of c ∷ cond resumes (Resume e c.revision ∷ []) []) (cond (eqb c.phase 1) (Probe c.revision ∷ []) []) room room₂ room₃ 0 n₂ n₃
    (add-then _ _ room room₁ room₂ 0 n₁ n₂ f q) r
