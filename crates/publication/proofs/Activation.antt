-- What `activate` decides is Active's rule, in its two ways: the small parts agree by computation, the participants by the laws of Halves.
-- Assumes nothing.
use Rattle.std.specs.Prelude.{None, Some}
use mathlib.Core.Path.{◌≡◌, refl, sym, ap, ◌∙◌}
use mathlib.Core.Bool.{true, false}
use mathlib.Core.List.{List, [], ◌∷◌}
use Prim.Native.Nat.{ℕ}
use lib.Dec.{T, eqb}
use borrow.Author.Tests.{ne_eqb}
use Rattle.rules.specs.Model.{Participant, Resume}
use Rattle.rules.specs.Set.{with_participants}
use Rattle.rules.specs.Walk.{emit}
use Rattle.rules.specs.Publication.{activate_of, revise_of, unpublish}
use Rattle.state.specs.declared.FederateCoordinationState.{FederateCoordinationState as Held}
use Rattle.state.specs.declared.Coordination.{Coordination}
use Rattle.state.specs.declared.Completion.{Completion}
use Rattle.state.specs.declared.Parts.{Parts}
use Rattle.state.specs.declared.Decided.{Decided}
use Rattle.state.specs.declared.Notice.TheVariants.{Resume as Resumes}
use Rattle.state.specs.declared.Next.TheVariants.{Says}
use Rattle.state.specs.View.{view}
use Rattle.state.specs.Parts.{Seated, parts_of}
use Rattle.state.specs.Decides.{Decides, Good, conclusion, halfway, neat_parts}
use Rattle.publication.specs.Revise.{revised_of, unprobed_of}
use Rattle.state.proofs.Halves.{Goes, decides-by, rows-forgotten, rows-only, saying, stopped-is}
use Rattle.publication.proofs.Neat.{neat-revised, neat-unprobed, parts-of, parts_whole}

-- the enclave unpublished, and these small parts
abbrev unlisted : Parts → Coordination → Completion → Parts
unlisted p c k = record p { row = record p.row { published = false }; coordination = c; completion = k }

abbrev stopping : Parts → Decided
stopping p = saying None (unlisted p p.coordination (unprobed_of p.completion))

abbrev resuming : Parts → Decided
resuming p = record { parts = unlisted p (revised_of p.coordination) (unprobed_of p.completion); forgets = true; next = Says (Some Resumes) }

-- ---- each return, in a state that has the parts

module _ (e : ℕ) (s : Held) (i : ℕ) (g : Good s) (d : Seated s e i) where
  stopped-step : s.coordination.phase ≡ 6 → Goes (activate_of e) e stopping s i
  unfolding activate_of conclusion
  stopped-step h =
      rw (stopped-is s g.neat ∙ ap (λ n. eqb n 6) h)
      (ap (λ (ps : List Participant). emit [] (with_participants ps (view (halfway s i (stopping (parts_of s i))))))
      (sym (rows-only s e i (stopping (parts_of s i)).parts g d unpublish refl)))

  running-step : (s.coordination.phase ≡ 6 → ⊥) → Goes (activate_of e) e resuming s i
  unfolding activate_of revise_of conclusion
  running-step h =
      let t = halfway s i (resuming (parts_of s i)) in
      rw (stopped-is s g.neat ∙ ne_eqb s.coordination.phase 6 h)
      (ap (λ (ps : List Participant). emit (Resume e t.coordination.revision ∷ []) (with_participants ps (view t)))
      (sym (rows-forgotten s e i (resuming (parts_of s i)).parts g d unpublish refl)))

-- ---- each return, of the parts

module _ (p : Parts) (k : Completion) (u : k ≡ unprobed_of p.completion) where
  pub activate-stopped : p.coordination.phase ≡ 6 → (e : ℕ) → Decides (activate_of e) e p (saying None (unlisted p p.coordination k))
  activate-stopped h e = rw u (decides-by (activate_of e) e (λ z. z.coordination.phase ≡ 6) stopping (stopped-step e) p h)

  pub neat-stopped : T (neat_parts p) → T (neat_parts (unlisted p p.coordination k))
  neat-stopped h =
      let v = parts-of p h in
      rw u
      (parts_whole (unlisted p p.coordination (unprobed_of p.completion))
      (record { row = v.row; coordination = v.coordination; completion = neat-unprobed p.completion v.completion; failure = v.failure }))

  module _ (c : Coordination) (w : c ≡ revised_of p.coordination) where
    pub activate-running : (p.coordination.phase ≡ 6 → ⊥) → (e : ℕ)
        → Decides (activate_of e) e p (record { parts = unlisted p c k; forgets = true; next = Says (Some Resumes) })
    activate-running h e = rw (u, w) (decides-by (activate_of e) e (λ z. z.coordination.phase ≡ 6 → ⊥) resuming (running-step e) p h)

    pub neat-running : T (neat_parts p) → T (neat_parts (unlisted p c k))
    neat-running h =
        let v = parts-of p h in
        rw (u, w)
        (parts_whole (unlisted p (revised_of p.coordination) (unprobed_of p.completion))
        (record { row = v.row; coordination = neat-revised p.coordination; completion = neat-unprobed p.completion v.completion; failure = v.failure }))
