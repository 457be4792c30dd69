-- What `announce` answers is Publish's second half in every state beside the one it was lent. All published and the least candidate are walks over the
-- columns; the least candidate is one that a cell holds, so that its own cell holds it; the phase is told by its number. Assumes nothing.
use Rattle.std.specs.Prelude.{None, Option, Some}
use mathlib.Core.Path.{◌≡◌, refl, sym, ap, ◌∙◌}
use mathlib.Core.Bool.{Bool, true, false, cond}
use mathlib.Core.List.{[], ◌∷◌}
use Prim.Native.Nat.{ℕ}
use lib.Dec.{T, eqb}
use lib.ListN.{get_or}
use Rattle.records.specs.Numbers.{phase_number}
use Rattle.rules.specs.Model.{CoordinatedTermination, KeepAlive, LifecyclePolicy, Probe, Tag, TerminateWhenIdle}
use Rattle.rules.specs.Publication.{announce, idle_phase, idle_probe, least_candidate}
use Rattle.rules.proofs.Invariants.{and_intro}
use Rattle.state.specs.declared.FederateCoordinationState.{FederateCoordinationState as Held}
use Rattle.state.specs.declared.Coordination.{Coordination}
use Rattle.state.specs.declared.Gate.{Gate}
use Rattle.state.specs.Walk.{all_of, least_from}
use Rattle.state.specs.Beside.{SameListed}
use Rattle.state.specs.Cells.{cell_of, is_neat, optional_of, policy_of}
use Rattle.state.specs.View.{tag_at, view, neat_gate, represents}
use Rattle.state.specs.Parts.{with_coordination, with_gate}
use Rattle.state.proofs.Round.{number-phase, phase-below}
use Rattle.state.proofs.Kept.{least_kept, kept-neat}
use Rattle.state.proofs.Rows.{all-rows, least-rows, neat-cell}
use Rattle.state.proofs.Neat.{coordination-parts, coordination-whole, gate-parts, gate-whole, neat-coordination, neat-horizon}
use Rattle.publication.specs.Announce.{Announces, announcement, dropped_if, dropped_of}

-- ---- the phase by its number

probes : (m : Option Tag) (l : LifecyclePolicy) (r : ℕ) → cond (eqb (phase_number (idle_phase m l)) 1) (Probe r ∷ []) [] ≡ idle_probe m l r
probes None KeepAlive r = refl
probes None TerminateWhenIdle r = refl
probes None CoordinatedTermination r = refl
probes (Some t) l r = refl

-- ---- the parts once all are published

-- this phase, and this publication pending
abbrev with_pending : Coordination → ℕ → Tag → Tag → Coordination
with_pending c p t h =
    record c { phase = p; pending = true; pending_revision = c.revision; pending_next_event = t; pending_grant_horizon = h }

abbrev announced : Coordination → Tag → Tag → ℕ → Coordination
announced c t h l = with_pending c (phase_number (idle_phase (optional_of t) (policy_of l))) t h

-- the gate with nothing stored is as neat
pub dropped-neat : (b : Bool) (g : Gate) → T (neat_gate g) → T (neat_gate (dropped_if b g))
dropped-neat false g h = h
dropped-neat true g h =
    gate-whole (dropped_of g) (record {
      input_horizon = (gate-parts g h).input_horizon;
      granted = (gate-parts g h).granted;
      stored = neat-cell None tt;
      revision = tt;
    })

module _ (s : Held) (whole : T (represents s)) where
  announced-is : (e : ℕ) (resume : Bool) (t : Tag) → optional_of t ≡ least_candidate (view s)
      → let c = announced s.coordination t s.grant_horizon s.lifecycle in announce e resume (view s) ≡ record { state = view (with_gate (dropped_of s.gate) (with_coordination c s)); actions = announcement e resume c }
  unfolding announce
  announced-is e resume t h = rw (← h, number-phase, probes) refl

  announces-none : (x : Bool) → x ≡ all_of (λ j. get_or s.published j false) 0 s.count → x ≡ false → Announces s None
  announces-none x asked h = record { step = λ e resume. rw (all-rows s (λ p. p.published) ∙ sym asked ∙ h) refl; neat = tt }

  announces-all : (x : Bool) → x ≡ all_of (λ j. get_or s.published j false) 0 s.count → x ≡ true
      → (t : Tag) → t ≡ cell_of (least_from (λ j. optional_of (tag_at s j)) 0 s.count)
      → Announces s (Some (announced s.coordination t s.grant_horizon s.lifecycle))
  announces-all x asked h t least = record {
    step = λ e resume. rw (all-rows s (λ p. p.published) ∙ sym asked ∙ h) (announced-is e resume t held);
    neat = coordination-whole (announced s.coordination t s.grant_horizon s.lifecycle) (record {
      phase = phase-below (idle_phase (optional_of t) (policy_of s.lifecycle));
      authorization = (coordination-parts s.coordination (neat-coordination s whole)).authorization;
      publication = and_intro (is_neat t) (is_neat s.grant_horizon) (rw least (kept-neat cells keeps)) (neat-horizon s whole);
    });
  }
    where
      cells : Option Tag
      cells = least_from (λ j. optional_of (tag_at s j)) 0 s.count

      keeps : optional_of (cell_of cells) ≡ cells
      keeps = least_kept (λ j. tag_at s j) 0 s.count

      held : optional_of t ≡ least_candidate (view s)
      held = ap optional_of least ∙ keeps ∙ sym (least-rows s (λ p. p.candidate))

-- ---- in every state beside the one that was lent

module _ (t : Held) (c : Coordination) (x : Bool) (asked : x ≡ all_of (λ j. get_or t.published j false) 0 t.count) where
  pub announces-not : x ≡ false → (s : Held) → T (represents s) → SameListed s t → s.coordination ≡ c → Announces s None
  announces-not q s whole b k = announces-none s whole x (rw (b.published, b.count) asked) q

  pub announces-now : x ≡ true → (l : Tag) → l ≡ cell_of (least_from (λ j. optional_of (tag_at t j)) 0 t.count)
      → (p : ℕ) → p ≡ phase_number (idle_phase (optional_of l) (policy_of t.lifecycle)) → (s : Held) → T (represents s) → SameListed s t → s.coordination ≡ c
      → Announces s (Some (with_pending c p l t.grant_horizon))
  announces-now q l least p phase s whole b k =
      rw (phase, ← k, ← b.grant_horizon, ← b.lifecycle)
      (announces-all s whole x (rw (b.published, b.count) asked) q l (rw (b.seconds, b.nanoseconds, b.microsteps, b.count) least))
