-- The rules that change the coordination alone, in a state that holds one of document 01: each test of the code is the rule's, the phase and the policy
-- being numbers of a case, and what the code sets is what the rule sets, field by field. Assumes nothing.
use Rattle.std.specs.Prelude.{None, Some}
use mathlib.Core.Path.{◌≡◌, refl, sym, ap, ◌∙◌}
use mathlib.Core.Bool.{Bool, true, false, not, ◌&&◌}
use Prim.Native.Nat.{ℕ, ◌≤◌}
use native.Mathlib.Omega.{arith}
use lib.Dec.{T, eqb}
use borrow.Author.Tests.{eq-eqb, ne_eqb}
use Rattle.records.specs.Numbers.{phase_number, next_revision}
use Rattle.rules.specs.Model.{CoordinationPhase, Stopped, AwaitingIdleConfirmation, Probed, HasParked, Rechecked, State, Step}
use Rattle.rules.specs.Walk.{is, is_number}
use Rattle.rules.specs.Stop.{stop_of}
use Rattle.rules.specs.Observation.{agreed, idle_confirmation_of, lacks_authorization, awaits}
use Rattle.state.specs.declared.FederateCoordinationState.{FederateCoordinationState as Held}
use Rattle.state.specs.declared.Coordination.{Coordination}
use Rattle.state.specs.Cells.{absent, number_if}
use Rattle.state.specs.View.{view, represents, neat_coordination}
use Rattle.state.specs.Parts.{without_pending}
use Rattle.state.proofs.Neat.{coordination-parts, coordination-whole, neat-coordination, neat-without-pending, no-publication, phase-bound, policy-bound}
use Rattle.state.specs.declared.Notice.TheVariants.{Probe as AsProbe, Park as AsPark, Recheck as AsRecheck, Stop as AsStop}
use Rattle.observation.specs.declared.Moved.{Moved}
use Rattle.observation.specs.Moves.{Moves, in_phase}
use Rattle.state.proofs.Round.{phase-number}
use Rattle.observation.proofs.Numbers.{coordinated-numbered}

-- the coordination once idle is confirmed, with this revision
abbrev probing : ℕ → Coordination
probing n = record {
  revision = n;
  phase = 1;
  authorized = true;
  idle_authorization = n;
  pending = false;
  pending_revision = 0;
  pending_next_event = absent;
  pending_grant_horizon = absent;
}

-- ---- no hidden cell

neat-in-phase : (c : Coordination) (k : ℕ) → k ≤ 6 → T (neat_coordination c) → T (neat_coordination (in_phase k c))
neat-in-phase c k h n =
    let v = coordination-parts c n in
    coordination-whole (in_phase k c) (record { phase = h; authorization = v.authorization; publication = v.publication })

neat-probing : (n : ℕ) → T (neat_coordination (probing n))
neat-probing n = coordination-whole (probing n) (record { phase = omega arith; authorization = tt; publication = no-publication })

-- ---- the tests

module _ (s : Held) (h : T (represents s)) where
  pub phase-is : (k : CoordinationPhase) → is k (view s) ≡ eqb s.coordination.phase (phase_number k)
  phase-is k = ap (λ n. eqb n (phase_number k)) (phase-number s.coordination.phase (phase-bound s h))

  abbrev authorized_now : Bool
  authorized_now = is_number (number_if s.coordination.authorized s.coordination.idle_authorization) s.coordination.revision

  lacks-is : lacks_authorization (view s) ≡ (eqb s.lifecycle 2 && not authorized_now)
  lacks-is = ap (λ b. b && not authorized_now) (coordinated-numbered s.lifecycle (policy-bound s h))

  awaits-is : (r : ℕ) → awaits r (view s) ≡ (eqb s.coordination.phase 5 && eqb r s.coordination.revision)
  awaits-is r = ap (λ b. b && eqb r s.coordination.revision) (phase-is AwaitingIdleConfirmation)

-- ---- each return, for the coordination c that was given and the answer d

module _ (s : Held) (h : T (represents s)) (c : Coordination) (e : s.coordination ≡ c) (d : Moved) where
  given : (rule : State → Step) (f : Coordination → Moved) → d ≡ f c → Moves rule s (f s.coordination) → Moves rule s d
  given rule f g m = rw (g, ← e) m

  pub stop-stopped : d ≡ record { coordination = c; says = None } → c.phase ≡ 6 → Moves stop_of s d
  unfolding stop_of
  stop-stopped g p =
      let t = phase-is s h Stopped ∙ eq-eqb _ 6 (ap (λ x. x.phase) e ∙ p) in
      given stop_of (λ x. record { coordination = x; says = None }) g (record { step = rw t refl; neat = neat-coordination s h })

  pub stop-running : d ≡ record { coordination = without_pending 6 c; says = Some AsStop } → (c.phase ≡ 6 → ⊥) → Moves stop_of s d
  unfolding stop_of
  stop-running g p =
      let t = phase-is s h Stopped ∙ ne_eqb _ 6 (λ q. p (sym (ap (λ x. x.phase) e) ∙ q)) in
      given stop_of (λ x. record { coordination = without_pending 6 x; says = Some AsStop }) g
      (record { step = rw t refl; neat = neat-without-pending s.coordination 6 (omega arith) (neat-coordination s h) })

  pub agreed-probed : d ≡ record { coordination = in_phase 2 c; says = Some AsPark } → Moves (agreed Probed) s d
  unfolding agreed
  agreed-probed g =
      given (agreed Probed) (λ x. record { coordination = in_phase 2 x; says = Some AsPark }) g
      (record { step = refl; neat = neat-in-phase s.coordination 2 (omega arith) (neat-coordination s h) })

  pub agreed-parked : d ≡ record { coordination = in_phase 3 c; says = Some AsRecheck } → Moves (agreed HasParked) s d
  unfolding agreed
  agreed-parked g =
      given (agreed HasParked) (λ x. record { coordination = in_phase 3 x; says = Some AsRecheck }) g
      (record { step = refl; neat = neat-in-phase s.coordination 3 (omega arith) (neat-coordination s h) })

  module _ (l : ℕ) (k : s.lifecycle ≡ l) (b : Bool) (a : b ≡ (eqb l 2 && not (is_number (number_if c.authorized c.idle_authorization) c.revision))) where
    lacks-given : lacks_authorization (view s) ≡ b
    lacks-given = rw (a, ← k, ← e) (lacks-is s h)

    pub agreed-awaits : d ≡ record { coordination = in_phase 5 c; says = None } → b ≡ true → Moves (agreed Rechecked) s d
    unfolding agreed
    agreed-awaits g t =
        given (agreed Rechecked) (λ x. record { coordination = in_phase 5 x; says = None }) g
        (record { step = rw (lacks-given ∙ t) refl; neat = neat-in-phase s.coordination 5 (omega arith) (neat-coordination s h) })

    pub agreed-stops : Moves stop_of s d → b ≡ false → Moves (agreed Rechecked) s d
    unfolding agreed
    agreed-stops m t = record { step = rw (lacks-given ∙ t) m.step; neat = m.neat }

  module _ (r : ℕ) (b : Bool) (a : b ≡ (eqb c.phase 5 && eqb r c.revision)) where
    awaits_given : awaits r (view s) ≡ b
    awaits_given = rw (a, ← e) (awaits-is s h r)

    pub idle-quiet : d ≡ record { coordination = c; says = None } → b ≡ false → Moves (idle_confirmation_of r) s d
    unfolding idle_confirmation_of
    idle-quiet g t =
        given (idle_confirmation_of r) (λ x. record { coordination = x; says = None }) g (record { step = rw (awaits_given ∙ t) refl; neat = neat-coordination s h })

    pub idle-probes : (n : ℕ) → n ≡ next_revision c.revision → d ≡ record { coordination = probing n; says = Some AsProbe } → b ≡ true
        → Moves (idle_confirmation_of r) s d
    unfolding idle_confirmation_of
    idle-probes n q g t =
        rw (g, q, ← e) (record { step = rw (awaits_given ∙ t) refl; neat = neat-probing (next_revision s.coordination.revision) })
