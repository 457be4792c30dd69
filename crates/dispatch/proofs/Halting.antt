-- What `participant_stopped` and `fail` decide is their rule: stopped, nothing; running, the parts of a halt, with every participant as it was.
-- Assumes nothing.
use Rattle.std.specs.Prelude.{None, Option, Some}
use Rattle.std.specs.Option.{is_some, unwrap_or}
use mathlib.Core.Path.{◌≡◌, refl, sym, ap, ap₂, ◌∙◌}
use mathlib.Core.Bool.{Bool}
use mathlib.Core.List.{List, [], ◌∷◌}
use Prim.Native.Nat.{ℕ}
use native.Mathlib.Omega.{arith}
use lib.Dec.{T, eqb}
use borrow.Author.Tests.{ne_eqb}
use Rattle.rules.specs.Model.{Abort, Participant, Stop}
use Rattle.rules.specs.Set.{with_first_failure, with_participants}
use Rattle.rules.specs.Walk.{emit}
use Rattle.rules.specs.Stop.{fail_of, stop_of}
use Rattle.state.specs.declared.Notice.TheVariants.{Abort as AsAbort, Stop as AsStop}
use Rattle.state.specs.declared.FederateCoordinationState.{FederateCoordinationState as Held}
use Rattle.state.specs.declared.Coordination.{Coordination}
use Rattle.state.specs.declared.Parts.{Parts}
use Rattle.state.specs.declared.Decided.{Decided}
use Rattle.state.specs.View.{view}
use Rattle.state.specs.Parts.{Seated, parts_of, without_pending}
use Rattle.state.specs.Decides.{Decides, Good, conclusion, halfway, neat_parts}
use Rattle.state.proofs.Neat.{neat-without-pending}
use Rattle.state.proofs.Round.{number-back, number-neat}
use Rattle.state.proofs.Halves.{Goes, decides-by, goes-nothing, rows-kept, saying, stopped-is}
use Rattle.publication.proofs.Neat.{parts-of, parts_whole}

-- the enclave's cells and the completion kept
abbrev halting : Parts → Coordination → Bool → ℕ → Parts
halting p c b n = record p { coordination = c; failed = b; first_failure = n }

abbrev stopping : Parts → Decided
stopping p = saying (Some AsStop) (halting p (without_pending 6 p.coordination) p.failed p.first_failure)

abbrev failing : Option ℕ → Parts → Decided
failing m p = saying (Some AsAbort) (halting p (without_pending 6 p.coordination) (is_some m) (unwrap_or m 0))

-- ---- in a state that has the parts

module _ (e : ℕ) (s : Held) (i : ℕ) (g : Good s) (d : Seated s e i) where
  stop-nothing : s.coordination.phase ≡ 6 → Goes stop_of e (saying None) s i
  unfolding stop_of
  stop-nothing h = goes-nothing stop_of e s i g d (rw (stopped-is s g.neat ∙ ap (λ n. eqb n 6) h) refl)

  stop_step : (s.coordination.phase ≡ 6 → ⊥) → Goes stop_of e stopping s i
  unfolding stop_of conclusion
  stop_step h =
      rw (stopped-is s g.neat ∙ ne_eqb s.coordination.phase 6 h)
      (ap (λ (ps : List Participant). emit (Stop ∷ []) (with_participants ps (view (halfway s i (stopping (parts_of s i))))))
      (sym (rows-kept s e i (stopping (parts_of s i)).parts g d refl)))

  fail-nothing : (m : Option ℕ) → s.coordination.phase ≡ 6 → Goes (fail_of m) e (saying None) s i
  unfolding fail_of
  fail-nothing m h = goes-nothing (fail_of m) e s i g d (rw (stopped-is s g.neat ∙ ap (λ n. eqb n 6) h) refl)

  fail-step : (m : Option ℕ) → (s.coordination.phase ≡ 6 → ⊥) → Goes (fail_of m) e (failing m) s i
  unfolding fail_of conclusion
  fail-step m h =
      let t = halfway s i (failing m (parts_of s i)) in
      rw (stopped-is s g.neat ∙ ne_eqb s.coordination.phase 6 h)
      (ap₂ (λ (ps : List Participant) (f : Option ℕ). emit (Abort ∷ []) (with_first_failure f (with_participants ps (view t))))
      (sym (rows-kept s e i (failing m (parts_of s i)).parts g d refl)) (sym (number-back m)))

-- ---- of the parts

module _ (p : Parts) (h : p.coordination.phase ≡ 6) (e : ℕ) where
  pub stop-stopped : Decides stop_of e p (saying None p)
  stop-stopped = decides-by stop_of e (λ z. z.coordination.phase ≡ 6) (saying None) (stop-nothing e) p h

  pub fail-stopped : (m : Option ℕ) → Decides (fail_of m) e p (saying None p)
  fail-stopped m = decides-by (fail_of m) e (λ z. z.coordination.phase ≡ 6) (saying None) (λ s i g d. fail-nothing e s i g d m) p h

module _ (p : Parts) (c : Coordination) (u : c ≡ without_pending 6 p.coordination) where
  pub stop-running : (p.coordination.phase ≡ 6 → ⊥) → (e : ℕ) → Decides stop_of e p (saying (Some AsStop) (halting p c p.failed p.first_failure))
  stop-running h e = rw u (decides-by stop_of e (λ z. z.coordination.phase ≡ 6 → ⊥) stopping (stop_step e) p h)

  pub neat-stopping : T (neat_parts p) → T (neat_parts (halting p c p.failed p.first_failure))
  neat-stopping h =
      let v = parts-of p h in
      let halts = neat-without-pending p.coordination 6 (omega arith) v.coordination in
      rw u (parts_whole (stopping p).parts (record { row = v.row; coordination = halts; completion = v.completion; failure = v.failure }))

  pub fail-running : (m : Option ℕ) → (p.coordination.phase ≡ 6 → ⊥) → (e : ℕ) → Decides (fail_of m) e p (saying (Some AsAbort) (halting p c (is_some m) (unwrap_or m 0)))
  fail-running m h e =
      rw u (decides-by (fail_of m) e (λ z. z.coordination.phase ≡ 6 → ⊥) (failing m) (λ s i g d. fail-step e s i g d m) p h)

  pub neat-failing : (m : Option ℕ) → T (neat_parts p) → T (neat_parts (halting p c (is_some m) (unwrap_or m 0)))
  neat-failing m h =
      let v = parts-of p h in
      let halts = neat-without-pending p.coordination 6 (omega arith) v.coordination in
      rw u (parts_whole (failing m p).parts (record { row = v.row; coordination = halts; completion = v.completion; failure = number-neat m }))
