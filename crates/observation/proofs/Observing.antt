-- An observation on the cells: the test of a repeat and of all having it, the cell stored and all cells cleared are what the rule does to the
-- participants; the verdict on the numbers is the rule's. By the one place that holds the enclave. Assumes nothing.
use mathlib.Core.Path.{◌≡◌, refl, sym, ap, ◌∙◌}
use mathlib.Core.Bool.{Bool, true, false, not, cond, ◌&&◌}
use mathlib.Core.List.{List}
use Prim.Native.Nat.{ℕ, zero, suc, ◌+◌, ◌≤◌, ◌<◌}
use native.Mathlib.Omega.{arith}
use lib.Dec.{T, eqb}
use lib.ListN.{length, get_or, set, take, drop}
use lib.Seq.{get_or-set_other, drop-cons}
use native.Mathlib.Numerals.{add-one}
use Rattle.std.specs.List.{list_all}
use borrow.Author.Tests.{eqb-true, eqb-false}
use Rattle.records.specs.Numbers.{observation_number}
use Rattle.rules.specs.Model.{Stopped, AwaitingIdleConfirmation, Observation, Observed, Verdict, Ignored, observe}
use Rattle.rules.specs.Set.{with_participants}
use Rattle.rules.specs.Walk.{every, only, quiet}
use Rattle.rules.specs.Publication.{forget}
use Rattle.rules.specs.Observation.{verdict_of, is_refused, has_observed, observes, all_observed, observed_already, observe_by, unheard, observation_of}
use Rattle.rules.specs.Calls.{facts}
use Rattle.state.specs.declared.FederateCoordinationState.{FederateCoordinationState as Held}
use Rattle.state.specs.Cells.{phase_of, observation_of as cell_means}
use Rattle.state.specs.Walk.{all_of}
use Rattle.state.specs.View.{view, represents}
use Rattle.state.specs.Parts.{Sized, Seated, cleared}
use Rattle.state.proofs.Rows.{all-rows, all_same, only_row, every-row, cell-set-same, cleared-within}
use Rattle.state.proofs.Neat.{NeatPlace, place-parts, place-whole, neat-parts, represents-of}
use Rattle.state.proofs.Round.{observation-cell}
use Rattle.state.proofs.Seats.{any-seated}
use Rattle.observation.specs.Moves.{unheard_by}
use Rattle.observation.proofs.Numbers.{observed-cell, observation-bound}
use Rattle.observation.proofs.Deciding.{phase-is}

-- the state with these observations
abbrev pub with_observations : List ℕ → Held → Held
with_observations o s = record s { observation = o }

neat-with-observations : (s : Held) (o : List ℕ) → T (represents s) → ((j : ℕ) → j < s.count → get_or o j 0 ≤ 3) → T (represents (with_observations o s))
neat-with-observations s o h k =
    let v = neat-parts s h in
    represents-of (with_observations o s) (record {
      places = λ j l. place-whole (with_observations o s) j (place j l (place-parts s j (v.places j l)));
      coordination = v.coordination;
      completion = v.completion;
      gate = v.gate;
      horizon = v.horizon;
      failure = v.failure;
      policy = v.policy;
    })
  where
    place : (j : ℕ) → j < s.count → NeatPlace s j → NeatPlace (with_observations o s) j
    place j l w = record { candidate = w.candidate; completed = w.completed; started = w.started; observed = w.observed; observation = k j l }

-- ---- the walks

all-listed : (p : ℕ → Bool) (xs : List ℕ) (k n : ℕ) → k + n ≤ length xs → all_of (λ j. p (get_or xs j 0)) k n ≡ list_all p (take n (drop k xs))
unfolding all_of
all-listed p xs k zero h = refl
all-listed p xs k (suc n) h = rw (drop-cons xs k 0 (omega arith), ← add-one k) (ap (λ b. p (get_or xs k 0) && b) (all-listed p xs (k + 1) n (omega arith)))

-- the cell k is this observation's
module _ (s : Held) (h : T (represents s)) (o : Observation) (k : ℕ) (g : k ≡ observation_number o + 1) where
  cell-is : (j : ℕ) → j < s.count → has_observed o (cell_means (get_or s.observation j 0)) ≡ eqb (get_or s.observation j 0) k
  cell-is j l = rw g (observed-cell o (get_or s.observation j 0) (place-parts s j ((neat-parts s h).places j l)).observation)

  pub all-is : s.count ≤ length s.observation → all_observed o (view s) ≡ list_all (λ x. eqb x k) (take s.count s.observation)
  all-is few =
      all-rows s (λ p. has_observed o p.observation) ∙ all_same _ _ 0 s.count (λ j l m. cell-is j (omega arith)) ∙
      all-listed (λ x. eqb x k) s.observation 0 s.count (omega arith)

  pub already-is : (e i : ℕ) → Seated s e i → observed_already e o (view s) ≡ eqb (get_or s.observation i 0) k
  already-is e i d = any-seated s e i d (λ p. has_observed o p.observation) ∙ cell-is i d.within

-- ---- the cell stored

abbrev pub stored_at : Held → ℕ → ℕ → Held
stored_at s i k = with_observations (set s.observation i k) s

module _ (s : Held) (z : Sized s) (h : T (represents s)) (few : s.count ≤ 32) (e i : ℕ) (d : Seated s e i) (o : Observation) (k : ℕ) (g : k ≡ observation_number o + 1) where
  stored_here : get_or (set s.observation i k) i 0 ≡ k
  stored_here = let w = d.within in cell-set-same s.observation 32 i k 0 z.observation (omega arith)

  stored_other : (j : ℕ) → (j ≡ i → ⊥) → get_or (set s.observation i k) j 0 ≡ get_or s.observation j 0
  stored_other j n = get_or-set_other s.observation i j k 0 n

  pub stored-view : only e (observes o) (view s) ≡ view (stored_at s i k)
  stored-view =
      sym (ap (λ ps. with_participants ps (view s))
      (only_row s (stored_at s i k) e i (observes o) d refl (rw (stored_here, g, observation-cell (Observed o)) refl) (λ j l n. rw (stored_other j n) refl)))

  pub stored-neat : T (represents (stored_at s i k))
  stored-neat = neat-with-observations s (set s.observation i k) h (λ j l. go j l (eqb j i) refl)
    where
      go : (j : ℕ) → j < s.count → (b : Bool) → eqb j i ≡ b → get_or (set s.observation i k) j 0 ≤ 3
      go j l true q = rw (eqb-true j i q, stored_here) (let b = observation-bound o in omega arith)
      go j l false q = rw (stored_other j (eqb-false j i q)) (place-parts s j ((neat-parts s h).places j l)).observation

-- ---- all cells cleared

abbrev pub cleared_of : Held → Held
cleared_of s = with_observations (cleared s.count s.observation) s

module _ (s : Held) where
  pub cleared-view : every forget (view s) ≡ view (cleared_of s)
  cleared-view = sym (ap (λ ps. with_participants ps (view s)) (every-row s (cleared_of s) forget refl (λ j l. rw (cleared-within s.count s.observation j l) refl)))

  pub cleared-neat : T (represents s) → T (represents (cleared_of s))
  cleared-neat h = neat-with-observations s (cleared s.count s.observation) h (λ j l. rw (cleared-within s.count s.observation j l) (omega arith))

-- ---- the verdict

-- the table's, of an observation that is heard
abbrev pub judged_by : ℕ → Observation → Held → Verdict
judged_by r o s =
    cond (unheard_by s.coordination.phase s.coordination.revision r) Ignored (verdict_of (phase_of s.coordination.phase) o)

module _ (s : Held) (h : T (represents s)) (r : ℕ) (o : Observation) (v : Verdict) (q : v ≡ judged_by r o s) where
  abbrev ignored_if : Bool → Verdict
  ignored_if b = cond b Ignored (verdict_of (phase_of s.coordination.phase) o)

  unheard-is : unheard r (view s) ≡ unheard_by s.coordination.phase s.coordination.revision r
  unheard-is = rw (phase-is s h Stopped, phase-is s h AwaitingIdleConfirmation) refl

  pub wrong-is : (e : ℕ) → (facts (observe e r o)).wrong_in (view s) ≡ is_refused v
  wrong-is e = rw (unheard-is, q) (go (unheard_by s.coordination.phase s.coordination.revision r))
    where
      go : (b : Bool) → (not b && is_refused (ignored_if false)) ≡ is_refused (ignored_if b)
      go true = refl
      go false = refl

  pub observation-is : (e : ℕ) → observation_of e r o (view s) ≡ observe_by v e o (view s)
  unfolding observation_of observe_by
  observation-is e = rw (unheard-is, q) (go (unheard_by s.coordination.phase s.coordination.revision r))
    where
      go : (b : Bool) → cond b (quiet (view s)) (observe_by (ignored_if false) e o (view s)) ≡ observe_by (ignored_if b) e o (view s)
      go true = refl
      go false = refl
