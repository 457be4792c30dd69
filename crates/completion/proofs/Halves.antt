-- The first halves of CompleteTag and of CompletionObserved, branch by branch: the parts that the code stores are, in every good state that has the given
-- ones, the rules' change of the enclave's participant and of the pending pair. Assumes nothing.
use Rattle.std.specs.Prelude.{None, Some}
use mathlib.Core.Path.{◌≡◌, refl, sym, ap, ap₂, ◌∙◌}
use mathlib.Core.Bool.{Bool, true, false, cond, ◌&&◌}
use mathlib.Core.List.{List, map}
use Prim.Native.Nat.{ℕ}
use lib.Dec.{T, eqb}
use Rattle.tags.specs.Tags.{is_below, is_proper}
use Rattle.rules.specs.Model.{Tag, OptionalInputs, Participant, State, Step}
use Rattle.rules.specs.Set.{with_completed, with_completion_observed, with_participants, with_pending_inputs}
use Rattle.rules.specs.Walk.{at, only, quiet, is_stopped}
use Rattle.rules.specs.Completion.{least_completed, complete_all, noted, complete_by, complete_tag_of, answers_probe, observed_of}
use Rattle.state.specs.declared.FederateCoordinationState.{FederateCoordinationState as Held}
use Rattle.state.specs.declared.Completion.{Completion}
use Rattle.state.specs.declared.Parts.{Parts}
use Rattle.state.specs.declared.Next.TheVariants.{Says, Completes}
use Rattle.state.specs.declared.Decided.{Decided}
use Rattle.state.specs.Cells.{is_absent, optional_of, is_neat, is_zero_unless}
use Rattle.state.specs.View.{row_at, rows_of, view, neat_coordination, neat_completion}
use Rattle.state.specs.Parts.{Seated, parts_of, rebuilt}
use Rattle.state.specs.Decides.{Good, Decides, conclusion, neat_row, neat_parts}
use Rattle.state.proofs.Rows.{found, proper-present}
use Rattle.state.proofs.Neat.{and_parts, completion-parts, completion-whole}
use Rattle.completion.specs.Changes.{widened_by}
use Rattle.state.proofs.Halves.{stopped-is, rows-only, view-kept}
use Rattle.completion.proofs.Cells.{widened-pair, neat-present, neat-widened}

-- nothing is done
abbrev pub unchanged : Parts → Decided
unchanged p = record { parts = p; forgets = false; next = Says None }

decides-nothing : (rule : State → Step) (e : ℕ) (p : Parts)
    → ((s : Held) (i : ℕ) → Good s → Seated s e i → parts_of s i ≡ p → rule (view s) ≡ quiet (view s)) → Decides rule e p (unchanged p)
unfolding conclusion
decides-nothing rule e p h s i good d eq = h s i good d eq ∙ rw (← eq) (ap quiet (sym (view-kept s e i good d)))

-- ---- conjuncts replaced

neat-swap : (a b c d x y : Bool) → (T a → T x) → (T c → T y) → T (a && b && c && d) → T (x && b && y && d)
neat-swap a b c d x y f g h =
    let r = simp and_parts at h in simp and_parts (((f r.0.0.0, r.0.0.1), g r.0.1), r.1)

second-of-three : (a b c x : Bool) → T x → T (a && b && c) → T (a && x && c)
second-of-three a b c x k h = let r = simp and_parts at h in simp and_parts ((r.0.0, k), r.1)

third-of-three : (a b c x : Bool) → T x → T (a && b && c) → T (a && b && x)
third-of-three a b c x k h = let r = simp and_parts at h in simp and_parts ((r.0.0, r.0.1), k)

-- ---- CompleteTag

-- the parts with the tag stored and these completion cells
abbrev pub completed_with : Completion → Tag → Parts → Decided
completed_with u t p = record {
  parts = record {
    row = record { published = p.row.published; candidate = p.row.candidate; completed = t; acknowledged = p.row.acknowledged; completion_observed = p.row.completion_observed };
    coordination = p.coordination;
    completion = u;
    failed = p.failed;
    first_failure = p.first_failure;
  };
  forgets = false;
  next = Completes;
}

module _ (e : ℕ) (t : Tag) (network : Bool) (p : Parts) where
  stopped_by : (s : Held) (i : ℕ) → Good s → parts_of s i ≡ p → is_stopped (view s) ≡ eqb p.coordination.phase 6
  stopped_by s i good eq = stopped-is s good.neat ∙ ap (λ (q : Parts). eqb q.coordination.phase 6) eq

  below_by : (s : Held) (i : ℕ) → parts_of s i ≡ p → is_below (row_at s i).completed t ≡ is_below (optional_of p.row.completed) t
  below_by s i eq = ap (λ (q : Parts). is_below (optional_of q.row.completed) t) eq

  pub complete-stopped : eqb p.coordination.phase 6 ≡ true → Decides (complete_tag_of e t network) e p (unchanged p)
  unfolding complete_tag_of
  complete-stopped h = decides-nothing (complete_tag_of e t network) e p (λ s i good d eq. rw (stopped_by s i good eq ∙ h) refl)

  pub complete-passed : eqb p.coordination.phase 6 ≡ false → is_below (optional_of p.row.completed) t ≡ false
      → Decides (complete_tag_of e t network) e p (unchanged p)
  unfolding complete_tag_of complete_by
  complete-passed h l =
      decides-nothing (complete_tag_of e t network) e p
      (λ s i good d eq. rw (stopped_by s i good eq ∙ h, found s e i d, below_by s i eq ∙ l) refl)

  module _ (u : Completion) (wide : u ≡ cond network (widened_by t p.completion) p.completion) (proper : T (is_proper t)) where
    pub complete-stores : eqb p.coordination.phase 6 ≡ false → is_below (optional_of p.row.completed) t ≡ true
        → Decides (complete_tag_of e t network) e p (completed_with u t p)
    unfolding complete_tag_of complete_by conclusion
    complete-stores h l s i good d eq =
        rw (stopped_by s i good eq ∙ h, found s e i d, below_by s i eq ∙ l, wide, ← eq)
        (ap (λ (m : State). complete_all (least_completed m.participants) m) (sym (stored network)))
      where
        here : is_absent t ≡ false
        here = proper-present t proper

        -- the parts, where network input is b
        then : Bool → Parts
        then b = (completed_with (cond b (widened_by t s.completion) s.completion) t (parts_of s i)).parts

        rows : (b : Bool) → rows_of (rebuilt s i (then b) s.observation s.gate) ≡ map (at e (with_completed (Some t))) (rows_of s)
        rows b = rows-only s e i (then b) good d (with_completed (Some t)) (rw here refl)

        stored : (b : Bool) → view (rebuilt s i (then b) s.observation s.gate) ≡ noted e t b (view s)
        stored true =
            ap₂ (λ (ps : List Participant) (m : OptionalInputs). with_pending_inputs m (with_participants ps (view s)))
            (rows true) (widened-pair s.completion t here)
        stored false = ap (λ (ps : List Participant). with_participants ps (view s)) (rows false)

pub complete-neat : (t : Tag) (network : Bool) (p : Parts) (u : Completion) → u ≡ cond network (widened_by t p.completion) p.completion
    → T (is_proper t) → T (neat_parts p) → T (neat_parts (completed_with u t p).parts)
complete-neat t network p u wide proper h =
    neat-swap (neat_row p.row) (neat_coordination p.coordination) (neat_completion p.completion) (is_zero_unless p.failed p.first_failure)
    (neat_row (completed_with u t p).parts.row) (neat_completion u)
    (second-of-three (is_neat p.row.candidate) (is_neat p.row.completed) (is_zero_unless p.row.acknowledged p.row.completion_observed)
    (is_neat t) (neat-present t here))
    (λ k. rw wide (cells network k)) h
  where
    here : is_absent t ≡ false
    here = proper-present t proper

    cells : (b : Bool) → T (neat_completion p.completion) → T (neat_completion (cond b (widened_by t p.completion) p.completion))
    cells true k = completion-whole (widened_by t p.completion) (neat-widened p.completion t (completion-parts p.completion k) here)
    cells false k = k

-- ---- CompletionObserved

-- the parts with the generation observed
abbrev pub observed_with : ℕ → Parts → Decided
observed_with g p = record {
  parts = record {
    row = record { published = p.row.published; candidate = p.row.candidate; completed = p.row.completed; acknowledged = true; completion_observed = g };
    coordination = p.coordination;
    completion = p.completion;
    failed = p.failed;
    first_failure = p.first_failure;
  };
  forgets = false;
  next = Says None;
}

module _ (e g : ℕ) (p : Parts) where
  probed-by : (s : Held) (i : ℕ) → parts_of s i ≡ p → is_absent s.completion.completion_probe ≡ is_absent p.completion.completion_probe
  probed-by s i eq = ap (λ (q : Parts). is_absent q.completion.completion_probe) eq

  current-by : (s : Held) (i : ℕ) → parts_of s i ≡ p → eqb g s.completion.completion_generation ≡ eqb g p.completion.completion_generation
  current-by s i eq = ap (λ (q : Parts). eqb g q.completion.completion_generation) eq

  pub observed-unasked : is_absent p.completion.completion_probe ≡ true → Decides (observed_of e g) e p (unchanged p)
  unfolding observed_of
  observed-unasked h = decides-nothing (observed_of e g) e p (λ s i good d eq. rw (probed-by s i eq ∙ h) refl)

  module _ (asked : is_absent p.completion.completion_probe ≡ false) where
    pub observed-outdated : eqb g p.completion.completion_generation ≡ false → Decides (observed_of e g) e p (unchanged p)
    unfolding observed_of
    observed-outdated h = decides-nothing (observed_of e g) e p (λ s i good d eq. rw (probed-by s i eq ∙ asked, current-by s i eq ∙ h) refl)

    pub observed-stores : eqb g p.completion.completion_generation ≡ true → Decides (observed_of e g) e p (observed_with g p)
    unfolding observed_of conclusion
    observed-stores h s i good d eq = kept ∙ rw (← eq) (ap (λ (ps : List Participant). quiet (with_participants ps (view s))) (sym rows))
      where
        answers : answers_probe g (view s) ≡ true
        answers = rw (probed-by s i eq ∙ asked, current-by s i eq ∙ h) refl

        kept : observed_of e g (view s) ≡ quiet (only e (with_completion_observed (Some g)) (view s))
        kept = rw answers refl

        rows : rows_of (rebuilt s i (observed_with g (parts_of s i)).parts s.observation s.gate) ≡ map (at e (with_completion_observed (Some g))) (rows_of s)
        rows = rows-only s e i (observed_with g (parts_of s i)).parts good d (with_completion_observed (Some g)) refl

pub observed-neat : (g : ℕ) (p : Parts) → T (neat_parts p) → T (neat_parts (observed_with g p).parts)
observed-neat g p h =
    neat-swap (neat_row p.row) (neat_coordination p.coordination) (neat_completion p.completion) (is_zero_unless p.failed p.first_failure)
    (neat_row (observed_with g p).parts.row) (neat_completion p.completion)
    (third-of-three (is_neat p.row.candidate) (is_neat p.row.completed) (is_zero_unless p.row.acknowledged p.row.completion_observed)
    true tt)
    (λ k. k) h
