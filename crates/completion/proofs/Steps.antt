-- The completion step of a whole state, branch by branch: under the rules' tests it is the answer that the code makes of the cells (Cells), since a change
-- of the completion's cells is the rules' change of the state; and the rules' tests are those of the columns. Assumes nothing.
use Rattle.std.specs.Prelude.{None, Option, Some, Ok, Err}
use mathlib.Core.Path.{◌≡◌, refl, sym, ap₂, ◌∙◌}
use mathlib.Core.Bool.{Bool, true, false, cond}
use mathlib.Core.List.{[], ◌∷◌}
use Prim.Native.Nat.{ℕ, ◌+◌, ◌^◌}
use lib.Dec.{T, leb}
use Rattle.tags.specs.Tags.{◌≡ₜ◌, is_below, is_present, lesser_of_both, same_optional}
use Rattle.records.specs.declared.Refusal.TheVariants.{GenerationSpent}
use Rattle.rules.specs.Model.{Tag, Complete, OptionalInputs, State}
use Rattle.rules.specs.Set.{with_completed_frontier, with_pending_inputs}
use Rattle.rules.specs.Calls.{is_spent}
use Rattle.rules.specs.Walk.{quiet, is_stopped}
use Rattle.rules.specs.Completion.{inputs_left, finish, front_of, lags, blocks, is_held, next_generation, asks, probe_for, has_answered, all_answered, advance_to, advance_of, least_completed, complete_all}
use Rattle.state.specs.declared.FederateCoordinationState.{FederateCoordinationState as Held}
use Rattle.state.specs.declared.Completion.{Completion}
use Rattle.state.specs.Cells.{absent, is_absent, optional_of, cell_of}
use Rattle.state.specs.Walk.{all_of, any_of, least_from, greatest_from}
use Rattle.state.specs.View.{tag_at, view, represents}
use Rattle.state.specs.Parts.{with_completion}
use Rattle.state.proofs.Kept.{optional-kept, both-kept, greatest-kept, least_kept}
use Rattle.state.proofs.Rows.{all-rows, any-rows, greatest-rows, least-rows, each_rows}
use Rattle.state.proofs.Neat.{NeatCompletion, completion-parts, completion-whole, neat-completion}
use Rattle.table.specs.Scan.{blocks_at, answered_at}
use Rattle.completion.specs.Advance.{Advances, CompletesLeast}
use Rattle.completion.specs.Changes.{with_probe, with_generation, finished_at, reached_at, still_at, completing_at, probes_with, asking_at, unblocked_at}
use Rattle.completion.proofs.Cells.{present-at, same-present, Paired, pair_of, mark-is, finished-pair, paired, neat-absent, neat-present, neat-probed, neat-finished}

-- ---- f becomes the frontier

view-finished : (s : Held) (k : Completion) (f : Tag) → is_absent f ≡ false → Paired k
    → view (with_completion (finished_at f k) s) ≡ with_completed_frontier (Some f) (with_pending_inputs (inputs_left (pair_of k) f) (view (with_completion k s)))
view-finished s k f p q =
    ap₂ (λ (a : Option Tag) (b : OptionalInputs). with_completed_frontier a (with_pending_inputs b (view (with_completion k s)))) (present-at f p) (finished-pair k f q)

finish-is : (s : Held) (k : Completion) (f : Tag) → is_absent f ≡ false → Paired k
    → finish f (view (with_completion k s))
    ≡ record { state = view (with_completion (finished_at f k) s); actions = Complete (reached_at f k).frontier ∷ [] }
unfolding finish
finish-is s k f p q =
    sym (ap₂ (λ (m : State) (b : Bool). record { state = m; actions = Complete (record { completed = f; network_input = b }) ∷ [] }) (view-finished s k f p q) (mark-is k f))

module _ (s : Held) (whole : T (represents s)) where
  cells : NeatCompletion s.completion
  cells = completion-parts s.completion (neat-completion s whole)

  -- ---- the completion step of a whole state

  -- nothing is done
  still : advance_of (view s) ≡ quiet (view s) → is_spent (view s) ≡ false → Advances s (Ok (still_at s.completion))
  still p q = record { unspent = q; step = p; neat = neat-completion s whole }

  pub still-stopped : is_stopped (view s) ≡ true → Advances s (Ok (still_at s.completion))
  unfolding advance_of
  still-stopped p = still (rw p refl) (rw p refl)

  pub still-missing : is_stopped (view s) ≡ false → front_of (view s) ≡ None → Advances s (Ok (still_at s.completion))
  unfolding advance_of advance_to
  still-missing p q = still (rw (p, q) refl) (rw (p, q) refl)

  -- towards f
  module _ (f : Tag) (present : is_absent f ≡ false) (runs : is_stopped (view s) ≡ false) (front : front_of (view s) ≡ Some f) where
    to_held : is_held f (view s) ≡ true → Advances s (Ok (still_at (with_probe absent s.completion)))
    unfolding advance_of advance_to
    to_held h = record {
      unspent = rw (runs, front, h) refl;
      step = rw (runs, front, h) refl;
      neat = completion-whole (with_probe absent s.completion) (neat-probed s.completion absent cells s.completion.completion_generation neat-absent);
    }

    pub to-reached : is_below (optional_of s.completion.completed_frontier) f ≡ false → Advances s (Ok (still_at (with_probe absent s.completion)))
    to-reached h = to_held (rw h refl)

    module _ (passes : is_below (optional_of s.completion.completed_frontier) f ≡ true) where
      held-is : is_held f (view s) ≡ any_of (blocks_at s f) 0 s.count
      held-is = rw passes (any-rows s (blocks f))

      pub to-blocked : any_of (blocks_at s f) 0 s.count ≡ true → Advances s (Ok (still_at (with_probe absent s.completion)))
      to-blocked h = to_held (held-is ∙ h)

      module _ (unblocked : any_of (blocks_at s f) 0 s.count ≡ false) where
        free : is_held f (view s) ≡ false
        free = held-is ∙ unblocked

        module _ (asked : (s.completion.completion_probe ≡ₜ f) ≡ true) where
          same : same_optional (view s).completion_probe (Some f) ≡ true
          same = same-present s.completion.completion_probe f present ∙ asked

          to-waiting : all_answered f (view s) ≡ false → Advances s (Ok (still_at s.completion))
          unfolding advance_of advance_to
          to-waiting h = still (rw (runs, front, free, same, h) refl) (rw (runs, front, free, same) refl)

          to-answered : all_answered f (view s) ≡ true → Advances s (Ok (completing_at f s.completion))
          unfolding advance_of advance_to
          to-answered h = record {
            unspent = rw (runs, front, free, same) refl;
            step = rw (runs, front, free, same, h) (finish-is s (with_probe absent s.completion) f present (paired cells));
            neat = completion-whole (with_probe absent next) (neat-probed next absent (neat-finished s.completion f cells present) next.completion_generation neat-absent);
          }
            where
              next : Completion
              next = finished_at f s.completion

        to-asking : (s.completion.completion_probe ≡ₜ f) ≡ false → Advances s (asking_at f s.completion)
        unfolding advance_of advance_to probe_for
        to-asking asked = go (leb (2 ^ 64) next) refl
          where
            next : ℕ
            next = next_generation s.completion.completion_generation

            other : same_optional (view s).completion_probe (Some f) ≡ false
            other = same-present s.completion.completion_probe f present ∙ asked

            go : (x : Bool) → leb (2 ^ 64) next ≡ x → Advances s (cond x (Err GenerationSpent) (Ok (probes_with next f s.completion)))
            go true e = record { refusal = refl; spent = rw (runs, front, free, other, e) refl }
            go false e = record {
              unspent = rw (runs, front, free, other, e) refl;
              step = rw (runs, front, free, other, present, each_rows s (lags f) (asks next)) refl;
              neat = completion-whole (with_probe f (with_generation next s.completion)) (neat-probed s.completion f cells next (neat-present f present));
            }

        pub to-unblocked : (x : Bool) → all_of (answered_at s f s.completion.completion_generation) 0 s.count ≡ x → Advances s (unblocked_at x f s.completion)
        to-unblocked x h = go (s.completion.completion_probe ≡ₜ f) refl x (all-rows s (has_answered f s.completion.completion_generation) ∙ h)
          where
            go : (y : Bool) → (s.completion.completion_probe ≡ₜ f) ≡ y → (x : Bool) → all_answered f (view s) ≡ x
                → Advances s (cond y (Ok (cond x (completing_at f s.completion) (still_at s.completion))) (asking_at f s.completion))
            go true e true h = to-answered e h
            go true e false h = to-waiting e h
            go false e x h = to-asking e

  -- ---- the least completed tag

  pub least-missing : least_completed (view s).participants ≡ None → CompletesLeast s None
  unfolding complete_all
  least-missing m = record { step = rw m refl; neat = tt }

  module _ (l : Tag) (least : least_completed (view s).participants ≡ Some l) where
    pub least-passed : is_below (optional_of s.completion.completed_frontier) l ≡ false → CompletesLeast s None
    unfolding complete_all
    least-passed h = record { step = rw (least, h) refl; neat = tt }

    pub least-completes : is_absent l ≡ false → is_below (optional_of s.completion.completed_frontier) l ≡ true → CompletesLeast s (Some (reached_at l s.completion))
    unfolding complete_all
    least-completes present h = record {
      step = rw (least, h) (finish-is s s.completion l present (paired cells));
      neat = completion-whole (finished_at l s.completion) (neat-finished s.completion l cells present);
    }

-- ---- what the code reads of the columns

module _ (s : Held) where
  pub front-held : (f : Tag) → f ≡ cell_of (lesser_of_both (greatest_from (λ j. optional_of (tag_at s (32 + j))) 0 s.count) (optional_of s.grant_horizon))
      → front_of (view s) ≡ optional_of f
  front-held f e =
      rw (greatest-rows s (λ p. p.completed), e)
      (sym (both-kept _ (optional_of s.grant_horizon) (greatest-kept (λ j. tag_at s (32 + j)) 0 s.count) (optional-kept s.grant_horizon)))

  -- as the columns hold it
  abbrev pub least_in : Option Tag
  least_in = cond (all_of (λ j. is_present (optional_of (tag_at s (32 + j)))) 0 s.count) (least_from (λ j. optional_of (tag_at s (32 + j))) 0 s.count) None

  pub least-held : (l : Tag) → l ≡ cell_of least_in → least_completed (view s).participants ≡ optional_of l
  least-held l e =
      rw (all-rows s (λ p. is_present p.completed), least-rows s (λ p. p.completed), e)
      (sym (go (all_of (λ j. is_present (optional_of (tag_at s (32 + j)))) 0 s.count)))
    where
      least : Option Tag
      least = least_from (λ j. optional_of (tag_at s (32 + j))) 0 s.count

      go : (x : Bool) → optional_of (cell_of (cond x least None)) ≡ cond x least None
      go true = least_kept (λ j. tag_at s (32 + j)) 0 s.count
      go false = refl
