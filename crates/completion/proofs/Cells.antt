-- The rules' tests and the pending pair on the cells that hold them: an optional tag by its cell, the pair of inputs by its two cells. By cases on what is absent. Assumes nothing.
use Rattle.std.specs.Prelude.{None, Some}
use mathlib.Core.Path.{◌≡◌, refl, sym, ap, ◌∙◌, subst}
use mathlib.Core.Bool.{Bool, true, false, not, cond}
use Prim.Native.Nat.{ℕ}
use lib.Dec.{T}
use Rattle.tags.specs.Tags.{◌≡ₜ◌, ◌≤ₜ◌, is_at_or_below, same_optional}
use Rattle.rules.specs.Completion.{inputs_left, marked, widened}
use Rattle.rules.specs.Model.{Inputs, NoInputs, OptionalInputs, Tag}
use Rattle.state.specs.Cells.{absent, inputs_of, is_absent, is_neat, optional_of}
use Rattle.state.proofs.Neat.{NeatCompletion}
use Rattle.state.proofs.Rows.{neat-cell, same_tag}
use Rattle.completion.specs.Changes.{finished_at, is_reached, widened_by, with_generation, with_probe}
use Rattle.state.specs.declared.Completion.{Completion}

-- ---- one cell

-- what both are the chosen one is
either : (P : Tag → Type 0) (x : Bool) (a b : Tag) → P a → P b → P (cond x a b)
either P true a b p q = p
either P false a b p q = q

pub present-at : (t : Tag) → is_absent t ≡ false → optional_of t ≡ Some t
present-at t e = rw e refl

pub same-present : (a f : Tag) → is_absent f ≡ false → same_optional (optional_of a) (Some f) ≡ (a ≡ₜ f)
same-present a f p = go (is_absent a) refl
  where
    differs : is_absent a ≡ true → (x : Bool) → (a ≡ₜ f) ≡ x → x ≡ false
    differs e true y =
        let h : T (a ≡ₜ f) = subst T (sym y) tt in
        sym e ∙ ap is_absent (same_tag a f h) ∙ p
    differs e false y = refl

    go : (b : Bool) → is_absent a ≡ b → same_optional (cond b None (Some a)) (Some f) ≡ (a ≡ₜ f)
    go true e = sym (differs e (a ≡ₜ f) refl)
    go false e = refl

-- ---- the pending pair

-- both inputs are there or neither
abbrev pub Paired : Completion → Type 0
Paired k = is_absent k.first_input ≡ is_absent k.last_input

abbrev pub pair_of : Completion → OptionalInputs
pair_of k = inputs_of k.first_input k.last_input

module _ (k : Completion) (f : Tag) where
  pub mark-is : is_reached k.first_input f ≡ marked (pair_of k) f
  mark-is = go (is_absent k.first_input)
    where
      go : (b : Bool) → is_at_or_below (cond b None (Some k.first_input)) f ≡ marked (cond b NoInputs (Inputs k.first_input k.last_input)) f
      go true = refl
      go false = refl

  pub finished-pair : Paired k → pair_of (finished_at f k) ≡ inputs_left (pair_of k) f
  finished-pair p = go (is_absent k.first_input) refl
    where
      drop : is_absent k.first_input ≡ false → (x : Bool)
          → inputs_of (cond x absent k.first_input) (cond x absent k.last_input) ≡ cond x NoInputs (Inputs k.first_input k.last_input)
      drop e true = refl
      drop e false = rw e refl

      go : (b : Bool) → is_absent k.first_input ≡ b → pair_of (finished_at f k) ≡ inputs_left (cond b NoInputs (Inputs k.first_input k.last_input)) f
      go true e = rw (sym p ∙ e, e) refl
      go false e = rw (sym p ∙ e) (drop e (k.last_input ≤ₜ f))

  -- the pair of widened cells
  pub widened-pair : is_absent f ≡ false → pair_of (widened_by f k) ≡ widened true f (pair_of k)
  widened-pair p = go (is_absent k.first_input) refl
    where
      go : (b : Bool) → is_absent k.first_input ≡ b → pair_of (widened_by f k) ≡ widened true f (cond b NoInputs (Inputs k.first_input k.last_input))
      go true e = rw (e, p) refl
      go false e = rw (e, either (λ t. is_absent t ≡ false) (k.first_input ≤ₜ f) k.first_input f e p) refl

-- ---- neat cells

pub paired : {k : Completion} → NeatCompletion k → Paired k
paired {k} v = go (is_absent k.first_input) (is_absent k.last_input) v.both
  where
    go : (a b : Bool) → T (cond a b (not b)) → a ≡ b
    go true true h = refl
    go true false h = absurd h
    go false true h = absurd h
    go false false h = refl

both : (k : Completion) → Paired k → T (cond (is_absent k.first_input) (is_absent k.last_input) (not (is_absent k.last_input)))
both k e = rw e (go (is_absent k.last_input))
  where
    go : (b : Bool) → T (cond b b (not b))
    go true = tt
    go false = tt

pub neat-absent : T (is_neat absent)
neat-absent = neat-cell None tt

pub neat-present : (t : Tag) → is_absent t ≡ false → T (is_neat t)
neat-present t e = rw e tt

module _ (k : Completion) (t : Tag) (v : NeatCompletion k) where
  pub neat-probed : (g : ℕ) → T (is_neat t) → NeatCompletion (with_probe t (with_generation g k))
  neat-probed g h = record { frontier = v.frontier; probe = h; first = v.first; last = v.last; both = v.both }

  pub neat-finished : is_absent t ≡ false → NeatCompletion (finished_at t k)
  neat-finished e = record {
    frontier = neat-present t e;
    probe = v.probe;
    first = either (λ z. T (is_neat z)) (is_reached k.last_input t) absent k.first_input neat-absent v.first;
    last = either (λ z. T (is_neat z)) (is_reached k.last_input t) absent k.last_input neat-absent v.last;
    both = both (finished_at t k) (dropped (is_reached k.last_input t));
  }
    where
      dropped : (x : Bool) → is_absent (cond x absent k.first_input) ≡ is_absent (cond x absent k.last_input)
      dropped true = refl
      dropped false = paired v

  pub neat-widened : is_absent t ≡ false → NeatCompletion (widened_by t k)
  neat-widened e = record {
    frontier = v.frontier;
    probe = v.probe;
    first = neat-present (widened_by t k).first_input first;
    last = neat-present (widened_by t k).last_input last;
    both = both (widened_by t k) (first ∙ sym last);
  }
    where
      wider : (pick : Bool) (x : Bool) (a b : Tag) → (x ≡ false → is_absent a ≡ false) → (x ≡ false → is_absent b ≡ false)
          → is_absent (cond x t (cond pick a b)) ≡ false
      wider pick true a b p q = e
      wider pick false a b p q = either (λ z. is_absent z ≡ false) pick a b (p refl) (q refl)

      first : is_absent (widened_by t k).first_input ≡ false
      first = wider (k.first_input ≤ₜ t) (is_absent k.first_input) k.first_input t (λ d. d) (λ d. e)

      last : is_absent (widened_by t k).last_input ≡ false
      last = wider (k.last_input ≤ₜ t) (is_absent k.first_input) t k.last_input (λ d. e) (λ d. sym (paired v) ∙ d)
