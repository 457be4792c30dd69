-- `begin_tag` on plain values: its tests are those of the rule, and the state with the started tag stored is the rule's. The enclave's place is the
-- only one that the rule asks of and changes. Assumes nothing.
use Rattle.std.specs.Prelude.{None, Option, Some}
use mathlib.Core.Path.{◌≡◌, refl, sym, ap, ap₂, ◌∙◌, subst}
use mathlib.Core.Bool.{Bool, true, false, not, cond, ◌&&◌}
use mathlib.Core.List.{map}
use Prim.Native.Nat.{ℕ, ◌+◌, ◌≤◌, ◌<◌}
use native.Mathlib.Omega.{arith}
use lib.Dec.{T}
use lib.IntN.{pos}
use Rattle.tags.specs.Tags.{◌≤ₜ◌, within, is_proper}
use Rattle.rules.specs.Model.{Tag, begin}
use Rattle.rules.specs.Set.{with_started}
use Rattle.rules.specs.Walk.{knows, at, only, quiet, is_stopped}
use Rattle.rules.specs.Gate.{may_begin, begun, begin_tag_of}
use Rattle.rules.specs.Calls.{own_step, take_step}
use Rattle.state.specs.declared.FederateCoordinationState.{FederateCoordinationState as Held}
use Rattle.state.specs.Cells.{is_absent, optional_of, is_neat}
use Rattle.state.specs.View.{tag_at, row_at, rows_of, view, represents}
use Rattle.state.specs.Parts.{Seated}
use Rattle.state.specs.Decides.{Good}
use Rattle.state.proofs.Rows.{proper-present, neat-cell, tag-set-same, tag-set-other, tag-set-cases, only_row}
use Rattle.state.proofs.Neat.{neat-parts, represents-of, place-parts, place-whole}
use Rattle.state.proofs.Columns.{OfStarted}
use Rattle.state.proofs.Put.{Beyond, plain, past_same, past-set-tag}
use Rattle.state.proofs.Halves.{stopped-is}
use Rattle.gate.specs.Parts.{permits, started_at}
use Rattle.state.proofs.Seats.{any-seated, any-unknown}

-- ---- the rule's tests

module _ (s : Held) (e : ℕ) (t : Tag) where
  abbrev may : Bool
  may = may_begin (view s).input_horizon e t (view s)

  -- without input horizon
  no-horizon : is_absent s.gate.input_horizon ≡ true → (view s).input_horizon ≡ None
  no-horizon h = ap (λ b. cond b None (Some s.gate.input_horizon)) h

  pub may_free : is_absent s.gate.input_horizon ≡ true → may_begin (view s).input_horizon e t (view s) ≡ true
  may_free h = ap (λ m. may_begin m e t (view s)) (no-horizon h)

  pub step-free : is_absent s.gate.input_horizon ≡ true → take_step (begin e t) (view s) ≡ quiet (view s)
  unfolding take_step own_step begin_tag_of
  step-free h = ap (λ (m : Option Tag). cond (may_begin m e t (view s)) (quiet (begun m e t (view s))) (quiet (view s))) (no-horizon h)

  -- with one
  module _ (h : is_absent s.gate.input_horizon ≡ false) where
    a-horizon : (view s).input_horizon ≡ Some s.gate.input_horizon
    a-horizon = ap (λ b. cond b None (Some s.gate.input_horizon)) h

    pub may-unknown : knows e (rows_of s) ≡ false → may_begin (view s).input_horizon e t (view s) ≡ false
    may-unknown k =
        ap (λ m. may_begin m e t (view s)) a-horizon ∙
        ap (λ b. not (is_stopped (view s)) && t ≤ₜ s.gate.input_horizon && b) (any-unknown e (λ p. within t p.granted) (rows_of s) k) ∙
        never (not (is_stopped (view s)) && t ≤ₜ s.gate.input_horizon)
      where
        never : (b : Bool) → (b && false) ≡ false
        never true = refl
        never false = refl

    pub may-known : (i : ℕ) → Good s → Seated s e i → may_begin (view s).input_horizon e t (view s) ≡ permits s t
    may-known i g d =
        ap (λ m. may_begin m e t (view s)) a-horizon ∙
        ap₂ (λ a b. not a && t ≤ₜ s.gate.input_horizon && b) (stopped-is s g.neat) (any-seated s e i d (λ p. within t p.granted))

    pub step-begun : may ≡ true → take_step (begin e t) (view s) ≡ quiet (only e (with_started (Some t)) (view s))
    unfolding take_step own_step begin_tag_of
    step-begun y =
        ap (λ (b : Bool). cond b (quiet (begun (view s).input_horizon e t (view s))) (quiet (view s))) y ∙
        ap (λ (m : Option Tag). quiet (begun m e t (view s))) a-horizon

  pub step-denied : may ≡ false → take_step (begin e t) (view s) ≡ quiet (view s)
  unfolding take_step own_step begin_tag_of
  step-denied y = ap (λ (b : Bool). cond b (quiet (begun (view s).input_horizon e t (view s))) (quiet (view s))) y

-- ---- the started tag stored

module _ (s : Held) (e i : ℕ) (t : Tag) (g : Good s) (few : s.count ≤ 32) (d : Seated s e i) (proper : is_proper t ≡ true) where
  abbrev then : Held
  then = started_at s i t

  is-proper : T (is_proper t)
  is-proper = subst T (sym proper) tt

  other : (k : ℕ) → (k ≡ 64 + i → ⊥) → tag_at then k ≡ tag_at s k
  other k h = tag-set-other s.seconds s.nanoseconds s.microsteps (64 + i) t k h

  same : tag_at then (64 + i) ≡ t
  same =
      let z = g.sized in
      tag-set-same s.seconds s.nanoseconds s.microsteps (64 + i) t z.seconds z.nanoseconds z.microsteps (let w = d.within in omega arith)

  row_by : (j : ℕ) (m : Option Tag) → j < 32 → optional_of (tag_at then (64 + j)) ≡ m → row_at then j ≡ with_started m (row_at s j)
  row_by j m h q =
      λ k. record (row_at s j) { candidate = optional_of (other j (λ z. omega arith) k); completed = optional_of (other (32 + j) (λ z. omega arith) k); started = q k }

  started-rows : rows_of then ≡ map (at e (with_started (Some t))) (rows_of s)
  started-rows =
      only_row s then e i (with_started (Some t)) d refl
      (row_by i (Some t) (let w = d.within in omega arith) (ap optional_of same ∙ ap (λ b. cond b None (Some t)) (proper-present t is-proper)))
      (λ j l n. row_by j (optional_of (tag_at s (64 + j))) (omega arith) (ap optional_of (other (64 + j) (λ z. n (omega arith)))))

  pub started-view : only e (with_started (Some t)) (view s) ≡ view then
  started-view = λ k. record (view s) { participants = sym started-rows k }

  neat-tag : (k : ℕ) → k < 96 → T (is_neat (tag_at s k)) → T (is_neat (tag_at then k))
  neat-tag k h old =
      let z = g.sized in
      tag-set-cases s.seconds s.nanoseconds s.microsteps (64 + i) t (λ t. T (is_neat t)) z.seconds z.nanoseconds z.microsteps k h
      (neat-cell (Some t) is-proper) old

  pub started-neat : T (represents then)
  started-neat =
      let v = neat-parts s g.neat in
      represents-of then (record {
        places = λ j l. let p = place-parts s j (v.places j l) in place-whole then j (record {
          candidate = neat-tag j (omega arith) p.candidate;
          completed = neat-tag (32 + j) (omega arith) p.completed;
          started = neat-tag (64 + j) (omega arith) p.started;
          observed = p.observed;
          observation = p.observation;
        });
        coordination = v.coordination;
        completion = v.completion;
        gate = v.gate;
        horizon = v.horizon;
        failure = v.failure;
        policy = v.policy;
      })

  pub started-beyond : Beyond s then
  started-beyond = let n = s.count in let w = d.within in record {
    count = refl;
    enclaves = past_same plain 0 n s.enclaves s.enclaves refl;
    published = past_same plain false n s.published s.published refl;
    observation = past_same plain 0 n s.observation s.observation refl;
    acknowledged = past_same plain false n s.acknowledged s.acknowledged refl;
    observed = past_same plain 0 n s.completion_observed s.completion_observed refl;
    seconds = past-set-tag (pos 0) n i w OfStarted s.seconds t.seconds;
    nanoseconds = past-set-tag (pos 0) n i w OfStarted s.nanoseconds t.nanoseconds;
    microsteps = past-set-tag 0 n i w OfStarted s.microsteps t.microstep;
  }
