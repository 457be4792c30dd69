-- When "Publication sent" and `input_progress` are an acquisition, and when nothing: by what the code tests of the pending publication, the horizon
-- and the stored acquisition. The tag that is repeated is one of a sound state, so it is proper. Assumes nothing.
use Rattle.std.specs.Prelude.{None, Option, Some}
use mathlib.Core.Path.{◌≡◌, refl, sym, ap, ◌∙◌}
use mathlib.Core.Bool.{Bool, true, false, cond, ◌&&◌}
use Prim.Native.Nat.{ℕ, ◌+◌, ◌*◌, ◌≤◌}
use native.Mathlib.Omega.{arith}
use lib.Dec.{T}
use Rattle.tags.specs.Tags.{is_proper, proper_if_present, is_present, is_at_or_below}
use Rattle.rules.specs.Model.{Tag, NoneStored, Stored, acquire, sent, progress}
use Rattle.rules.specs.Walk.{quiet}
use Rattle.rules.specs.Acquisition.{acquisition_of, same_publication, sent_under, publication_sent_of, progress_by}
use Rattle.rules.specs.Calls.{own_step, take_step, proper_acquisition}
use Rattle.rules.proofs.Sound.{sound-proper-horizon, sound-proper-acquisition}
use Rattle.state.specs.declared.FederateCoordinationState.{FederateCoordinationState as Held}
use Rattle.state.specs.Cells.{is_absent, optional_of}
use Rattle.state.specs.View.{view}
use Rattle.calls.specs.Called.{lent, refusal_of}
use Rattle.calls.proofs.Refusals.{refusal-0}
use Rattle.calls.proofs.Standing.{Standing}
use Rattle.calls.proofs.Ends.{roomy}

holds-true : (b : Bool) → T b → b ≡ true
holds-true true h = refl
holds-true false h = absurd h

-- the two tags of a publication, as the call lists them
pub listed : (a b : Bool) → (a && (b && true)) ≡ (a && b)
listed true true = refl
listed true false = refl
listed false b = refl

-- ---- input_progress

module _ (s : Held) where
  abbrev stored_tag : Tag
  stored_tag = s.gate.stored_granted

  abbrev stored_revision : ℕ
  stored_revision = s.gate.stored_revision

  pub progress-taken : (n : ℕ) → Standing s → 56 * (s.count + 2) ≤ n → 0 ≡ refusal_of (lent n progress) s
  progress-taken n st h = refusal-0 (lent n progress) s st.passing (roomy progress s n h) refl refl refl refl

  pub progress-none : is_absent stored_tag ≡ true → take_step progress (view s) ≡ quiet (view s)
  unfolding take_step own_step progress_by
  progress-none h = ap (λ (b : Bool). progress_by (cond b NoneStored (Stored stored_revision stored_tag)) (view s)) h

  pub progress-some : is_absent stored_tag ≡ false → take_step (acquire stored_revision stored_tag) (view s) ≡ take_step progress (view s)
  unfolding take_step own_step progress_by
  progress-some h = ap (λ (b : Bool). progress_by (cond b NoneStored (Stored stored_revision stored_tag)) (view s)) (sym h)

  pub stored-proper : Standing s → is_absent stored_tag ≡ false → is_proper stored_tag ≡ true
  stored-proper st h =
      holds-true (is_proper stored_tag)
      (go (is_absent stored_tag) h (sound-proper-acquisition (view s) st.good.sound))
    where
      go : (b : Bool) → b ≡ false → T (proper_acquisition (cond b NoneStored (Stored stored_revision stored_tag))) → T (is_proper stored_tag)
      go true e k = absurd (let z : ◌≡◌ {A = ℕ} 0 1 = cc in omega arith)
      go false e k = k

-- ---- publication sent

module _ (s : Held) (r : ℕ) (n h : Option Tag) where
  abbrev horizon : Tag
  horizon = s.grant_horizon

  pub sent-taken : (m : ℕ) → Standing s → 56 * (s.count + 2) ≤ m → (proper_if_present n && proper_if_present h) ≡ true
      → 0 ≡ refusal_of (lent m (sent r n h)) s
  sent-taken m st f p = refusal-0 (lent m (sent r n h)) s st.passing (roomy (sent r n h) s m f) (listed (proper_if_present n) (proper_if_present h) ∙ p) refl refl refl

  -- equal to the pending one, and its next event at or below the horizon
  abbrev due : Bool
  due = same_publication (view s).pending_publication r n h && (is_present (optional_of horizon) && is_at_or_below n horizon)

  -- by the publication, by whether there is a horizon, and by the next event
  sent-by : take_step (sent r n h) (view s) ≡ cond due (acquisition_of r horizon (view s)) (quiet (view s))
  unfolding take_step own_step publication_sent_of sent_under
  sent-by = go (same_publication (view s).pending_publication r n h) (is_absent horizon)
    where
      go : (a b : Bool) → cond a (sent_under (cond b None (Some horizon)) r n (view s)) (quiet (view s))
          ≡ cond (a && (is_present (cond b None (Some horizon)) && is_at_or_below n horizon)) (acquisition_of r horizon (view s)) (quiet (view s))
      go true true = refl
      go true false = refl
      go false b = refl

  module _ (b : Bool) (e : b ≡ due) where
    pub sent-nothing : b ≡ false → take_step (sent r n h) (view s) ≡ quiet (view s)
    sent-nothing y = sent-by ∙ rw (sym e ∙ y) refl

    pub sent-due : b ≡ true → take_step (acquire r horizon) (view s) ≡ take_step (sent r n h) (view s)
    unfolding take_step own_step
    sent-due y = sym (sent-by ∙ rw (sym e ∙ y) refl)

    pub horizon-proper : Standing s → b ≡ true → is_proper horizon ≡ true
    horizon-proper st y =
        holds-true (is_proper horizon)
        (go (same_publication (view s).pending_publication r n h) (is_absent horizon) (sym e ∙ y) (sound-proper-horizon (view s) st.good.sound))
      where
        go : (a b : Bool) → (a && (is_present (cond b None (Some horizon)) && is_at_or_below n horizon)) ≡ true → T (proper_if_present (cond b None (Some horizon))) → T (is_proper horizon)
        go true true e k = absurd (let z : ◌≡◌ {A = ℕ} 0 1 = cc in omega arith)
        go true false e k = k
        go false b e k = absurd (let z : ◌≡◌ {A = ℕ} 0 1 = cc in omega arith)
