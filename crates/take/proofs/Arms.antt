-- Each arm of `take`: what its call promises is what taking the event promises. A call of the gate takes no room and has no actions, so it promises the
-- same of any room, which it leaves as it was. Assumes nothing.
use Rattle.std.specs.Prelude.{Option}
use mathlib.Core.Path.{◌≡◌, refl, sym, ap, ◌∙◌, subst⁻¹}
use mathlib.Core.Bool.{Bool, true, false, not, cond, ◌&&◌}
use mathlib.Core.List.{List, []}
use Prim.Native.Nat.{ℕ}
use native.Mathlib.Omega.{arith}
use lib.Dec.{T, eqb}
use lib.ListN.{length}
use borrow.Author.Tests.{eqb-true}
use Rattle.octets.specs.Runs.{put_at}
use Rattle.octets.proofs.Runs.{put-nil}
use Rattle.actions.specs.Record.{records_of}
use Rattle.rules.specs.Model.{Tag, State, Call, Given, horizon, begin, late, done, input}
use Rattle.rules.specs.Walk.{quiet}
use Rattle.rules.specs.Gate.{may_begin, begun, begin_tag_of, input_publishing_of}
use Rattle.rules.specs.Calls.{facts, own_step, take_step, is_sound, refusal}
use Rattle.rules.proofs.Sound.{sound-number}
use Rattle.state.specs.declared.FederateCoordinationState.{FederateCoordinationState as Held}
use Rattle.state.specs.View.{view, put, represents}
use Rattle.state.specs.Parts.{Sized}
use Rattle.state.proofs.Rows.{length-rows}
use Rattle.state.proofs.Put.{put_view}
use Rattle.calls.specs.declared.Reply.{Reply}
use Rattle.calls.specs.declared.Called.{Called}
use Rattle.calls.proofs.Refusals.{passes}
use Rattle.calls.specs.Called.{Promised, lent, refusal_of, state_of, actions_of, answer_of}
use Rattle.gate.specs.Replies.{Replies}
use Rattle.take.specs.Takes.{TakesCall}

-- ---- calls that take no room

module _ (c : Call) (s : Held) (bare : (facts c).takes_room ≡ false) (n : ℕ) where
  same-refusal : refusal_of (lent 0 c) s ≡ refusal_of (lent n c) s
  unfolding refusal_of refusal
  same-refusal = rw bare refl

  any-room : (r : Called) → Promised (lent 0 c) s r → Promised (lent n c) s r
  unfolding state_of actions_of answer_of
  any-room r p = record {
    refusal = p.refusal ∙ same-refusal;
    answer = rw (← same-refusal) p.answer;
    actions = rw (← same-refusal) p.actions;
    state = rw (← same-refusal) p.state;
  }

-- such a call, which has no actions either
pub without-room : (c : Call) (s : Held) (room : List ℕ) (r : Called) → (facts c).takes_room ≡ false → (take_step c (view s)).actions ≡ [] → Promised (lent 0 c) s r → TakesCall c s room room r
unfolding actions_of records_of
without-room c s room r bare quiet-call p = record { promised = any-room c s bare (length room) r p; bytes = sym (ap (λ l. put_at room 0 (records_of l)) (silent (length room)) ∙ put-nil room 0) }
  where
    silent : (n : ℕ) → actions_of (lent n c) s ≡ []
    silent n = either (eqb (refusal_of (lent n c) s) 0)
      where
        either : (b : Bool) → cond b (take_step c (view s)).actions [] ≡ []
        either true = quiet-call
        either false = refl

module _ (s : State) where
  pub horizon-silent : (t : Option Tag) → (take_step (horizon t) s).actions ≡ []
  unfolding take_step own_step
  horizon-silent t = refl

  pub begin-silent : (e : ℕ) (t : Tag) → (take_step (begin e t) s).actions ≡ []
  unfolding take_step own_step begin_tag_of
  begin-silent e t = either (may_begin s.input_horizon e t s)
    where
      either : (b : Bool) → (cond b (quiet (begun s.input_horizon e t s)) (quiet s)).actions ≡ []
      either true = refl
      either false = refl

  pub late-silent : (e : ℕ) (t : Tag) → (take_step (late e t) s).actions ≡ []
  unfolding take_step own_step
  late-silent e t = refl

  pub done-silent : (e : ℕ) (t : Tag) → (take_step (done e t) s).actions ≡ []
  unfolding take_step own_step
  done-silent e t = refl

  pub late-keeps : (e : ℕ) (t : Tag) → (take_step (late e t) s).state ≡ s
  unfolding take_step own_step
  late-keeps e t = refl

  pub done-keeps : (e : ℕ) (t : Tag) → (take_step (done e t) s).state ≡ s
  unfolding take_step own_step
  done-keeps e t = refl

  pub input-silent : (es : List ℕ) → (take_step (input es) s).actions ≡ []
  unfolding take_step own_step input_publishing_of
  input-silent es = refl

-- a state that is not refused 27 passes
pub not-27 : (g : Given) (s : Held) → refusal_of g s ≡ 0 → (represents s && is_sound (view s)) ≡ true
unfolding refusal_of refusal
not-27 g s h = go (represents s) (is_sound (view s)) _ h
  where
    go : (a b : Bool) (later : ℕ) → cond a (cond (not b) 27 later) 27 ≡ 0 → (a && b) ≡ true
    go true true later e = refl
    go true false later e = absurd (omega arith)
    go false b later e = absurd (omega arith)

-- a query hands no state back: it is the one that was asked
module _ (c : Call) (s : Held) (sized : Sized s) (same : (take_step c (view s)).state ≡ view s) where
  kept : refusal_of (lent 0 c) s ≡ 0 → put s (view s) ≡ s
  kept h =
      let p = passes s (not-27 (lent 0 c) s h) in
      let n = sound-number (view s) (subst⁻¹ T p.sound tt) in
      let l = length-rows s in
      put_view s sized (omega (arith, n.0)) (omega (arith, n.1)) (subst⁻¹ T p.neat tt)

  pub unchanged : (r : Reply) → Replies (lent 0 c) s r → Promised (lent 0 c) s (record { state = s; reply = r })
  unfolding state_of
  unchanged r p = record { refusal = p.refusal; answer = p.answer; actions = p.actions; state = either (eqb (refusal_of (lent 0 c) s) 0) refl }
    where
      either : (b : Bool) → eqb (refusal_of (lent 0 c) s) 0 ≡ b → s ≡ cond b (put s (take_step c (view s)).state) s
      either true e = sym (ap (put s) same ∙ kept (eqb-true (refusal_of (lent 0 c) s) 0 e))
      either false e = refl
