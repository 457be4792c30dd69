-- `CallFollowsRules`, `CallKeepsGood`, `RunFollowsRules` and `RunKeepsGood`: the rules' next state is sound, has as many participants and one tag granted
-- to all, so it is fit to be held, and what is put is viewed again; a run by induction on its calls. Assumes nothing.
use mathlib.Core.Path.{◌≡◌, refl, sym, ap, ap₂, ◌∙◌, subst}
use mathlib.Core.Bool.{Bool, true, false, cond}
use mathlib.Core.List.{List, [], ◌∷◌, ◌++◌}
use Prim.Native.Nat.{ℕ, ◌≤◌}
use lib.Dec.{T, T_not}
use lib.ListN.{length, length-map}
use Rattle.rules.specs.Model.{CoordinationAction, Given, Participant, State, Step}
use Rattle.rules.specs.Calls.{is_sound, is_taken, refusal, take_step, call, run_calls}
use Rattle.rules.specs.Demands.{Each, Together}
use Rattle.rules.specs.Walk.{quiet}
use Rattle.rules.proofs.Frame.{if-true}
use Rattle.rules.proofs.Lists.{each_map}
use Rattle.rules.proofs.Sound.{sound-number, call-keeps-sound}
use Rattle.rules.proofs.Together.{call-keeps-together, call-keeps-enclaves}
use Rattle.state.specs.declared.FederateCoordinationState.{FederateCoordinationState as Held}
use Rattle.state.specs.View.{view, put, represents, granted_of}
use Rattle.state.proofs.Rows.{length-rows}
use Rattle.state.proofs.Put.{Fit, fit-sound, rows-together, view-put, represents-put, beyond-put, beyond-sized}
use Rattle.calls.specs.Called.{refusal_of, state_of, actions_of, answer_of}
use Rattle.state.specs.Decides.{Good}
use Rattle.follows.specs.Demands.{CallFollowsRules, CallKeepsGood, state_after, actions_after, RunFollowsRules, RunKeepsGood}

-- ---- the refusal is the rules', since a good value represents a state

same-refusal : (g : Given) (s : Held) → T (represents s) → refusal_of g s ≡ refusal g (view s)
unfolding refusal_of
same-refusal g s h = if-true (λ (n : ℕ). n ≡ refusal g (view s)) (represents s) (λ u. refl) (λ u. absurd (T_not (represents s) u h))

-- ---- what is put of the rules' next state

-- the one tag is the first participant's
first-granted : (ps : List Participant) → Together ps → Each (λ p. p.granted ≡ granted_of ps) ps
first-granted [] h = tt
first-granted (p ∷ ps) h = each_map (λ q. q.granted ≡ h.tag) (λ q. q.granted ≡ p.granted) (λ q e. e ∙ sym h.all.0) (p ∷ ps) h.all

-- a state fit to be put over s
record Next (s : Held) (m : State) : Type 0 where
  number : length m.participants ≡ s.count
  sound : T (is_sound m)
  fit : Fit m

few : (s : Held) → T (is_sound (view s)) → s.count ≤ 32
few s h = subst (λ n. n ≤ 32) (length-rows s) (sound-number (view s) h).1

next : (g : Given) (s : Held) → T (is_sound (view s)) → Next s (call g (view s)).step.state
next g s h =
    let m = (call g (view s)).step.state in
    let ps = (view s).participants in
    let sound = call-keeps-sound g (view s) h in
    let together = call-keeps-together g (view s) (record { tag = granted_of ps; all = rows-together s }) in
    record {
      number = sym (length-map m.participants (λ p. p.index)) ∙ ap length (call-keeps-enclaves g (view s)) ∙ length-map ps (λ p. p.index) ∙ length-rows s;
      sound = sound;
      fit = fit-sound m sound (first-granted m.participants together);
    }

put-good : (s : Held) (m : State) → Good s → Next s m → Good (put s m)
put-good s m h n =
    let c = few s h.sound in
    record {
      sized = beyond-sized s (put s m) (beyond-put s m h.sized n.number c) h.sized;
      neat = represents-put s m h.sized n.number c n.fit;
      sound = subst (λ v. T (is_sound v)) (sym (view-put s m h.sized n.number c n.fit)) n.sound;
    }

-- ---- one call, taken or refused

module _ (s : Held) (h : Good s) (o : Step) where
  chosen-view : (b : Bool) → Next s (cond b o (quiet (view s))).state → view (cond b (put s o.state) s) ≡ (cond b o (quiet (view s))).state
  chosen-view true n = view-put s o.state h.sized n.number (few s h.sound) n.fit
  chosen-view false n = refl

  chosen-good : (b : Bool) → Next s (cond b o (quiet (view s))).state → Good (cond b (put s o.state) s)
  chosen-good true n = put-good s o.state h n
  chosen-good false n = h

  chosen-actions : (b : Bool) → cond b o.actions [] ≡ (cond b o (quiet (view s))).actions
  chosen-actions true = refl
  chosen-actions false = refl

pub call-follows-rules : CallFollowsRules
unfolding answer_of actions_of state_of call
call-follows-rules g s h =
    let v = view s in
    let e = same-refusal g s h.neat in
    let o = take_step g.what v in
    record {
      refusal = e;
      answer = rw e refl;
      actions = rw e (chosen-actions s h o (is_taken g v));
      state = rw e (chosen-view s h o (is_taken g v) (next g s h.sound));
    }

pub call-keeps-good : CallKeepsGood
unfolding state_of call
call-keeps-good g s h =
    let v = view s in
    rw (same-refusal g s h.neat) (chosen-good s h (take_step g.what v) (is_taken g v) (next g s h.sound))

-- ---- a run

pub run-follows-rules : RunFollowsRules
unfolding state_after actions_after run_calls
run-follows-rules [] s h = record { state = refl; actions = refl }
run-follows-rules (g ∷ gs) s h =
    let t = state_of g s in
    let one = call-follows-rules g s h in
    let rest = run-follows-rules gs t (call-keeps-good g s h) in
    record {
      state = rest.state ∙ ap (λ m. (run_calls gs m).state) one.state;
      actions = ap₂ {C = List CoordinationAction} (λ x y. x ++ y) one.actions (rest.actions ∙ ap (λ m. (run_calls gs m).actions) one.state);
    }

pub run-keeps-good : RunKeepsGood
unfolding state_after
run-keeps-good [] s h = h
run-keeps-good (g ∷ gs) s h = run-keeps-good gs (state_of g s) (call-keeps-good g s h)
