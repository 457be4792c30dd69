-- T2: Complete of f comes only when each enclave has completed f or later, or stands published with no candidate at or below f and has acknowledged the probe being answered.
use Rattle.std.specs.Prelude.{None, Some, Option}
use mathlib.Core.Path.{◌≡◌, refl, sym, ap, ◌∙◌, subst}
use mathlib.Core.Logic.{◌⊎◌, inl, inr}
use lib.Dec.{T}
use Prim.Native.Nat.{ℕ}
use mathlib.Core.Bool.{Bool, true, false, not, ◌&&◌, ◌||◌}
use mathlib.Core.List.{List}
use Rattle.tags.specs.Tags.{is_at_or_below, has_reached, is_below, same_optional}
use Rattle.delay.specs.Delay.{answer}
use Rattle.rules.specs.Calls.{call, facts, is_taken, own_step, take_step, then_advance}
use Rattle.rules.specs.Completion.{advance_of, advance_to, all_answered, answers_probe, asks, blocks, complete_all, complete_by, complete_tag_of, finish, front_of, has_answered, is_held, lags, least_completed, next_generation, noted, observed_of, probe_for}
use Rattle.rules.specs.Demands.{Each, Stands, completes}
use Rattle.rules.specs.Model.{Call, Given, Participant, State, Step, Tag}
use Rattle.rules.specs.Walk.{any, find, is_number, is_stopped}
use Rattle.rules.proofs.Frame.{Frame, Kept, completes-each, if-true, own-cases, plain-completes}
use Rattle.rules.proofs.Increase.{completes-++}
use Rattle.rules.proofs.Lists.{all-each, each-++, each_map, each-zip, is_number-is, least-reached, none_each, or_right, same-is}

-- what a call itself shows of an enclave when Complete of f comes
abbrev pub Ready : State → Tag → Participant → Type 0
Ready s f p = T (has_reached p.completed f) ⊎ Stands s f p

-- every Complete of the step is justified by every enclave
abbrev pub Justified : State → Step → Type 0
Justified s o = Each (λ f. Each (Ready s f) o.state.participants) (completes o.actions)

justified-frame : (s : State) (o : Step) → Frame s o → Justified s o
justified-frame s o h = subst (λ (l : List Tag). Each (λ f. Each (Ready s f) o.state.participants) l) (sym (plain-completes o.actions h.0)) tt

justified-complete : (e : ℕ) (t : Tag) (n : Bool) (s : State) → Justified s (complete_tag_of e t n s)
unfolding complete_tag_of complete_by complete_all finish
justified-complete e t n s = if-true (Justified s) (is_stopped s) (λ u. tt) (λ u. go (find e s.participants))
  where
    s' : State
    s' = noted e t n s

    all_have : (m : Option Tag) → least_completed s'.participants ≡ m → Justified s (complete_all m s')
    all_have None q = tt
    all_have (Some m) q =
        if-true (Justified s) (is_below s.completed_frontier m)
        (λ u. (each_map (λ p. T (has_reached p.completed m)) (Ready s m) (λ p h. inl h) s'.participants (least-reached s'.participants m q), tt)) (λ u. tt)

    go : (o : Option Participant) → Justified s (complete_by e t n s o)
    go None = tt
    go (Some p) = if-true (Justified s) (is_below p.completed t) (λ u. all_have (least_completed s'.participants) refl) (λ u. tt)

-- the four tests on an enclave, by cases
four : (lag shown cand answer : Bool) → T (not (lag && (not shown || cand))) → T (not lag || answer) → T (not lag) ⊎ (T shown × T (not cand) × T answer)
four false shown cand answer h k = inl tt
four true true true answer h k = absurd h
four true true false answer h k = inr (tt, tt, k)
four true false cand answer h k = absurd h

ready : (s : State) (f : Tag) → s.completion_probe ≡ Some f → (p : Participant) → T (not (blocks f p)) → T (has_answered f s.completion_generation p) → Ready s f p
ready s f e p h k = go (four (lags f p) p.published (is_at_or_below p.candidate f) (is_number p.completion_observed s.completion_generation) h k)
  where
    go : T (not (lags f p)) ⊎ (T p.published × T (not (is_at_or_below p.candidate f)) × T (is_number p.completion_observed s.completion_generation)) → Ready s f p
    go (inl x) = inl x
    go (inr x) = inr (record { probed = e; published = x.0; beyond = x.1; acknowledged = is_number-is p.completion_observed s.completion_generation x.2 })

justified-advance_to : (m : Option Tag) (s : State) → Justified s (advance_to m s)
unfolding advance_to finish probe_for
justified-advance_to None s = tt
justified-advance_to (Some f) s =
    if-true (Justified s) (is_held f s) (λ u. tt)
    (λ u. if-true (Justified s) (same_optional s.completion_probe (Some f))
    (λ v. if-true (Justified s) (all_answered f s)
    (λ w. (
      each-zip (λ p. T (not (blocks f p))) (λ p. T (has_answered f s.completion_generation p)) (Ready s f) (ready s f (same-is s.completion_probe f v)) s.participants
          (none_each (blocks f) s.participants (or_right (not (is_below s.completed_frontier f)) (any (blocks f) s.participants) u))
          (all-each (has_answered f s.completion_generation) s.participants w),
      tt,
    ))
    (λ w. tt))
    (λ v. subst (λ (l : List Tag). Each (λ g. Each (Ready s g) s.participants) l) (sym (completes-each (lags f) (asks (next_generation s.completion_generation)) (λ p. refl) s.participants)) tt))

justified-advance : (s : State) → Justified s (advance_of s)
unfolding advance_of
justified-advance s = if-true (Justified s) (is_stopped s) (λ u. tt) (λ u. justified-advance_to (front_of s) s)

-- advance leaves the participants alone
advance_to-participants : (m : Option Tag) (s : State) → (advance_to m s).state.participants ≡ s.participants
unfolding advance_to finish probe_for
advance_to-participants None s = refl
advance_to-participants (Some f) s =
    if-true P (is_held f s) (λ u. refl)
    (λ u. if-true P (same_optional s.completion_probe (Some f)) (λ v. if-true P (all_answered f s) (λ w. refl) (λ w. refl)) (λ v. refl))
  where
    P : Step → Type 0
    P o = o.state.participants ≡ s.participants

pub advance-participants : (s : State) → (advance_of s).state.participants ≡ s.participants
unfolding advance_of
advance-participants s = if-true (λ (o : Step). o.state.participants ≡ s.participants) (is_stopped s) (λ u. refl) (λ u. advance_to-participants (front_of s) s)

-- a call's own rule leaves the generation, and keeps or clears the probe
abbrev pub Linked : State → State → Type 0
Linked s t = (t.completion_generation ≡ s.completion_generation) × Kept t.completion_probe s.completion_probe

linked-complete : (e : ℕ) (t : Tag) (n : Bool) (s : State) → Linked s (complete_tag_of e t n s).state
unfolding complete_tag_of complete_by complete_all finish
linked-complete e t n s = if-true P (is_stopped s) (λ u. (refl, λ f q. q)) (λ u. go (find e s.participants))
  where
    P : Step → Type 0
    P o = Linked s o.state

    all_have : (m : Option Tag) → P (complete_all m (noted e t n s))
    all_have None = (refl, λ f q. q)
    all_have (Some m) = if-true P (is_below s.completed_frontier m) (λ u. (refl, λ f q. q)) (λ u. (refl, λ f q. q))

    go : (o : Option Participant) → P (complete_by e t n s o)
    go None = (refl, λ f q. q)
    go (Some p) = if-true P (is_below p.completed t) (λ u. all_have (least_completed (noted e t n s).participants)) (λ u. (refl, λ f q. q))

linked-observed : (e g : ℕ) (s : State) → Linked s (observed_of e g s).state
unfolding observed_of
linked-observed e g s = if-true (λ (o : Step). Linked s o.state) (answers_probe g s) (λ u. (refl, λ f q. q)) (λ u. (refl, λ f q. q))

pub linked-own : (c : Call) (s : State) → Linked s (own_step c s).state
linked-own c s = own-cases (λ o. Linked s o.state) s (λ o h. (h.1.1, h.1.3)) (λ e t n. linked-complete e t n s) (λ e g. linked-observed e g s) c

justified-observed : (e g : ℕ) (s : State) → Justified s (observed_of e g s)
unfolding observed_of
justified-observed e g s = if-true (Justified s) (answers_probe g s) (λ u. tt) (λ u. tt)

justified-own : (c : Call) (s : State) → Justified s (own_step c s)
justified-own c s = own-cases (Justified s) s (justified-frame s) (λ e t n. justified-complete e t n s) (λ e g. justified-observed e g s) c

ready-back : (s t : State) → Linked s t → (f : Tag) (p : Participant) → Ready t f p → Ready s f p
ready-back s t h f p (inl x) = inl x
ready-back s t h f p (inr x) =
    inr (record { probed = h.1 f x.probed; published = x.published; beyond = x.beyond; acknowledged = x.acknowledged ∙ ap Some h.0 })

justified-also : (s : State) (a : Step) → Linked s a.state → Justified s a → Justified s (then_advance a)
justified-also s a l h =
    subst (λ (k : List Tag). Each (λ f. Each (Ready s f) b.state.participants) k) (sym (completes-++ a.actions b.actions))
    (each-++ (λ f. Each (Ready s f) b.state.participants) (completes a.actions) (completes b.actions)
    (subst (λ (ps : List Participant). Each (λ f. Each (Ready s f) ps) (completes a.actions)) (sym (advance-participants a.state)) h)
    (each_map (λ f. Each (Ready a.state f) b.state.participants) (λ f. Each (Ready s f) b.state.participants)
    (λ f. each_map (Ready a.state f) (Ready s f) (ready-back s a.state l f) b.state.participants) (completes b.actions) (justified-advance a.state)))
  where
    b : Step
    b = advance_of a.state

justified-take : (c : Call) (s : State) → Justified s (take_step c s)
unfolding take_step
justified-take c s = if-true (Justified s) (facts c).message (λ u. justified-also s (own_step c s) (linked-own c s) (justified-own c s)) (λ u. justified-own c s)

pub call-justified : (g : Given) (s : State) → Justified s (call g s).step
unfolding call
call-justified g s = if-true (Justified s) (is_taken g s) (λ u. justified-take g.what s) (λ u. tt)
