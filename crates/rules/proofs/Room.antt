-- `CallFitsRoom`: one call emits at most participants + 2 actions, from any state whatever. The completion step sends at most participants - 1
-- probes, since the enclave with the greatest completed tag never lags, or one Complete; of the messages' own rules Publish alone emits more
-- than one action, and where it emits three it has cleared the probe, so that no Complete of that probe follows. Assumes nothing.
use Rattle.std.specs.Prelude.{None, Some, Option}
use Prim.Native.Nat.{ℕ, ◌+◌, ◌≤◌}
use mathlib.Core.Path.{◌≡◌, refl, sym, ap, ◌∙◌, subst}
use mathlib.Core.Logic.{◌⊎◌, inl, inr}
use mathlib.Core.Bool.{Bool, true, false, not, cond}
use mathlib.Core.List.{List, [], ◌∷◌, ◌++◌}
use native.Mathlib.Omega.{arith}
use lib.Dec.{T, lit≤}
use lib.ListN.{length, length-append, length-map}
use Rattle.tags.specs.Tags.{◌≤ₜ◌, is_at_or_below, capped_by, greater_present, has_reached, is_below, lesser_of, lesser_of_both, same_optional}
use Rattle.rules.specs.Acquisition.{acquire_capped, acquisition_of, grant_of, grants, is_grantable, nothing_new, progress_by, publication_sent_of, same_publication, sent_under, stored, worth_storing}
use Rattle.rules.specs.Calls.{call, facts, is_taken, own_step, take_step, then_advance}
use Rattle.rules.specs.Completion.{advance_of, advance_to, all_answered, answers_probe, asks, complete_all, complete_by, complete_tag_of, finish, front_of, is_held, lags, least_completed, next_generation, noted, observed_of, probe_for}
use Rattle.rules.specs.Demands.{CallFitsRoom}
use Rattle.rules.specs.Gate.{begin_tag_of, input_publishing_of, may_begin}
use Rattle.rules.specs.Model.{Active, AwaitingIdleConfirmation, Call, CoordinatedTermination, CoordinationAction, CoordinationPhase, Counts, Given, HasParked, Ignored, KeepAlive, LifecyclePolicy, NoneStored, Observation, OptionalAcquisition, Parked, Parking, Participant, Probed, Probing, Publish, Rechecked, Rechecking, Refused, Resume, State, Step, Stopped, Stored, Tag, TerminateWhenIdle, Verdict, acquire, active, begin, complete, done, failed, horizon, idle, input, late, observe, observed, progress, publish, sent, stop, stopped}
use Rattle.rules.specs.Observation.{agreed, all_observed, awaits, idle_confirmation_of, lacks_authorization, observation_of, observe_by, observed_already, observes, tally, unheard, verdict_of}
use Rattle.rules.specs.Publication.{activate_of, all_published, announce, enlist, forget, idle_probe, least_candidate, publication_of, publish_by, publish_of, repeated, revise_of, store}
use Rattle.rules.specs.Set.{with_completed, with_completion_observed}
use Rattle.rules.specs.Stop.{fail_of, stop_of}
use Rattle.rules.specs.Walk.{at, each, every, find, greatest_of, is, is_stopped, only, outdated}
use Rattle.rules.proofs.Frame.{Core, core, if-true, own-cases}
use Rattle.rules.proofs.Lists.{at-inj, lesser-left, no-at, not-not-intro}

each-le : (q : Participant → Bool) (a : Participant → CoordinationAction) (ps : List Participant) → length (each q a ps) ≤ length ps
each-le q a [] = lit≤ tt
each-le q a (p ∷ ps) = let h = each-le q a ps in if-true (λ (l : List CoordinationAction). length l ≤ length (p ∷ ps)) (q p) (λ u. omega arith) (λ u. omega arith)

clash : (b : Bool) {X : Type 0} → T b → T (not b) → X
clash true x y = absurd y
clash false x y = absurd x

greater-split : (m r : Option Tag) (f : Tag) → T (has_reached (greater_present m r) f) → T (is_below m f) → T (has_reached r f)
greater-split None r f h k = h
greater-split (Some a) None f h k = clash (is_below (Some a) f) k h
greater-split (Some a) (Some b) f h k = if-true (λ (x : Tag). T (has_reached (Some x) f) → T (has_reached (Some b) f)) (a ≤ₜ b) (λ u x. x) (λ u x. clash (is_below (Some a) f) k x) h

not-all-lag : (f : Tag) (a : Participant → CoordinationAction) (ps : List Participant) → T (has_reached (greatest_of (λ p. p.completed) ps) f) → length (each (lags f) a ps) + 1 ≤ length ps
not-all-lag f a [] h = absurd h
not-all-lag f a (p ∷ ps) h = go (lags f p) (λ k. not-all-lag f a ps (greater-split p.completed (greatest_of (λ q. q.completed) ps) f h k)) (each-le (lags f) a ps)
  where
    go : (b : Bool) → (T b → length (each (lags f) a ps) + 1 ≤ length ps) → length (each (lags f) a ps) ≤ length ps → length (cond b (a p ∷ each (lags f) a ps) (each (lags f) a ps)) + 1 ≤ length (p ∷ ps)
    go true x y = let z = x tt in omega arith
    go false x y = omega arith

front-reached : (g h : Option Tag) (f : Tag) → lesser_of_both g h ≡ Some f → T (has_reached g f)
front-reached None h f e = no-at e
front-reached (Some a) None f e = no-at e
front-reached (Some a) (Some h) f e = subst (λ (x : Tag). T (has_reached (Some a) x)) (at-inj e) (not-not-intro (lesser_of a h ≤ₜ a) (lesser-left a h))

-- ---- the completion step: nothing, fewer actions than participants, or Complete of the probe that was out

abbrev FewAny : State → Step → Type 0
FewAny s o = (length o.actions ≡ 0) ⊎ ((length o.actions + 1 ≤ length s.participants) ⊎ ((length o.actions ≡ 1) × (s.completion_probe ≡ None → ⊥)))

few-any : (s : State) → FewAny s (advance_of s)
unfolding advance_of advance_to finish probe_for
few-any s = if-true (FewAny s) (is_stopped s) (λ u. inl refl) (λ u. go (front_of s) refl)
  where
    go : (m : Option Tag) → front_of s ≡ m → FewAny s (advance_to m s)
    go None e = inl refl
    go (Some f) e =
        if-true (FewAny s) (is_held f s) (λ u. inl refl)
        (λ u. if-true (FewAny s) (same_optional s.completion_probe (Some f)) (λ w. if-true (FewAny s) (all_answered f s) (λ x. inr (inr (refl, λ z. subst (λ (m : Option Tag). T (same_optional m (Some f))) z w))) (λ x. inl refl))
        (λ w. inr (inl (not-all-lag f (asks (next_generation s.completion_generation)) s.participants (front-reached (greatest_of (λ p. p.completed) s.participants) s.grant_horizon f e)))))

-- ---- publish

found_some : (e : ℕ) (ps : List Participant) (p : Participant) → find e ps ≡ Some p → 1 ≤ length ps
found_some e ps p q = go ps q
  where
    go : (xs : List Participant) → find e xs ≡ Some p → 1 ≤ length xs
    go [] r = absurd (subst empty r tt)
      where
        empty : Option Participant → Type 0
        empty None = Unit {0}
        empty (Some x) = ⊥
    go (x ∷ xs) r = omega arith

announced : (e : ℕ) (b : Bool) (s : State) → length (announce e b s).actions ≤ cond b 3 2
unfolding announce
announced e b s = go b (least_candidate s) s.lifecycle
  where
    go : (b : Bool) (m : Option Tag) (l : LifecyclePolicy) → length ((Publish (publication_of s) ∷ cond b (Resume e s.revision ∷ []) []) ++ idle_probe m l s.revision) ≤ cond b 3 2
    go true (Some a) l = lit≤ tt
    go true None KeepAlive = lit≤ tt
    go true None TerminateWhenIdle = lit≤ tt
    go true None CoordinatedTermination = lit≤ tt
    go false (Some a) l = lit≤ tt
    go false None KeepAlive = lit≤ tt
    go false None TerminateWhenIdle = lit≤ tt
    go false None CoordinatedTermination = lit≤ tt

at-most-three : (b : Bool) (n : ℕ) → n ≤ cond b 3 2 → n ≤ 3
at-most-three true n h = h
at-most-three false n h = omega arith

-- an unchanged candidate does not resume
enlisted : (e : ℕ) (c : Option Tag) (s : State) → length (enlist e c false s).actions ≤ 2
unfolding enlist
enlisted e c s = if-true (λ (o : Step). length o.actions ≤ 2) (all_published (only e (store c) s)) (λ u. announced e false (only e (store c) s)) (λ u. lit≤ tt)

repeated-one : (h : CoordinationPhase) (r : ℕ) → length (repeated h r) ≤ 1
repeated-one Active r = lit≤ tt
repeated-one Probing r = lit≤ tt
repeated-one Parking r = lit≤ tt
repeated-one Rechecking r = lit≤ tt
repeated-one Parked r = lit≤ tt
repeated-one AwaitingIdleConfirmation r = lit≤ tt
repeated-one Stopped r = lit≤ tt

abbrev SmallAny : State → Step → Type 0
SmallAny s o = (length o.actions ≤ 1) ⊎ ((1 ≤ length s.participants) × ((length o.actions ≤ 2) ⊎ ((length o.actions ≤ 3) × (o.state.completion_probe ≡ None))))

small_any : (e : ℕ) (c : Option Tag) (s : State) → SmallAny s (publish_of e c s)
unfolding publish_of publish_by revise_of enlist announce
small_any e c s = if-true (SmallAny s) (is_stopped s) (λ u. inl (lit≤ tt)) (λ u. go (find e s.participants) refl)
  where
    t : State
    t = only e (store c) (revise_of s)

    b : Bool
    b = not (is Active s)

    cleared : (length (enlist e c b (revise_of s)).actions ≤ 3) × ((enlist e c b (revise_of s)).state.completion_probe ≡ None)
    cleared = if-true (λ (o : Step). (length o.actions ≤ 3) × (o.state.completion_probe ≡ None)) (all_published t) (λ u. (at-most-three b _ (announced e b t), refl)) (λ u. (lit≤ tt, refl))

    go : (o : Option Participant) → find e s.participants ≡ o → SmallAny s (publish_by e c s o)
    go None q = inl (lit≤ tt)
    go (Some p) q =
        if-true (SmallAny s) (same_optional p.candidate c)
        (λ u. if-true (SmallAny s) p.published (λ w. inl (repeated-one s.phase s.revision)) (λ w. inr (found_some e s.participants p q, inl (enlisted e c s))))
        (λ u. inr (found_some e s.participants p q, inr cleared))

-- ---- the other rules

small-complete : (e : ℕ) (t : Tag) (n : Bool) (s : State) → length (complete_tag_of e t n s).actions ≤ 1
unfolding complete_tag_of complete_by complete_all finish
small-complete e t n s = if-true P (is_stopped s) (λ u. lit≤ tt) (λ u. go (find e s.participants))
  where
    P : Step → Type 0
    P o = length o.actions ≤ 1

    all_have : (m : Option Tag) → P (complete_all m (noted e t n s))
    all_have None = lit≤ tt
    all_have (Some m) = if-true P (is_below s.completed_frontier m) (λ u. lit≤ tt) (λ u. lit≤ tt)

    go : (o : Option Participant) → P (complete_by e t n s o)
    go None = lit≤ tt
    go (Some p) = if-true P (is_below p.completed t) (λ u. all_have (least_completed (noted e t n s).participants)) (λ u. lit≤ tt)

abbrev Fits : State → Step → Type 0
Fits s o = length o.actions ≤ length s.participants + 1

fits-acquire : (r : ℕ) (t : Tag) (s : State) → Fits s (acquisition_of r t s)
unfolding acquisition_of acquire_capped grant_of
fits-acquire r t s = if-true (Fits s) (outdated r s) (λ u. omega arith) (λ u. go (stored r t s) (if-true (λ (m : State). m.participants ≡ s.participants) (worth_storing r t s) (λ w. refl) (λ w. refl)))
  where
    k : Tag
    k = capped_by s.input_horizon t

    go : (m : State) → m.participants ≡ s.participants → Fits s (acquire_capped k m)
    go m e = if-true (Fits s) (nothing_new k m) (λ u. omega arith) (λ u. let h = each-le (is_grantable k) (grants k) m.participants in let q = ap (λ (l : List Participant). length l) e in omega arith)

fits-observe : (e r : ℕ) (o : Observation) (s : State) → length (observation_of e r o s).actions ≤ 1
unfolding observation_of observe_by tally agreed stop_of
fits-observe e r o s = if-true P (unheard r s) (λ u. lit≤ tt) (λ u. by (verdict_of s.phase o))
  where
    P : Step → Type 0
    P x = length x.actions ≤ 1

    done_all : (o : Observation) (t : State) → P (agreed o t)
    done_all Probed t = lit≤ tt
    done_all HasParked t = lit≤ tt
    done_all Rechecked t = if-true P (lacks_authorization t) (λ u. lit≤ tt) (λ u. if-true P (is_stopped t) (λ w. lit≤ tt) (λ w. lit≤ tt))

    by : (v : Verdict) → P (observe_by v e o s)
    by Counts = if-true P (observed_already e o s) (λ u. lit≤ tt) (λ u. if-true P (all_observed o (only e (observes o) s)) (λ w. done_all o (every forget (only e (observes o) s))) (λ w. lit≤ tt))
    by Ignored = lit≤ tt
    by Refused = lit≤ tt

up : (s : State) (o : Step) → length o.actions ≤ 1 → Fits s o
up s o h = omega arith

-- ---- any call

abbrev Own : (Step → Type 0) → Bool → State → Step → Type 0
Own P true s o = P o
Own P false s o = Fits s o

own_of : (P : Step → Type 0) (s : State) → ((o : Step) → length o.actions ≤ 1 → P o) → ((e : ℕ) (c : Option Tag) → P (publish_of e c s)) → (c : Call) → Own P (facts c).message s (own_step c s)
unfolding own_step activate_of observed_of stop_of fail_of publication_sent_of sent_under progress_by idle_confirmation_of begin_tag_of input_publishing_of
own_of P s small pub' (active e) = if-true P (is_stopped s) (λ u. small _ (lit≤ tt)) (λ u. small _ (lit≤ tt))
own_of P s small pub' (publish e c) = pub' e c
own_of P s small pub' (complete e t n) = small (complete_tag_of e t n s) (small-complete e t n s)
own_of P s small pub' (observed e g) = if-true P (answers_probe g s) (λ u. small _ (lit≤ tt)) (λ u. small _ (lit≤ tt))
own_of P s small pub' (stopped e) = if-true P (is_stopped s) (λ u. small _ (lit≤ tt)) (λ u. small _ (lit≤ tt))
own_of P s small pub' (failed e) = if-true P (is_stopped s) (λ u. small _ (lit≤ tt)) (λ u. small _ (lit≤ tt))
own_of P s small pub' (acquire r t) = fits-acquire r t s
own_of P s small pub' (sent r n h) = if-true (Fits s) (same_publication s.pending_publication r n h) (λ u. go s.grant_horizon) (λ u. omega arith)
  where
    go : (m : Option Tag) → Fits s (sent_under m r n s)
    go None = omega arith
    go (Some h) = if-true (Fits s) (is_at_or_below n h) (λ u. fits-acquire r h s) (λ u. omega arith)
own_of P s small pub' (observe e r o) = up s (observation_of e r o s) (fits-observe e r o s)
own_of P s small pub' (idle r) = if-true (Fits s) (awaits r s) (λ u. omega arith) (λ u. omega arith)
own_of P s small pub' stop = if-true (Fits s) (is_stopped s) (λ u. omega arith) (λ u. omega arith)
own_of P s small pub' progress = go s.input_acquisition
  where
    go : (a : OptionalAcquisition) → Fits s (progress_by a s)
    go NoneStored = omega arith
    go (Stored r t) = fits-acquire r t s
own_of P s small pub' (horizon t) = omega arith
own_of P s small pub' (begin e t) = if-true (Fits s) (may_begin s.input_horizon e t s) (λ u. omega arith) (λ u. omega arith)
own_of P s small pub' (late e t) = omega arith
own_of P s small pub' (done e t) = omega arith
own_of P s small pub' (input es) = omega arith

Kept-number : State → Step → Type 0
Kept-number s o = length o.state.participants ≡ length s.participants

number-complete : (e : ℕ) (t : Tag) (n : Bool) (s : State) → Kept-number s (complete_tag_of e t n s)
unfolding complete_tag_of complete_by complete_all finish Kept-number
number-complete e t n s = if-true P (is_stopped s) (λ u. refl) (λ u. go (find e s.participants))
  where
    P : Step → Type 0
    P = Kept-number s

    w : length (noted e t n s).participants ≡ length s.participants
    w = length-map s.participants (at e (with_completed (Some t)))

    all_have : (m : Option Tag) → P (complete_all m (noted e t n s))
    all_have None = w
    all_have (Some m) = if-true P (is_below s.completed_frontier m) (λ u. w) (λ u. w)

    go : (o : Option Participant) → P (complete_by e t n s o)
    go None = refl
    go (Some p) = if-true P (is_below p.completed t) (λ u. all_have (least_completed (noted e t n s).participants)) (λ u. refl)

number-observed : (e g : ℕ) (s : State) → Kept-number s (observed_of e g s)
unfolding observed_of Kept-number
number-observed e g s = if-true (Kept-number s) (answers_probe g s) (λ u. length-map s.participants (at e (with_completion_observed (Some g)))) (λ u. refl)

number-own : (c : Call) (s : State) → Kept-number s (own_step c s)
unfolding Kept-number
number-own c s =
    own-cases (Kept-number s) s
    (λ o h. sym (length-map o.state.participants core) ∙ ap (λ (l : List Core). length l) h.1.2 ∙ length-map s.participants core)
    (λ e t n. number-complete e t n s) (λ e g. number-observed e g s) c

abbrev FitsAny : State → Step → Type 0
FitsAny s o = length o.actions ≤ length s.participants + 2

total-any : (s : State) (a : Step) → length a.state.participants ≡ length s.participants → SmallAny s a → FitsAny s (then_advance a)
total-any s a q h = go h (few-any a.state)
  where
    b : Step
    b = advance_of a.state

    sum : length (a.actions ++ b.actions) ≡ length a.actions + length b.actions
    sum = length-append a.actions b.actions

    go : SmallAny s a → FewAny a.state b → FitsAny s (then_advance a)
    go (inl x) (inl y) = let z = sum in omega arith
    go (inl x) (inr (inl y)) = let z = sum in omega arith
    go (inl x) (inr (inr y)) = let z = sum in omega arith
    go (inr (n, inl x)) (inl y) = let z = sum in omega arith
    go (inr (n, inl x)) (inr (inl y)) = let z = sum in omega arith
    go (inr (n, inl x)) (inr (inr y)) = let z = sum in omega arith
    go (inr (n, inr x)) (inl y) = let z = sum in omega arith
    go (inr (n, inr x)) (inr (inl y)) = let z = sum in omega arith
    go (inr (n, inr x)) (inr (inr y)) = absurd (y.1 x.1)

fits-any : (g : Given) (s : State) → FitsAny s (call g s).step
unfolding call take_step Kept-number
fits-any g s = if-true (FitsAny s) (is_taken g s) (λ u. go (facts g.what).message (own_of (SmallAny s) s (λ o h. inl h) (λ e k. small_any e k s) g.what)) (λ u. omega arith)
  where
    go : (b : Bool) → Own (SmallAny s) b s (own_step g.what s) → FitsAny s (cond b (then_advance (own_step g.what s)) (own_step g.what s))
    go true h = total-any s (own_step g.what s) (number-own g.what s) h
    go false h = omega arith

pub call-fits-room : CallFitsRoom
call-fits-room g s = let h = fits-any g s in omega arith
