-- What every rule but completion's three leaves alone: the completed frontier, the generation, and of each enclave its index, completed tag and acknowledgement; and it keeps or clears the completion probe. Proved once for each such rule.
use Rattle.std.specs.Prelude.{None, Some, Option}
use mathlib.Core.Path.{◌≡◌, refl, ap₂, ◌∙◌}
use lib.Dec.{T, eqb}
use native.Mathlib.Omega.{arith}
use Prim.Native.Nat.{ℕ}
use mathlib.Core.Bool.{Bool, true, false, not, cond}
use mathlib.Core.List.{List, [], ◌∷◌, ◌++◌, map}
use Rattle.tags.specs.Tags.{is_at_or_below, capped_by, same_optional}
use Rattle.rules.specs.Acquisition.{acquire_capped, acquisition_of, grant_of, granted_up_to, grants, is_grantable, nothing_new, progress_by, publication_sent_of, same_publication, sent_under, stored, worth_storing}
use Rattle.rules.specs.Calls.{own_step}
use Rattle.rules.specs.Completion.{complete_tag_of, observed_of}
use Rattle.rules.specs.Demands.{complete_tag, completes, named, probe_name}
use Rattle.rules.specs.Gate.{begin_tag_of, begun, input_publishing_of, may_begin, noticed}
use Rattle.rules.specs.Model.{Active, AwaitingIdleConfirmation, Call, CoordinatedTermination, CoordinationAction, CoordinationPhase, Counts, HasParked, Ignored, KeepAlive, LifecyclePolicy, NoneStored, Observation, OptionalAcquisition, Parked, Parking, Participant, Probed, Probing, Rechecked, Rechecking, Refused, State, Step, Stopped, Stored, Tag, TerminateWhenIdle, Verdict, acquire, active, begin, complete, done, failed, horizon, idle, input, late, observe, observed, progress, publish, sent, stop, stopped}
use Rattle.rules.specs.Observation.{agreed, all_observed, awaits, idle_confirmation_of, lacks_authorization, observation_of, observe_by, observed_already, observes, tally, unheard, verdict_of}
use Rattle.rules.specs.Publication.{activate_of, all_published, announce, enlist, forget, idle_probe, least_candidate, publish_by, publish_of, repeated, revise_of, store, unpublish}
use Rattle.rules.specs.Set.{with_completion_probe, with_input_horizon, with_started}
use Rattle.rules.specs.Stop.{fail_of, stop_of}
use Rattle.rules.specs.Walk.{at, each, every, find, is, is_stopped, only, outdated, quiet}

-- ---- by cases on a test

pub if-true : {A : Type 0} (P : A → Type 0) (b : Bool) {x y : A} → (T b → P x) → (T (not b) → P y) → P (cond b x y)
if-true P true f g = f tt
if-true P false f g = g tt

pub completes-each : (q : Participant → Bool) (f : Participant → CoordinationAction) → ((p : Participant) → complete_tag (f p) ≡ []) → (ps : List Participant) → completes (each q f ps) ≡ []
completes-each q f h [] = refl
completes-each q f h (p ∷ ps) =
    if-true (λ (l : List CoordinationAction). completes l ≡ []) (q p) (λ t. ap₂ (λ (x y : List Tag). x ++ y) (h p) (completes-each q f h ps)) (λ t. completes-each q f h ps)

-- ---- actions of neither kind

abbrev pub PlainOne : CoordinationAction → Type 0
PlainOne a = (complete_tag a ≡ []) × (probe_name a ≡ [])

abbrev pub Plain : List CoordinationAction → Type 0
Plain [] = Unit {0}
Plain (a ∷ acts) = PlainOne a × Plain acts

pub plain-completes : (acts : List CoordinationAction) → Plain acts → completes acts ≡ []
plain-completes [] h = refl
plain-completes (a ∷ acts) h = ap₂ (λ (x y : List Tag). x ++ y) h.0.0 (plain-completes acts h.1)

pub plain-named : (acts : List CoordinationAction) → Plain acts → named acts ≡ []
plain-named [] h = refl
plain-named (a ∷ acts) h = ap₂ (λ (x y : List ℕ). x ++ y) h.0.1 (plain-named acts h.1)

plain-each : (q : Participant → Bool) (f : Participant → CoordinationAction) → ((p : Participant) → PlainOne (f p)) → (ps : List Participant) → Plain (each q f ps)
plain-each q f h [] = tt
plain-each q f h (p ∷ ps) = if-true Plain (q p) (λ t. (h p, plain-each q f h ps)) (λ t. plain-each q f h ps)

-- ---- what stays

pub record Core : Type 0 where
  pub index : ℕ
  pub completed : Option Tag
  pub completion_observed : Option ℕ

abbrev pub core : Participant → Core
core p = record { index = p.index; completed = p.completed; completion_observed = p.completion_observed }

abbrev pub cores : State → List Core
cores s = map core s.participants

pub cores-map : (f : Participant → Participant) → ((p : Participant) → core (f p) ≡ core p) → (ps : List Participant) → map core (map f ps) ≡ map core ps
cores-map f h [] = refl
cores-map f h (p ∷ ps) = ap₂ {C = List Core} (λ (x : Core) (y : List Core). x ∷ y) (h p) (cores-map f h ps)

pub core_at : (e : ℕ) (f : Participant → Participant) → ((p : Participant) → core (f p) ≡ core p) → (p : Participant) → core (at e f p) ≡ core p
core_at e f h p = if-true (λ (q : Participant). core q ≡ core p) (eqb p.index e) (λ t. h p) (λ t. refl)

abbrev pub Kept : Option Tag → Option Tag → Type 0
Kept m n = (f : Tag) → m ≡ Some f → n ≡ Some f

abbrev pub Same : State → State → Type 0
Same s t = (t.completed_frontier ≡ s.completed_frontier) × (t.completion_generation ≡ s.completion_generation) × (cores t ≡ cores s) × Kept t.completion_probe s.completion_probe

pub same-trans : (s t u : State) → Same s t → Same t u → Same s u
same-trans s t u h k = (k.0 ∙ h.0, k.1 ∙ h.1, k.2 ∙ h.2, λ f e. h.3 f (k.3 f e))

no-probe : (n : Option Tag) → Kept None n
no-probe n f e = let z : ◌≡◌ {A = ℕ} 0 1 = cc in absurd (absurd-num z)
  where
    absurd-num : ◌≡◌ {A = ℕ} 0 1 → ⊥
    absurd-num z = omega arith

-- a step of a rule that is not completion's
abbrev pub Frame : State → Step → Type 0
Frame s o = Plain o.actions × Same s o.state

pub frame-quiet : (s : State) → Frame s (quiet s)
frame-quiet s = (tt, (refl, refl, refl, λ f e. e))

same-every : (f : Participant → Participant) → ((p : Participant) → core (f p) ≡ core p) → (s : State) → Same s (every f s)
same-every f h s = (refl, refl, cores-map f h s.participants, λ g e. e)

same-revise : (s : State) → Same s (revise_of s)
unfolding revise_of
same-revise s = (refl, refl, cores-map forget (λ p. refl) s.participants, no-probe s.completion_probe)

-- a frame after a state that is the same
after : (s t : State) (o : Step) → Same s t → Frame t o → Frame s o
after s t o h k = (k.0, same-trans s t o.state h k.1)

-- ---- the rules

frame-active : (e : ℕ) (s : State) → Frame s (activate_of e s)
unfolding activate_of
frame-active e s =
    if-true (Frame s) (is_stopped s) (λ t. (tt, calm)) (λ t. (((refl, refl), tt), same-trans s c (revise_of c) calm (same-revise c)))
  where
    c : State
    c = with_completion_probe None (only e unpublish s)

    calm : Same s c
    calm = (refl, refl, cores-map (at e unpublish) (core_at e unpublish (λ p. refl)) s.participants, no-probe s.completion_probe)

frame-stop : (s : State) → Frame s (stop_of s)
unfolding stop_of
frame-stop s = if-true (Frame s) (is_stopped s) (λ t. frame-quiet s) (λ t. (((refl, refl), tt), (refl, refl, refl, λ f e. e)))

frame-failed : (e : Option ℕ) (s : State) → Frame s (fail_of e s)
unfolding fail_of
frame-failed e s = if-true (Frame s) (is_stopped s) (λ t. frame-quiet s) (λ t. (((refl, refl), tt), (refl, refl, refl, λ f e. e)))

-- publish

calm-probe : (m : Option Tag) (l : LifecyclePolicy) (r : ℕ) → Plain (idle_probe m l r)
calm-probe (Some t) l r = tt
calm-probe None KeepAlive r = tt
calm-probe None TerminateWhenIdle r = ((refl, refl), tt)
calm-probe None CoordinatedTermination r = ((refl, refl), tt)

calm-repeat : (h : CoordinationPhase) (r : ℕ) → Plain (repeated h r)
calm-repeat Active r = tt
calm-repeat Probing r = ((refl, refl), tt)
calm-repeat Parking r = ((refl, refl), tt)
calm-repeat Rechecking r = ((refl, refl), tt)
calm-repeat Parked r = tt
calm-repeat AwaitingIdleConfirmation r = tt
calm-repeat Stopped r = tt

frame-announce : (e : ℕ) (b : Bool) (s : State) → Frame s (announce e b s)
unfolding announce
frame-announce e true s = (((refl, refl), ((refl, refl), calm-probe (least_candidate s) s.lifecycle s.revision)), (refl, refl, refl, λ f e. e))
frame-announce e false s = (((refl, refl), calm-probe (least_candidate s) s.lifecycle s.revision), (refl, refl, refl, λ f e. e))

frame-enlist : (e : ℕ) (c : Option Tag) (b : Bool) (s : State) → Frame s (enlist e c b s)
unfolding enlist
frame-enlist e c b s =
    if-true (Frame s) (all_published t) (λ u. after s t (announce e b t) h (frame-announce e b t)) (λ u. (tt, h))
  where
    t : State
    t = only e (store c) s

    h : Same s t
    h = same-every (at e (store c)) (core_at e (store c) (λ p. refl)) s

frame-publish_by : (e : ℕ) (c : Option Tag) (s : State) (o : Option Participant) → Frame s (publish_by e c s o)
unfolding publish_by
frame-publish_by e c s None = frame-quiet s
frame-publish_by e c s (Some p) =
    if-true (Frame s) (same_optional p.candidate c)
    (λ t. if-true (Frame s) p.published (λ u. (calm-repeat s.phase s.revision, (refl, refl, refl, λ f e. e))) (λ u. frame-enlist e c false s))
    (λ t. after s (revise_of s) (enlist e c b (revise_of s)) (same-revise s) (frame-enlist e c b (revise_of s)))
  where
    b : Bool
    b = not (is Active s)

frame-publish : (e : ℕ) (c : Option Tag) (s : State) → Frame s (publish_of e c s)
unfolding publish_of
frame-publish e c s = if-true (Frame s) (is_stopped s) (λ t. frame-quiet s) (λ t. frame-publish_by e c s (find e s.participants))

-- acquisition

frame-grant : (t : Tag) (s : State) → Frame s (grant_of t s)
unfolding grant_of
frame-grant t s =
    (((refl, refl), plain-each (is_grantable t) (grants t) (λ p. (refl, refl)) s.participants), (refl, refl, cores-map (granted_up_to t) (λ p. refl) s.participants, λ f e. e))

frame-capped : (t : Tag) (s : State) → Frame s (acquire_capped t s)
unfolding acquire_capped
frame-capped t s = if-true (Frame s) (nothing_new t s) (λ u. frame-quiet s) (λ u. frame-grant t s)

same-stored : (r : ℕ) (t : Tag) (s : State) → Same s (stored r t s)
same-stored r t s =
    if-true (Same s) (worth_storing r t s) (λ u. (refl, refl, refl, λ f e. e)) (λ u. (refl, refl, refl, λ f e. e))

frame-acquire : (r : ℕ) (t : Tag) (s : State) → Frame s (acquisition_of r t s)
unfolding acquisition_of
frame-acquire r t s =
    if-true (Frame s) (outdated r s) (λ u. frame-quiet s)
    (λ u. after s m (acquire_capped c m) (same-stored r t s) (frame-capped c m))
  where
    c : Tag
    c = capped_by s.input_horizon t

    m : State
    m = stored r t s

frame-sent_under : (h : Option Tag) (r : ℕ) (n : Option Tag) (s : State) → Frame s (sent_under h r n s)
unfolding sent_under
frame-sent_under None r n s = frame-quiet s
frame-sent_under (Some h) r n s = if-true (Frame s) (is_at_or_below n h) (λ u. frame-acquire r h s) (λ u. frame-quiet s)

frame-sent : (r : ℕ) (n h : Option Tag) (s : State) → Frame s (publication_sent_of r n h s)
unfolding publication_sent_of
frame-sent r n h s = if-true (Frame s) (same_publication s.pending_publication r n h) (λ u. frame-sent_under s.grant_horizon r n s) (λ u. frame-quiet s)

frame-progress : (a : OptionalAcquisition) (s : State) → Frame s (progress_by a s)
unfolding progress_by
frame-progress NoneStored s = frame-quiet s
frame-progress (Stored r t) s = frame-acquire r t s

-- observation and idle

frame-agreed : (o : Observation) (s : State) → Frame s (agreed o s)
unfolding agreed
frame-agreed Probed s = (((refl, refl), tt), (refl, refl, refl, λ f e. e))
frame-agreed HasParked s = (((refl, refl), tt), (refl, refl, refl, λ f e. e))
frame-agreed Rechecked s =
    if-true (Frame s) (lacks_authorization s) (λ u. (tt, (refl, refl, refl, λ f e. e))) (λ u. frame-stop s)

frame-tally : (o : Observation) (s : State) → Frame s (tally o s)
unfolding tally
frame-tally o s =
    if-true (Frame s) (all_observed o s)
    (λ u. after s (every forget s) (agreed o (every forget s)) (same-every forget (λ p. refl) s) (frame-agreed o (every forget s)))
    (λ u. frame-quiet s)

frame-observe_by : (v : Verdict) (e : ℕ) (o : Observation) (s : State) → Frame s (observe_by v e o s)
unfolding observe_by
frame-observe_by Counts e o s =
    if-true (Frame s) (observed_already e o s) (λ u. frame-quiet s)
    (λ u. after s (only e (observes o) s) (tally o (only e (observes o) s)) (same-every (at e (observes o)) (core_at e (observes o) (λ p. refl)) s) (frame-tally o (only e (observes o) s)))
frame-observe_by Ignored e o s = frame-quiet s
frame-observe_by Refused e o s = frame-quiet s

frame-observe : (e r : ℕ) (o : Observation) (s : State) → Frame s (observation_of e r o s)
unfolding observation_of
frame-observe e r o s = if-true (Frame s) (unheard r s) (λ u. frame-quiet s) (λ u. frame-observe_by (verdict_of s.phase o) e o s)

frame-idle : (r : ℕ) (s : State) → Frame s (idle_confirmation_of r s)
unfolding idle_confirmation_of
frame-idle r s = if-true (Frame s) (awaits r s) (λ u. (((refl, refl), tt), (refl, refl, refl, λ f e. e))) (λ u. frame-quiet s)

-- the gate

frame-input : (es : List ℕ) (s : State) → Frame s (input_publishing_of es s)
unfolding input_publishing_of
frame-input es s = (tt, same-trans s (revise_of s) (every (noticed es) (revise_of s)) (same-revise s) (same-every (noticed es) (λ p. refl) (revise_of s)))

same-begun : (h : Option Tag) (e : ℕ) (t : Tag) (s : State) → Same s (begun h e t s)
same-begun None e t s = (refl, refl, refl, λ f e. e)
same-begun (Some c) e t s = same-every (at e (with_started (Some t))) (core_at e (with_started (Some t)) (λ p. refl)) s

frame-begin : (e : ℕ) (t : Tag) (s : State) → Frame s (begin_tag_of e t s)
unfolding begin_tag_of
frame-begin e t s = if-true (Frame s) (may_begin s.input_horizon e t s) (λ u. (tt, same-begun s.input_horizon e t s)) (λ u. frame-quiet s)

-- ---- a call's own rule, by three cases: a rule that leaves completion alone, complete, observed

pub own-cases-of : (P : Call → Step → Type 0) (s : State)
    → ((c : Call) (o : Step) → Frame s o → P c o)
    → ((e : ℕ) (t : Tag) (n : Bool) → P (complete e t n) (complete_tag_of e t n s))
    → ((e g : ℕ) → P (observed e g) (observed_of e g s))
    → (c : Call) → P c (own_step c s)
unfolding own_step
own-cases-of P s f k a (complete e t n) = k e t n
own-cases-of P s f k a (observed e g) = a e g
own-cases-of P s f k a (active e) = f (active e) (activate_of e s) (frame-active e s)
own-cases-of P s f k a (publish e c) = f (publish e c) (publish_of e c s) (frame-publish e c s)
own-cases-of P s f k a (stopped e) = f (stopped e) (stop_of s) (frame-stop s)
own-cases-of P s f k a (failed e) = f (failed e) (fail_of e s) (frame-failed e s)
own-cases-of P s f k a (acquire r t) = f (acquire r t) (acquisition_of r t s) (frame-acquire r t s)
own-cases-of P s f k a (sent r n h) = f (sent r n h) (publication_sent_of r n h s) (frame-sent r n h s)
own-cases-of P s f k a (observe e r o) = f (observe e r o) (observation_of e r o s) (frame-observe e r o s)
own-cases-of P s f k a (idle r) = f (idle r) (idle_confirmation_of r s) (frame-idle r s)
own-cases-of P s f k a stop = f stop (stop_of s) (frame-stop s)
own-cases-of P s f k a progress = f progress (progress_by s.input_acquisition s) (frame-progress s.input_acquisition s)
own-cases-of P s f k a (horizon t) = f (horizon t) (quiet (with_input_horizon t s)) (tt, (refl, refl, refl, λ g e. e))
own-cases-of P s f k a (begin e t) = f (begin e t) (begin_tag_of e t s) (frame-begin e t s)
own-cases-of P s f k a (late e t) = f (late e t) (quiet s) (frame-quiet s)
own-cases-of P s f k a (done e t) = f (done e t) (quiet s) (frame-quiet s)
own-cases-of P s f k a (input es) = f (input es) (input_publishing_of es s) (frame-input es s)

-- the same, where the claim does not speak of the call
pub own-cases : (P : Step → Type 0) (s : State)
    → ((o : Step) → Frame s o → P o)
    → ((e : ℕ) (t : Tag) (n : Bool) → P (complete_tag_of e t n s))
    → ((e g : ℕ) → P (observed_of e g s))
    → (c : Call) → P (own_step c s)
own-cases P s f k a c = own-cases-of (λ c o. P o) s (λ c. f) k a c
