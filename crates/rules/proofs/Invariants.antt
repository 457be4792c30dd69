-- What holds in every state reached from an opening: the frontier covers what all have completed, and no acknowledgement is above the generation.
use Rattle.std.specs.Prelude.{None, Some, Option}
use mathlib.Core.Path.{◌≡◌, refl, sym, subst}
use mathlib.Core.Logic.{◌⊎◌, inl, inr}
use lib.Dec.{T, eqb→eq, ltb, eqb}
use native.Mathlib.Omega.{arith}
use Prim.Native.Nat.{ℕ, ◌≤◌}
use mathlib.Core.Bool.{Bool, true, false, not, ◌&&◌}
use mathlib.Core.List.{List, [], ◌∷◌, map}
use native.Mathlib.Nat.{le_refl}
use Rattle.tags.specs.Tags.{◌≤ₜ◌, has_reached, is_below, is_present, lesser_of, lesser_present, same_optional}
use Rattle.tags.proofs.Order.{≤ₜ-total, ≤ₜ-trans}
use Rattle.rules.specs.Calls.{call, facts, is_taken, own_step, run_calls, take_step}
use Rattle.rules.specs.Completion.{advance_of, advance_to, all_answered, answers_probe, complete_all, complete_by, complete_tag_of, finish, front_of, is_held, least_completed, next_generation, noted, observed_of, probe_for}
use Rattle.rules.specs.Demands.{CallKeepsConsistent, Consistent, Each, FrontierCovers, NoneAhead, Opening, OpeningIsConsistent, UpTo, completes, start, state_after}
use Rattle.rules.specs.Model.{Call, Given, LifecyclePolicy, Participant, State, Step, Tag}
use Rattle.rules.specs.Opening.{fresh, insert, opened, opening_refusal, seated}
use Rattle.rules.specs.Set.{with_completed, with_completion_observed}
use Rattle.rules.specs.Walk.{all, at, find, is_stopped, least_of, only}
use Rattle.rules.proofs.Frame.{Core, Frame, core, if-true, own-cases}
use Rattle.rules.proofs.Ground.{advance-participants}
use Rattle.rules.proofs.Increase.{Climbs, Rise, climbs-advance, not-not}
use Rattle.rules.proofs.Lists.{and_right, each_map, not-not-intro}

-- ---- walks

pub each-onto {ℓ κ} : {A : Type ℓ} {B : Type κ} (P : A → Type 0) (Q : B → Type 0) (h : A → B) → ((x : A) → P x → Q (h x)) → (xs : List A) → Each P xs → Each Q (map h xs)
each-onto P Q h f [] k = tt
each-onto P Q h f (x ∷ xs) k = (f x k.0, each-onto P Q h f xs k.1)

pub each_back {ℓ κ} : {A : Type ℓ} {B : Type κ} (P : A → Type 0) (Q : B → Type 0) (h : A → B) → ((x : A) → Q (h x) → P x) → (xs : List A) → Each Q (map h xs) → Each P xs
each_back P Q h f [] k = tt
each_back P Q h f (x ∷ xs) k = (f x k.0, each_back P Q h f xs k.1)

pub each_of : {A : Type 0} {P : A → Type 0} → ((x : A) → P x) → (xs : List A) → Each P xs
each_of f [] = tt
each_of f (x ∷ xs) = (f x, each_of f xs)

-- what speaks of the cores alone goes from one state to another
pub each-cores : (Q : Core → Type 0) (ps qs : List Participant) → map core ps ≡ map core qs → Each (λ p. Q (core p)) ps → Each (λ p. Q (core p)) qs
each-cores Q ps qs e h =
    each_back (λ p. Q (core p)) Q core (λ p x. x) qs (subst (Each Q) e (each-onto (λ p. Q (core p)) Q core (λ p x. x) ps h))

-- ---- the frontier only rises

reached-down : (m : Option Tag) (a f : Tag) → T (f ≤ₜ a) → T (has_reached m a) → T (has_reached m f)
reached-down None a f h k = absurd k
reached-down (Some b) a f h k = not-not-intro (f ≤ₜ b) (≤ₜ-trans f a b h (not-not (a ≤ₜ b) k))

reached-up : (m : Option Tag) (t f : Tag) → T (is_below m t) → T (has_reached m f) → T (has_reached (Some t) f)
reached-up None t f h k = absurd k
reached-up (Some a) t f h k = not-not-intro (f ≤ₜ t) (≤ₜ-trans f a t (not-not (f ≤ₜ a) k) (≤ₜ-total t a h))

rise-reached : (m n : Option Tag) (ts : List Tag) (f : Tag) → Rise m ts n → T (has_reached m f) → T (has_reached n f)
rise-reached m n [] f h k = subst (λ (x : Option Tag). T (has_reached x f)) (sym h) k
rise-reached m n (t ∷ ts) f h k = rise-reached (Some t) n ts f h.1 (reached-up m t f h.0 k)

covered-rise : (s : State) (o : Step) → Climbs s o → FrontierCovers s
    → ((f : Tag) → Each (λ p. T (has_reached p.completed f)) o.state.participants → Each (λ p. T (has_reached p.completed f)) s.participants) → FrontierCovers o.state
covered-rise s o h k back f a = rise-reached s.completed_frontier o.state.completed_frontier (completes o.actions) f h (k f (back f a))

consistent-frame : (s : State) → Consistent s → (o : Step) → Frame s o → Consistent o.state
consistent-frame s v o h = record {
  covers = λ f a. subst (λ (m : Option Tag). T (has_reached m f)) (sym h.1.0) (v.covers f (each-cores (λ c. T (has_reached c.completed f)) o.state.participants s.participants h.1.2 a));
  ahead = subst (λ (g : ℕ). Each (λ p. UpTo p.completion_observed g) o.state.participants) (sym h.1.1) (each-cores (λ c. UpTo c.completion_observed s.completion_generation) s.participants o.state.participants (sym h.1.2) v.ahead);
}

-- ---- complete

present-of : (m : Option Tag) (f : Tag) → T (has_reached m f) → T (is_present m)
present-of None f h = h
present-of (Some a) f h = tt

pub and_intro : (a b : Bool) → T a → T b → T (a && b)
and_intro true b h k = k
and_intro false b h k = h

pub all_of : (q : Participant → Bool) (ps : List Participant) → Each (λ p. T (q p)) ps → T (all q ps)
all_of q [] h = tt
all_of q (p ∷ ps) h = and_intro (q p) (all q ps) h.0 (all_of q ps h.1)

-- the least of what all have is present, and at or above what all have reached
lesser-above : (a b f : Tag) → T (f ≤ₜ a) → T (f ≤ₜ b) → T (f ≤ₜ lesser_of a b)
lesser-above a b f h k = if-true (λ (x : Tag). T (f ≤ₜ x)) (a ≤ₜ b) (λ u. h) (λ u. k)

lesser_m-reached : (m r : Option Tag) (f : Tag) → T (has_reached m f) → T (has_reached r f) → T (has_reached (lesser_present m r) f)
lesser_m-reached None r f h k = absurd h
lesser_m-reached (Some a) None f h k = absurd k
lesser_m-reached (Some a) (Some b) f h k = not-not-intro (f ≤ₜ lesser_of a b) (lesser-above a b f (not-not (f ≤ₜ a) h) (not-not (f ≤ₜ b) k))

lesser_m-none : (m : Option Tag) (f : Tag) → T (has_reached m f) → T (has_reached (lesser_present m None) f)
lesser_m-none None f h = h
lesser_m-none (Some a) f h = h

least_of-reached : (p : Participant) (ps : List Participant) (f : Tag) → Each (λ q. T (has_reached q.completed f)) (p ∷ ps) → T (has_reached (least_of (λ q. q.completed) (p ∷ ps)) f)
least_of-reached p [] f h = lesser_m-none p.completed f h.0
least_of-reached p (q ∷ ps) f h = lesser_m-reached p.completed (least_of (λ q. q.completed) (q ∷ ps)) f h.0 (least_of-reached q ps f h.1)

least-all : (p : Participant) (ps : List Participant) (f : Tag) → Each (λ q. T (has_reached q.completed f)) (p ∷ ps) → T (has_reached (least_completed (p ∷ ps)) f)
least-all p ps f h =
    if-true (λ (x : Option Tag). T (has_reached x f)) (all (λ q. is_present q.completed) (p ∷ ps)) (λ u. least_of-reached p ps f h)
    (λ u. absurd (clash (all (λ q. is_present q.completed) (p ∷ ps)) (all_of (λ q. is_present q.completed) (p ∷ ps) (each_map (λ q. T (has_reached q.completed f)) (λ q. T (is_present q.completed)) (λ q. present-of q.completed f) (p ∷ ps) h)) u))
  where
    clash : (b : Bool) → T b → T (not b) → ⊥
    clash true x y = y
    clash false x y = x

abbrev pub Empty : List Participant → Type 0
Empty [] = Unit {0}
Empty (p ∷ ps) = ⊥

empty-map : (h : Participant → Participant) (ps : List Participant) → Empty (map h ps) → Empty ps
empty-map h [] e = e
empty-map h (p ∷ ps) e = e

empty-each : (P : Participant → Type 0) (ps : List Participant) → Empty ps → Each P ps
empty-each P [] e = tt
empty-each P (p ∷ ps) e = absurd e

least-or : (ps : List Participant) (f : Tag) → Each (λ p. T (has_reached p.completed f)) ps → Empty ps ⊎ T (has_reached (least_completed ps) f)
least-or [] f h = inl tt
least-or (p ∷ ps) f h = inr (least-all p ps f h)

covered-least : (t : State) → ((f : Tag) → Empty t.participants → T (has_reached t.completed_frontier f)) → FrontierCovers (complete_all (least_completed t.participants) t).state
unfolding complete_all finish
covered-least t old = go (least_completed t.participants) refl
  where
    Either : Tag → Type 0
    Either f = Empty t.participants ⊎ T (has_reached (least_completed t.participants) f)

    none_yet : (f : Tag) → least_completed t.participants ≡ None → Either f → T (has_reached t.completed_frontier f)
    none_yet f e (inl z) = old f z
    none_yet f e (inr h) = absurd (subst (λ (x : Option Tag). T (has_reached x f)) e h)

    now : (m f : Tag) → least_completed t.participants ≡ Some m → T (is_below t.completed_frontier m) → Either f → T (has_reached (Some m) f)
    now m f e u (inl z) = reached-up t.completed_frontier m f u (old f z)
    now m f e u (inr h) = subst (λ (x : Option Tag). T (has_reached x f)) e h

    stay : (m f : Tag) → least_completed t.participants ≡ Some m → T (has_reached t.completed_frontier m) → Either f → T (has_reached t.completed_frontier f)
    stay m f e u (inl z) = old f z
    stay m f e u (inr h) = reached-down t.completed_frontier m f (not-not (f ≤ₜ m) (subst (λ (x : Option Tag). T (has_reached x f)) e h)) u

    go : (m : Option Tag) → least_completed t.participants ≡ m → FrontierCovers (complete_all m t).state
    go None e = λ f a. none_yet f e (least-or t.participants f a)
    go (Some m) e =
        if-true (λ (o : Step). FrontierCovers o.state) (is_below t.completed_frontier m)
        (λ u f a. now m f e u (least-or t.participants f a)) (λ u f a. stay m f e u (least-or t.participants f a))

covered-complete : (e : ℕ) (t : Tag) (n : Bool) (s : State) → FrontierCovers s → FrontierCovers (complete_tag_of e t n s).state
unfolding complete_tag_of complete_by
covered-complete e t n s v = if-true P (is_stopped s) (λ u. v) (λ u. go (find e s.participants))
  where
    P : Step → Type 0
    P o = FrontierCovers o.state

    go : (o : Option Participant) → P (complete_by e t n s o)
    go None = v
    go (Some p) =
        if-true P (is_below p.completed t)
        (λ u. covered-least (noted e t n s) (λ f z. v f (empty-each (λ q. T (has_reached q.completed f)) s.participants (empty-map (at e (with_completed (Some t))) s.participants z))))
        (λ u. v)

-- what a step leaves of acknowledgements, where it only sets completed tags
UpTo-at : (e : ℕ) (t : Tag) (g : ℕ) (p : Participant) → UpTo p.completion_observed g → UpTo (at e (with_completed (Some t)) p).completion_observed g
UpTo-at e t g p h = if-true (λ (q : Participant). UpTo q.completion_observed g) (eqb p.index e) (λ u. h) (λ u. h)

acks-complete : (e : ℕ) (t : Tag) (n : Bool) (s : State) → NoneAhead s → NoneAhead (complete_tag_of e t n s).state
unfolding complete_tag_of complete_by complete_all finish
acks-complete e t n s v = if-true P (is_stopped s) (λ u. v) (λ u. go (find e s.participants))
  where
    P : Step → Type 0
    P o = NoneAhead o.state

    w : NoneAhead (noted e t n s)
    w = each-onto (λ p. UpTo p.completion_observed s.completion_generation) (λ p. UpTo p.completion_observed s.completion_generation) (at e (with_completed (Some t))) (λ p. UpTo-at e t s.completion_generation p) s.participants v

    all_have : (m : Option Tag) → P (complete_all m (noted e t n s))
    all_have None = w
    all_have (Some m) = if-true P (is_below s.completed_frontier m) (λ u. w) (λ u. w)

    go : (o : Option Participant) → P (complete_by e t n s o)
    go None = v
    go (Some p) = if-true P (is_below p.completed t) (λ u. all_have (least_completed (noted e t n s).participants)) (λ u. v)

consistent-complete : (s : State) → Consistent s → (e : ℕ) (t : Tag) (n : Bool) → Consistent (complete_tag_of e t n s).state
consistent-complete s v e t n = record { covers = covered-complete e t n s v.covers; ahead = acks-complete e t n s v.ahead }

-- ---- observed

consistent-observed : (s : State) → Consistent s → (e g : ℕ) → Consistent (observed_of e g s).state
unfolding observed_of
consistent-observed s v e g = if-true (λ (o : Step). Consistent o.state) (answers_probe g s) (λ u. kept (eqb→eq g s.completion_generation (and_right (is_present s.completion_probe) (eqb g s.completion_generation) u))) (λ u. v)
  where
    kept : g ≡ s.completion_generation → Consistent (only e (with_completion_observed (Some g)) s)
    kept q = record {
      covers = λ f a. v.covers f (each_back (λ p. T (has_reached p.completed f)) (λ p. T (has_reached p.completed f)) (at e (with_completion_observed (Some g))) (λ p. if-true (λ (x : Participant). T (has_reached x.completed f) → T (has_reached p.completed f)) (eqb p.index e) (λ u h. h) (λ u h. h)) s.participants a);
      ahead = each-onto (λ p. UpTo p.completion_observed s.completion_generation) (λ p. UpTo p.completion_observed s.completion_generation) (at e (with_completion_observed (Some g))) (λ p h. if-true (λ (x : Participant). UpTo x.completion_observed s.completion_generation) (eqb p.index e) (λ u. subst (λ (k : ℕ). g ≤ k) q (le_refl g)) (λ u. h)) s.participants v.ahead;
    }

-- ---- the completion step

UpTo-suc : (m : Option ℕ) (g : ℕ) → UpTo m g → UpTo m (next_generation g)
UpTo-suc None g h = tt
UpTo-suc (Some n) g h = omega arith

acks-advance : (s : State) → NoneAhead s → NoneAhead (advance_of s).state
unfolding advance_of advance_to finish probe_for
acks-advance s v = if-true P (is_stopped s) (λ u. v) (λ u. go (front_of s))
  where
    P : Step → Type 0
    P o = NoneAhead o.state

    go : (m : Option Tag) → P (advance_to m s)
    go None = v
    go (Some f) =
        if-true P (is_held f s) (λ u. v)
        (λ u. if-true P (same_optional s.completion_probe (Some f)) (λ w. if-true P (all_answered f s) (λ x. v) (λ x. v))
        (λ w. each_map (λ p. UpTo p.completion_observed s.completion_generation) (λ p. UpTo p.completion_observed (next_generation s.completion_generation)) (λ p. UpTo-suc p.completion_observed s.completion_generation) s.participants v))

pub consistent-advance : (s : State) → Consistent s → Consistent (advance_of s).state
consistent-advance s v = record {
  covers = covered-rise s (advance_of s) (climbs-advance s) v.covers (λ f a. subst (λ (ps : List Participant). Each (λ p. T (has_reached p.completed f)) ps) (advance-participants s) a);
  ahead = acks-advance s v.ahead;
}

-- ---- any call, any run

pub consistent-own : (c : Call) (s : State) → Consistent s → Consistent (own_step c s).state
consistent-own c s v = own-cases (λ o. Consistent o.state) s (consistent-frame s v) (consistent-complete s v) (consistent-observed s v) c

consistent-take : (c : Call) (s : State) → Consistent s → Consistent (take_step c s).state
unfolding take_step
consistent-take c s v = if-true (λ (o : Step). Consistent o.state) (facts c).message (λ u. consistent-advance (own_step c s).state (consistent-own c s v)) (λ u. consistent-own c s v)

pub call-keeps-consistent : CallKeepsConsistent
unfolding call
call-keeps-consistent g s v = if-true (λ (o : Step). Consistent o.state) (is_taken g s) (λ u. consistent-take g.what s v) (λ u. v)

pub consistent-run : (gs : List Given) (s : State) → Consistent s → Consistent (run_calls gs s).state
unfolding run_calls
consistent-run [] s v = v
consistent-run (g ∷ gs) s v = consistent-run gs (call g s).step.state (call-keeps-consistent g s v)

-- ---- an opening

insert-each : (P : Participant → Type 0) (e : ℕ) (ps : List Participant) → P (fresh e) → Each P ps → Each P (insert e ps)
insert-each P e [] h k = (h, tt)
insert-each P e (p ∷ ps) h k = if-true (Each P) (ltb e p.index) (λ u. (h, k)) (λ u. (k.0, insert-each P e ps h k.1))

pub seated-each : (P : Participant → Type 0) (es : List ℕ) → Each (λ e. P (fresh e)) es → Each P (seated es)
seated-each P [] h = tt
seated-each P (e ∷ es) h = insert-each P e (seated es) h.0 (seated-each P es h.1)

abbrev Blank : Participant → Type 0
Blank p = (p.completed ≡ None) × (p.completion_observed ≡ None)

blank-seated : (es : List ℕ) → Each Blank (seated es)
blank-seated es = seated-each Blank es (each_of (λ e. (refl, refl)) es)

not-empty : (e : ℕ) (ps : List Participant) → Empty (insert e ps) → ⊥
not-empty e [] h = h
not-empty e (p ∷ ps) h = if-true (λ (l : List Participant). Empty l → ⊥) (ltb e p.index) (λ u k. k) (λ u k. k) h

blank_none : (ps : List Participant) → (Empty ps → ⊥) → Each Blank ps → (f : Tag) → Each (λ p. T (has_reached p.completed f)) ps → ⊥
blank_none [] n h f a = n tt
blank_none (p ∷ ps) n h f a = subst (λ (m : Option Tag). T (has_reached m f)) h.0.0 a.0

consistent-opened : (es : List ℕ) (l : LifecyclePolicy) (r g : ℕ) → opening_refusal es ≡ 0 → Consistent (opened es l r g)
unfolding opened opening_refusal
consistent-opened [] l r g a = let z : ◌≡◌ {A = ℕ} 1 0 = a in absurd (omega arith)
consistent-opened (e ∷ es) l r g a = record {
  covers = λ f h. absurd (blank_none (seated (e ∷ es)) (not-empty e (seated es)) (blank-seated (e ∷ es)) f h);
  ahead = each_map Blank (λ p. UpTo p.completion_observed g) (λ p h. subst (λ (m : Option ℕ). UpTo m g) (sym h.1) tt) (seated (e ∷ es)) (blank-seated (e ∷ es));
}

pub opening-is-consistent : OpeningIsConsistent
opening-is-consistent o = consistent-opened o.enclaves o.policy o.revision o.generation o.accepted

pub consistent-after : (o : Opening) (gs : List Given) → Consistent (state_after o gs)
consistent-after o gs = consistent-run gs (start o) (opening-is-consistent o)
