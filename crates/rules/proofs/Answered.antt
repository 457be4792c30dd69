-- T3: a completion probe for f names at least one enclave; and if from then on only acknowledgements and stale acquisitions or observations come, Complete of f comes in the very accepted call that brings the last missing acknowledgement, and not before.
use Rattle.std.specs.Prelude.{None, Some, Option}
use mathlib.Core.Path.{◌≡◌, refl, sym, ap, ap₂, ◌∙◌, subst}
use mathlib.Core.List.{append_assoc, List, [], ◌∷◌, ◌++◌, map}
use mathlib.Core.Logic.{◌⊎◌, inl, inr}
use lib.Dec.{T, eqb→eq, eqb}
use native.Mathlib.Omega.{arith}
use Prim.Native.Nat.{ℕ}
use mathlib.Core.Bool.{Bool, true, false, not, cond, ◌&&◌, ◌||◌}
use Rattle.tags.specs.Tags.{◌≤ₜ◌, greater_present, has_reached, is_below, is_present, lesser_of_both, same_optional}
use Rattle.tags.proofs.Order.{≤ₜ-refl}
use Rattle.rules.specs.Acquisition.{acquisition_of}
use Rattle.rules.specs.Calls.{also, call, facts, is_taken, own_step, take_step, then_advance}
use Rattle.rules.specs.Completion.{advance_of, advance_to, all_answered, answers_probe, asks, blocks, complete_all, complete_by, complete_of, complete_tag_of, finish, front_of, has_answered, is_held, lags, least_completed, marked, next_generation, noted, observed_of, probe_for}
use Rattle.rules.specs.Demands.{Answered, Consistent, Course, Each, IfNone, Late, LateGiven, NonEmpty, ProbeIsAnswered, Stale, UpTo, acknowledgement, acquisition, as_call, given, named, observation, probe_name, remove, state_after, still_missing}
use Rattle.rules.specs.Model.{AwaitingIdleConfirmation, Call, Complete, CoordinationAction, Given, OptionalInputs, Participant, State, Step, Tag}
use Rattle.rules.specs.Observation.{observation_of, unheard}
use Rattle.rules.specs.Set.{with_completion_observed, with_completion_probe}
use Rattle.rules.specs.Walk.{all, any, at, each, find, greatest_of, is, is_number, is_stopped, only, outdated, quiet}
use Rattle.rules.proofs.Frame.{if-true, own-cases, plain-named}
use Rattle.rules.proofs.Increase.{not-not, or_left}
use Rattle.rules.proofs.Invariants.{consistent-after, consistent-own}

-- the enclaves whose acknowledgement of the probe for f, of generation g, is missing
abbrev pub missing : Tag → ℕ → List Participant → List ℕ
missing f g [] = []
missing f g (p ∷ ps) = cond (has_answered f g p) (missing f g ps) (p.index ∷ missing f g ps)

abbrev pub missing_in : Tag → State → List ℕ
missing_in f s = missing f s.completion_generation s.participants

-- a probe for f is out, and f is what the completion step would go by
abbrev pub Waiting : Tag → State → Type 0
Waiting f s = record { running : T (not (is_stopped s)); fronts : front_of s ≡ Some f; free : T (not (is_held f s)); probed : s.completion_probe ≡ Some f }

abbrev pub Probes : Step → Type 0
Probes o = record { for : Tag; waits : Waiting for o.state; who : named o.actions ≡ missing_in for o.state; someone : NonEmpty (named o.actions) }

-- a step sends no completion probe and leaves the generation
abbrev pub AsksNobody : State → Step → Type 0
AsksNobody s o = (named o.actions ≡ []) × (o.state.completion_generation ≡ s.completion_generation)

-- a step asks nobody, or it sends a probe for some f, to at least one enclave: to all those whose acknowledgement is then missing
abbrev pub Asks : State → Step → Type 0
Asks s o = AsksNobody s o ⊎ Probes o

-- ---- first half

pub named-++ : (a b : List CoordinationAction) → named (a ++ b) ≡ named a ++ named b
named-++ [] b = refl
named-++ (x ∷ a) b = ap (λ (l : List ℕ). probe_name x ++ l) (named-++ a b) ∙ sym (append_assoc (probe_name x) (named a) (named b))

not_yet : (m : Option ℕ) (g : ℕ) → UpTo m g → T (not (is_number m (next_generation g)))
not_yet None g h = tt
not_yet (Some n) g h = go (eqb n (next_generation g)) (λ t. eqb→eq n (next_generation g) t)
  where
    go : (b : Bool) → (T b → n ≡ next_generation g) → T (not b)
    go true f = let e = f tt in omega arith
    go false f = tt

named-missing : (f : Tag) (g : ℕ) (ps : List Participant) → Each (λ p. UpTo p.completion_observed g) ps → named (each (lags f) (asks (next_generation g)) ps) ≡ missing f (next_generation g) ps
named-missing f g [] h = refl
named-missing f g (p ∷ ps) h = go (lags f p) (is_number p.completion_observed (next_generation g)) (not_yet p.completion_observed g h.0) (named-missing f g ps h.1)
  where
    go : (l a : Bool) → T (not a) → named (each (lags f) (asks (next_generation g)) ps) ≡ missing f (next_generation g) ps
        → named (cond l (asks (next_generation g) p ∷ each (lags f) (asks (next_generation g)) ps) (each (lags f) (asks (next_generation g)) ps)) ≡ cond (not l || a) (missing f (next_generation g) ps) (p.index ∷ missing f (next_generation g) ps)
    go true true n q = absurd n
    go true false n q = ap {B = List ℕ} (λ l. p.index ∷ l) q
    go false a n q = q

lagging-or : (f : Tag) (g : ℕ) (ps : List Participant) → Each (λ p. T (has_reached p.completed f)) ps ⊎ NonEmpty (named (each (lags f) (asks g) ps))
lagging-or f g [] = inl tt
lagging-or f g (p ∷ ps) = go (lags f p) (lagging-or f g ps)
  where
    go : (l : Bool) → Each (λ p. T (has_reached p.completed f)) ps ⊎ NonEmpty (named (each (lags f) (asks g) ps))
        → (T (not l) × Each (λ p. T (has_reached p.completed f)) ps) ⊎ NonEmpty (named (cond l (asks g p ∷ each (lags f) (asks g) ps) (each (lags f) (asks g) ps)))
    go true r = inr tt
    go false (inl h) = inl (tt, h)
    go false (inr h) = inr h

clash : (b : Bool) → T b → T (not b) → ⊥
clash true x y = y
clash false x y = x

probes-at : (f : Tag) (s : State) → Consistent s → T (not (is_stopped s)) → front_of s ≡ Some f → T (not (is_held f s)) → Probes (probe_for f s)
unfolding probe_for
probes-at f s v run e free = record {
  for = f;
  waits = record { running = run; fronts = e; free = free; probed = refl };
  who = named-missing f s.completion_generation s.participants v.ahead;
  someone = go (lagging-or f (next_generation s.completion_generation) s.participants);
}
  where
    go : Each (λ p. T (has_reached p.completed f)) s.participants ⊎ NonEmpty (named (each (lags f) (asks (next_generation s.completion_generation)) s.participants)) → NonEmpty (named (each (lags f) (asks (next_generation s.completion_generation)) s.participants))
    go (inl h) = absurd (clash (is_below s.completed_frontier f) (not-not (is_below s.completed_frontier f) (or_left (not (is_below s.completed_frontier f)) (any (blocks f) s.participants) free)) (v.covers f h))
    go (inr h) = h

asks-advance : (s : State) → Consistent s → Asks s (advance_of s)
unfolding advance_of advance_to finish
asks-advance s v = if-true (Asks s) (is_stopped s) (λ u. inl (refl, refl)) (λ u. go u (front_of s) refl)
  where
    go : T (not (is_stopped s)) → (m : Option Tag) → front_of s ≡ m → Asks s (advance_to m s)
    go u None e = inl (refl, refl)
    go u (Some f) e =
        if-true (Asks s) (is_held f s) (λ w. inl (refl, refl))
        (λ w. if-true (Asks s) (same_optional s.completion_probe (Some f)) (λ x. if-true (Asks s) (all_answered f s) (λ y. inl (refl, refl)) (λ y. inl (refl, refl)))
        (λ x. inr (probes-at f s v u e w)))

nobody-complete : (e : ℕ) (t : Tag) (n : Bool) (s : State) → AsksNobody s (complete_tag_of e t n s)
unfolding complete_tag_of complete_by complete_all finish
nobody-complete e t n s = if-true P (is_stopped s) (λ u. (refl, refl)) (λ u. go (find e s.participants))
  where
    P : Step → Type 0
    P = AsksNobody s

    all_have : (m : Option Tag) → P (complete_all m (noted e t n s))
    all_have None = (refl, refl)
    all_have (Some m) = if-true P (is_below s.completed_frontier m) (λ u. (refl, refl)) (λ u. (refl, refl))

    go : (o : Option Participant) → P (complete_by e t n s o)
    go None = (refl, refl)
    go (Some p) = if-true P (is_below p.completed t) (λ u. all_have (least_completed (noted e t n s).participants)) (λ u. (refl, refl))

nobody-observed : (e g : ℕ) (s : State) → AsksNobody s (observed_of e g s)
unfolding observed_of
nobody-observed e g s = if-true (AsksNobody s) (answers_probe g s) (λ u. (refl, refl)) (λ u. (refl, refl))

nobody-own : (c : Call) (s : State) → AsksNobody s (own_step c s)
nobody-own c s = own-cases (AsksNobody s) s (λ o h. (plain-named o.actions h.0, h.1.1)) (λ e t n. nobody-complete e t n s) (λ e g. nobody-observed e g s) c

asks-also : (s : State) (a b : Step) → AsksNobody s a → Asks a.state b → Asks s (also a b)
asks-also s a b h k = go k
  where
    same : named (a.actions ++ b.actions) ≡ named b.actions
    same = named-++ a.actions b.actions ∙ ap (λ (l : List ℕ). l ++ named b.actions) h.0

    go : Asks a.state b → Asks s (also a b)
    go (inl x) = inl (same ∙ x.0, x.1 ∙ h.1)
    go (inr x) = inr (record { for = x.for; waits = x.waits; who = same ∙ x.who; someone = subst NonEmpty (sym same) x.someone })

asks-take : (c : Call) (s : State) → Consistent s → Asks s (take_step c s)
unfolding take_step
asks-take c s v =
    if-true (Asks s) (facts c).message
    (λ u. asks-also s (own_step c s) (advance_of (own_step c s).state) (nobody-own c s) (asks-advance (own_step c s).state (consistent-own c s v))) (λ u. inl (nobody-own c s))

pub asks-call : (g : Given) (s : State) → Consistent s → Asks s (call g s).step
unfolding call
asks-call g s v = if-true (Asks s) (is_taken g s) (λ u. asks-take g.what s v) (λ u. inl (refl, refl))

-- ---- second half

-- a claim on a test and on what it picks
if-both : {A : Type 0} (P : Bool → A → Type 0) (b : Bool) {x y : A} → P true x → P false y → P b (cond b x y)
if-both P true h k = h
if-both P false h k = k

-- conditionals whose test is known
pub cond_yes {ℓ} : {A : Type ℓ} (b : Bool) (x y : A) → T b → cond b x y ≡ x
cond_yes true x y h = refl
cond_yes false x y h = absurd h

pub cond_no {ℓ} : {A : Type ℓ} (b : Bool) (x y : A) → T (not b) → cond b x y ≡ y
cond_no true x y h = absurd h
cond_no false x y h = refl

-- the completion step in a waiting state
same_self : (m : Option Tag) (f : Tag) → m ≡ Some f → T (same_optional m (Some f))
same_self m f e = subst (λ (x : Option Tag). T (same_optional x (Some f))) (sym e) (go (f ≤ₜ f) (≤ₜ-refl f))
  where
    go : (b : Bool) → T b → T (b && b)
    go true h = tt
    go false h = h

waiting-advance : (f : Tag) (s : State) → Waiting f s → advance_of s ≡ cond (all_answered f s) (finish f (with_completion_probe None s)) (quiet s)
unfolding advance_of advance_to
waiting-advance f s w =
    cond_no (is_stopped s) (quiet s) (advance_to (front_of s) s) w.running ∙ ap (λ (m : Option Tag). advance_to m s) w.fronts ∙ cond_no (is_held f s) _ _ w.free ∙
    cond_yes (same_optional s.completion_probe (Some f)) _ _ (same_self s.completion_probe f w.probed)

-- all have answered exactly when none is missing
none-missing : (f : Tag) (g : ℕ) (ps : List Participant) → (T (all (has_answered f g) ps) × (missing f g ps ≡ [])) ⊎ (T (not (all (has_answered f g) ps)) × NonEmpty (missing f g ps))
none-missing f g [] = inl (tt, refl)
none-missing f g (p ∷ ps) = go (has_answered f g p) (none-missing f g ps)
  where
    go : (b : Bool) → (T (all (has_answered f g) ps) × (missing f g ps ≡ [])) ⊎ (T (not (all (has_answered f g) ps)) × NonEmpty (missing f g ps))
        → (T (b && all (has_answered f g) ps) × (cond b (missing f g ps) (p.index ∷ missing f g ps) ≡ [])) ⊎ (T (not (b && all (has_answered f g) ps)) × NonEmpty (cond b (missing f g ps) (p.index ∷ missing f g ps)))
    go true r = r
    go false r = inr (tt, tt)

-- what the completion step gives in a waiting state
Settles : Tag → State → Type 0
Settles f s = ((missing_in f s ≡ []) × ((advance_of s).actions ≡ complete_of f s ∷ [])) ⊎ (NonEmpty (missing_in f s) × (advance_of s ≡ quiet s))

settles : (f : Tag) (s : State) → Waiting f s → Settles f s
unfolding Settles finish
settles f s w = go (none-missing f s.completion_generation s.participants)
  where
    go : (T (all_answered f s) × (missing_in f s ≡ [])) ⊎ (T (not (all_answered f s)) × NonEmpty (missing_in f s)) → Settles f s
    go (inl h) = inl (h.1, ap (λ (o : Step). o.actions) (waiting-advance f s w ∙ cond_yes (all_answered f s) (finish f (with_completion_probe None s)) (quiet s) h.0))
    go (inr h) = inr (h.1, waiting-advance f s w ∙ cond_no (all_answered f s) (finish f (with_completion_probe None s)) (quiet s) h.0)

-- ---- what an acknowledgement changes

acked-by : ℕ → ℕ → Participant → Participant
acked-by e n p = at e (with_completion_observed (Some n)) p

or_yes : (a b : Bool) → T b → T (a || b)
or_yes true b h = tt
or_yes false b h = h

missing-ack : (f : Tag) (g e n : ℕ) → T (eqb n g) → (ps : List Participant) → missing f g (map (acked-by e n) ps) ≡ remove e (missing f g ps)
unfolding acked-by
missing-ack f g e n h [] = refl
missing-ack f g e n h (p ∷ ps) = go_b (missing-ack f g e n h ps) (eqb p.index e) (λ x. x) (λ x. x)
  where
    X : List ℕ
    X = missing f g (map (acked-by e n) ps)

    Y : List ℕ
    Y = missing f g ps

    i : ℕ
    i = p.index

    named-p : X ≡ remove e Y → T (eqb i e) → X ≡ remove e (cond (has_answered f g p) Y (i ∷ Y))
    named-p q y = if-true (λ (l : List ℕ). X ≡ remove e l) (has_answered f g p) (λ u. q) (λ u. q ∙ sym (cond_yes (eqb i e) (remove e Y) (i ∷ remove e Y) y))

    other : X ≡ remove e Y → T (not (eqb i e)) → (a : Bool) → cond a X (i ∷ X) ≡ remove e (cond a Y (i ∷ Y))
    other q z true = q
    other q z false = ap {B = List ℕ} (λ l. i ∷ l) q ∙ sym (cond_no (eqb i e) (remove e Y) (i ∷ remove e Y) z)

    go_b : X ≡ remove e Y → (b : Bool) → (T b → T (eqb i e)) → (T (not b) → T (not (eqb i e)))
        → cond (has_answered f g (cond b (with_completion_observed (Some n) p) p)) X ((cond b (with_completion_observed (Some n) p) p).index ∷ X) ≡ remove e (cond (has_answered f g p) Y (i ∷ Y))
    go_b q true y z = cond_yes (has_answered f g (with_completion_observed (Some n) p)) X (i ∷ X) (or_yes (not (lags f p)) (eqb n g) h) ∙ named-p q (y tt)
    go_b q false y z = other q (z tt) (has_answered f g p)

greatest-map : (h : Participant → Participant) → ((p : Participant) → (h p).completed ≡ p.completed) → (ps : List Participant) → greatest_of (λ p. p.completed) (map h ps) ≡ greatest_of (λ p. p.completed) ps
greatest-map h k [] = refl
greatest-map h k (p ∷ ps) = ap₂ greater_present (k p) (greatest-map h k ps)

any-map : (q : Participant → Bool) (h : Participant → Participant) → ((p : Participant) → q (h p) ≡ q p) → (ps : List Participant) → any q (map h ps) ≡ any q ps
any-map q h k [] = refl
any-map q h k (p ∷ ps) = ap₂ (λ (x y : Bool). x || y) (k p) (any-map q h k ps)

acknowledged : ℕ → ℕ → State → State
acknowledged e n s = only e (with_completion_observed (Some n)) s

waiting-ack : (f : Tag) (e n : ℕ) (s : State) → Waiting f s → Waiting f (acknowledged e n s)
unfolding acknowledged
waiting-ack f e n s w = record {
  running = w.running;
  fronts = ap (λ (m : Option Tag). lesser_of_both m s.grant_horizon) (greatest-map h (λ p. if-true (λ (q : Participant). q.completed ≡ p.completed) (eqb p.index e) (λ u. refl) (λ u. refl)) s.participants) ∙ w.fronts;
  free = subst (λ (b : Bool). T (not (not (is_below s.completed_frontier f) || b))) (sym (any-map (blocks f) h (λ p. if-true (λ (q : Participant). blocks f q ≡ blocks f p) (eqb p.index e) (λ u. refl) (λ u. refl)) s.participants)) w.free;
  probed = w.probed;
}
  where
    h : Participant → Participant
    h = at e (with_completion_observed (Some n))

-- ---- one late call

-- the step o leaves ms missing
abbrev Outcome : Tag → State → List ℕ → Step → Type 0
Outcome f s ms o =
    ((ms ≡ []) × (o.actions ≡ complete_of f s ∷ [])) ⊎
    (NonEmpty ms × (o.actions ≡ []) × Waiting f o.state × (missing_in f o.state ≡ ms) × (o.state.revision ≡ s.revision))

outcome-quiet : (f : Tag) (s : State) → Waiting f s → NonEmpty (missing_in f s) → Outcome f s (missing_in f s) (quiet s)
outcome-quiet f s w n = inr (n, refl, w, refl, refl)

-- the completion step after a state t that differs from s in acknowledgements alone
outcome-advance : (f : Tag) (s t : State) → Waiting f t → t.pending_inputs ≡ s.pending_inputs → t.revision ≡ s.revision → Outcome f s (missing_in f t) (then_advance (quiet t))
unfolding Settles
outcome-advance f s t w i r = go (settles f t w)
  where
    go : Settles f t → Outcome f s (missing_in f t) (then_advance (quiet t))
    go (inl h) = inl (h.0, h.1 ∙ ap {B = List CoordinationAction} (λ (m : OptionalInputs). Complete (record { completed = f; network_input = marked m f }) ∷ []) i)
    go (inr h) = subst (λ (o : Step). Outcome f s (missing_in f t) (also (quiet t) o)) (sym h.1) (inr (h.0, refl, w, refl, r))

at-present : (m : Option Tag) (f : Tag) → m ≡ Some f → T (is_present m)
at-present m f e = subst (λ (x : Option Tag). T (is_present x)) (sym e) tt

and_both : (a b : Bool) → T a → T b → T (a && b)
and_both true b h k = k
and_both false b h k = h

and-not : (a b : Bool) → T (not b) → T (not (a && b))
and-not true b h = h
and-not false b h = tt

outcome-ack : (f : Tag) (s : State) (e n : ℕ) → Waiting f s → NonEmpty (missing_in f s) → Outcome f s (cond (eqb n s.completion_generation) (remove e (missing_in f s)) (missing_in f s)) (then_advance (observed_of e n s))
unfolding observed_of acknowledged acked-by
outcome-ack f s e n w m =
    if-true (λ (ms : List ℕ). Outcome f s ms (then_advance (observed_of e n s))) (eqb n s.completion_generation)
    (λ u. subst (λ (o : Step). Outcome f s (remove e (missing_in f s)) (then_advance o)) (sym (cond_yes test (quiet (acknowledged e n s)) (quiet s) (and_both (is_present s.completion_probe) (eqb n s.completion_generation) (at-present s.completion_probe f w.probed) u)))
    (subst (λ (ms : List ℕ). Outcome f s ms (then_advance (quiet (acknowledged e n s)))) (missing-ack f s.completion_generation e n u s.participants) (outcome-advance f s (acknowledged e n s) (waiting-ack f e n s w) refl refl)))
    (λ u. subst (λ (o : Step). Outcome f s (missing_in f s) (then_advance o)) (sym (cond_no test (quiet (acknowledged e n s)) (quiet s) (and-not (is_present s.completion_probe) (eqb n s.completion_generation) u)))
    (outcome-advance f s s w refl refl))
  where
    test : Bool
    test = is_present s.completion_probe && eqb n s.completion_generation

or_no : (a b : Bool) → T a → T (a || b)
or_no true b k = tt
or_no false b k = absurd k

outcome-late : (f : Tag) (s : State) (x : Late) → Waiting f s → NonEmpty (missing_in f s) → Stale s.revision x → Outcome f s (still_missing true x s.completion_generation (missing_in f s)) (take_step (as_call x) s)
unfolding take_step own_step acquisition_of observation_of
outcome-late f s (acknowledgement e n) w m h = outcome-ack f s e n w m
outcome-late f s (acquisition q t) w m h =
    subst (Outcome f s (missing_in f s)) (sym (cond_yes (outdated q s) (quiet s) _ (or_yes (is_stopped s) (not (eqb q s.revision)) h))) (outcome-quiet f s w m)
outcome-late f s (observation e q o) w m h =
    subst (Outcome f s (missing_in f s)) (sym (cond_yes (unheard q s) (quiet s) _ (or_no (outdated q s) (is AwaitingIdleConfirmation s) (or_yes (is_stopped s) (not (eqb q s.revision)) h)))) (outcome-quiet f s w m)

outcome-refused : (f : Tag) (s : State) (x : Late) → Waiting f s → NonEmpty (missing_in f s) → Outcome f s (still_missing false x s.completion_generation (missing_in f s)) (quiet s)
outcome-refused f s (acknowledgement e n) w m = outcome-quiet f s w m
outcome-refused f s (acquisition q t) w m = outcome-quiet f s w m
outcome-refused f s (observation e q o) w m = outcome-quiet f s w m

-- ---- the course of late calls

then-more : (ms : List ℕ) (A B : Type 0) → NonEmpty ms → B → IfNone ms A B
then-more [] A B n b = absurd n
then-more (m ∷ ms) A B n b = b

pub answers : (f : Tag) (xs : List LateGiven) (s : State) (r : ℕ) → Waiting f s → NonEmpty (missing_in f s) → s.revision ≡ r → Each (λ x. Stale r x.late) xs → Course f (missing_in f s) xs s
unfolding call
answers f [] s r w m e h = tt
answers f (x ∷ xs) s r w m e h =
    go (λ w' m' e'. answers f xs o' r w' m' e' h.1)
    (if-both (λ b o. Outcome f s (still_missing b x.late s.completion_generation (missing_in f s)) o) (is_taken (given x) s)
    (outcome-late f s x.late w m (subst (λ (q : ℕ). Stale q x.late) (sym e) h.0)) (outcome-refused f s x.late w m))
  where
    o' : State
    o' = (call (given x) s).step.state

    ms : List ℕ
    ms = still_missing (is_taken (given x) s) x.late s.completion_generation (missing_in f s)

    o : Step
    o = (call (given x) s).step

    A : Type 0
    A = o.actions ≡ complete_of f s ∷ []

    B : Type 0
    B = (o.actions ≡ []) × Course f ms xs o.state

    go : (Waiting f o' → NonEmpty (missing_in f o') → o'.revision ≡ r → Course f (missing_in f o') xs o') → Outcome f s ms o → IfNone ms A B
    go more (inl k) = subst (λ (l : List ℕ). IfNone l A B) (sym k.0) k.1
    go more (inr k) =
        then-more ms A B k.0
        (k.1, subst (λ (l : List ℕ). Course f l xs o.state) k.3 (more k.2 (subst NonEmpty (sym k.3) k.0) (k.4 ∙ e)))

-- ---- every probe is answered

pub probe-is-answered : ProbeIsAnswered
probe-is-answered o before now = go (asks-call now s (consistent-after o before))
  where
    s : State
    s = state_after o before

    step : Step
    step = (call now s).step

    go : Asks s step → AsksNobody s step ⊎ Answered step
    go (inl h) = inl h
    go (inr h) = inr (record {
      for = h.for;
      probe = h.waits.probed;
      names = h.someone;
      course = λ xs k. subst (λ (ms : List ℕ). Course h.for ms xs step.state) (sym h.who) (answers h.for xs step.state step.state.revision h.waits (subst NonEmpty h.who h.someone) refl k);
    })
