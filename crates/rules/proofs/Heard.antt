-- `CompleteIsGrounded`: what the call itself shows (proofs/Ground.antt), and that every acknowledgement it counts was heard while this very probe
-- was out. A stored acknowledgement comes from a taken `observed` of the generation then current; the generation never falls, and while it stays the
-- probe is kept or cleared, so the probe that is out now was out then. Assumes nothing.
use Rattle.std.specs.Prelude.{None, Some, Option}
use mathlib.Core.Path.{◌≡◌, refl, sym, ap, ap₂, ◌∙◌, subst}
use mathlib.Core.Logic.{◌⊎◌, inl, inr}
use mathlib.Core.Bool.{Bool}
use mathlib.Core.List.{List, [], ◌∷◌, ◌++◌}
use Prim.Native.Nat.{ℕ, ◌≤◌}
use native.Mathlib.Nat.{le_trans, le_antisymm}
use native.Mathlib.Omega.{arith}
use lib.Dec.{T, eqb→eq, ltb, eqb}
use Rattle.tags.specs.Tags.{is_below, is_present, same_optional}
use Rattle.rules.specs.Calls.{call, facts, is_taken, own_step, run_calls, take_step}
use Rattle.rules.specs.Completion.{advance_of, advance_to, all_answered, answers_probe, complete_all, complete_by, complete_tag_of, finish, front_of, is_held, least_completed, next_generation, noted, observed_of, probe_for}
use Rattle.rules.specs.Demands.{Acknowledges, CompleteIsGrounded, Each, Grounded, Heard, Opening, completes, start, state_after}
use Rattle.rules.specs.Model.{Call, Given, Participant, State, Step, Tag, complete, observed}
use Rattle.rules.specs.Opening.{insert, opened, seated}
use Rattle.rules.specs.Set.{with_completed, with_completion_observed}
use Rattle.rules.specs.Walk.{at, find, is_stopped, only}
use Rattle.rules.proofs.Frame.{Frame, Kept, if-true, own-cases-of}
use Rattle.rules.proofs.Ground.{Ready, advance-participants, call-justified, linked-own}
use Rattle.rules.proofs.Invariants.{each-cores, each-onto}
use Rattle.rules.proofs.Lists.{and_right, each_map, each-zip, no-at}

-- ---- the generation never falls, and while it stays a probe is kept or cleared

abbrev Forward : State → State → Type 0
Forward s t = (s.completion_generation ≤ t.completion_generation) × (t.completion_generation ≡ s.completion_generation → Kept t.completion_probe s.completion_probe)

forward-same : (s t : State) → t.completion_generation ≡ s.completion_generation → Kept t.completion_probe s.completion_probe → Forward s t
forward-same s t e k = (omega arith, λ q. k)

forward-trans : (s t u : State) → Forward s t → Forward t u → Forward s u
forward-trans s t u h k = (le_trans h.0 k.0, through)
  where
    through : u.completion_generation ≡ s.completion_generation → Kept u.completion_probe s.completion_probe
    through q f e = h.1 (le_antisymm (subst (λ (n : ℕ). t.completion_generation ≤ n) q k.0) h.0) f (k.1 (le_antisymm (subst (λ (n : ℕ). n ≤ t.completion_generation) (sym q) h.0) k.0) f e)

forward-advance_to : (m : Option Tag) (s : State) → Forward s (advance_to m s).state
unfolding advance_to finish probe_for
forward-advance_to None s = forward-same s s refl (λ f e. e)
forward-advance_to (Some f) s =
    if-true P (is_held f s) (λ u. cleared)
    (λ u. if-true P (same_optional s.completion_probe (Some f)) (λ v. if-true P (all_answered f s) (λ w. cleared) (λ w. forward-same s s refl (λ g e. e)))
    (λ v. (omega arith, λ q. absurd (raised q))))
  where
    P : Step → Type 0
    P o = Forward s o.state

    cleared : (s.completion_generation ≤ s.completion_generation) × (s.completion_generation ≡ s.completion_generation → Kept None s.completion_probe)
    cleared = (omega arith, λ q g e. no-at e)

    raised : next_generation s.completion_generation ≡ s.completion_generation → ⊥
    raised q = omega arith

forward-take : (c : Call) (s : State) → Forward s (take_step c s).state
unfolding take_step advance_of
forward-take c s = if-true P (facts c).message (λ u. if-true (λ (o : Step). Forward s o.state) (is_stopped t) (λ v. own) (λ v. forward-trans s t (advance_to (front_of t) t).state own (forward-advance_to (front_of t) t))) (λ u. own)
  where
    P : Step → Type 0
    P o = Forward s o.state

    t : State
    t = (own_step c s).state

    own : Forward s t
    own = let l = linked-own c s in forward-same s t l.0 l.1

forward-call : (g : Given) (s : State) → Forward s (call g s).step.state
unfolding call
forward-call g s = if-true (λ (o : Step). Forward s o.state) (is_taken g s) (λ u. forward-take g.what s) (λ u. forward-same s s refl (λ f e. e))

forward-run : (gs : List Given) (s : State) → Forward s (run_calls gs s).state
unfolding run_calls
forward-run [] s = forward-same s s refl (λ f e. e)
forward-run (g ∷ gs) s = forward-trans s t (run_calls gs t).state (forward-call g s) (forward-run gs t)
  where
    t : State
    t = (call g s).step.state

-- ---- where an acknowledgement comes from

-- what X says of every acknowledgement that is stored
abbrev Acked : (ℕ → ℕ → Type 0) → List Participant → Type 0
Acked X ps = Each (λ p. (n : ℕ) → p.completion_observed ≡ Some n → X p.index n) ps

acked-mono : (X Y : ℕ → ℕ → Type 0) → ((e n : ℕ) → X e n → Y e n) → (ps : List Participant) → Acked X ps → Acked Y ps
acked-mono X Y m ps h = each_map (λ p. (n : ℕ) → p.completion_observed ≡ Some n → X p.index n) (λ p. (n : ℕ) → p.completion_observed ≡ Some n → Y p.index n) (λ p k n q. m p.index n (k n q)) ps h

-- the call c, in s, acknowledges the generation that is current
abbrev Says : Call → State → ℕ → ℕ → Type 0
Says c s e n = (c ≡ observed e n) × (n ≡ s.completion_generation)

-- what is known after a call: what was known before, or that this call says it
abbrev Or : (ℕ → ℕ → Type 0) → Call → State → ℕ → ℕ → Type 0
Or X c s e n = X e n ⊎ Says c s e n

acked-frame : (X : ℕ → ℕ → Type 0) (s : State) (o : Step) → Frame s o → Acked X s.participants → Acked X o.state.participants
acked-frame X s o h k = each-cores (λ c. (n : ℕ) → c.completion_observed ≡ Some n → X c.index n) s.participants o.state.participants (sym h.1.2) k

acked-complete : (X : ℕ → ℕ → Type 0) (s : State) → Acked X s.participants → (e : ℕ) (t : Tag) (n : Bool) → Acked X (complete_tag_of e t n s).state.participants
unfolding complete_tag_of complete_by complete_all finish
acked-complete X s v e t n = if-true P (is_stopped s) (λ u. v) (λ u. go (find e s.participants))
  where
    P : Step → Type 0
    P o = Acked X o.state.participants

    C : Participant → Type 0
    C p = (n : ℕ) → p.completion_observed ≡ Some n → X p.index n

    w : Acked X (noted e t n s).participants
    w = each-onto C C (at e (with_completed (Some t))) (λ p k. if-true C (eqb p.index e) (λ u. k) (λ u. k)) s.participants v

    all_have : (m : Option Tag) → P (complete_all m (noted e t n s))
    all_have None = w
    all_have (Some m) = if-true P (is_below s.completed_frontier m) (λ u. w) (λ u. w)

    go : (o : Option Participant) → P (complete_by e t n s o)
    go None = v
    go (Some p) = if-true P (is_below p.completed t) (λ u. all_have (least_completed (noted e t n s).participants)) (λ u. v)

number_in : Option ℕ → ℕ
number_in None = 0
number_in (Some n) = n

acked-observed : (X : ℕ → ℕ → Type 0) (s : State) → Acked X s.participants → (e g : ℕ) → Acked (Or X (observed e g) s) (observed_of e g s).state.participants
unfolding observed_of number_in
acked-observed X s v e g = if-true (λ (o : Step). Acked Y o.state.participants) (answers_probe g s) (λ u. new u) (λ u. acked-mono X Y (λ i n x. inl x) s.participants v)
  where
    Y : ℕ → ℕ → Type 0
    Y = Or X (observed e g) s

    C : Participant → Type 0
    C p = (n : ℕ) → p.completion_observed ≡ Some n → X p.index n

    D : Participant → Type 0
    D p = (n : ℕ) → p.completion_observed ≡ Some n → Y p.index n

    new : T (answers_probe g s) → Acked Y (only e (with_completion_observed (Some g)) s).participants
    new u = each-onto C D (at e (with_completion_observed (Some g))) (λ p k. if-true D (eqb p.index e) (λ y. this p y) (λ y n q. inl (k n q))) s.participants v
      where
        this : (p : Participant) → T (eqb p.index e) → D (with_completion_observed (Some g) p)
        this p y n q = inr (
          ap₂ observed (sym (eqb→eq p.index e y)) (ap number_in q),
          sym (ap number_in q) ∙ eqb→eq g s.completion_generation (and_right (is_present s.completion_probe) (eqb g s.completion_generation) u),
        )

acked-own : (X : ℕ → ℕ → Type 0) (c : Call) (s : State) → Acked X s.participants → Acked (Or X c s) (own_step c s).state.participants
acked-own X c s v =
    own-cases-of (λ c o. Acked (Or X c s) o.state.participants) s
    (λ c o h. acked-mono X (Or X c s) (λ e n x. inl x) o.state.participants (acked-frame X s o h v))
    (λ e t n. acked-mono X (Or X (complete e t n) s) (λ i m x. inl x) (complete_tag_of e t n s).state.participants (acked-complete X s v e t n))
    (acked-observed X s v) c

acked-take : (X : ℕ → ℕ → Type 0) (c : Call) (s : State) → Acked X s.participants → Acked (Or X c s) (take_step c s).state.participants
unfolding take_step
acked-take X c s v =
    if-true (λ (o : Step). Acked (Or X c s) o.state.participants) (facts c).message
    (λ u. subst (Acked (Or X c s)) (sym (advance-participants (own_step c s).state)) (acked-own X c s v)) (λ u. acked-own X c s v)

-- what is known after a call that was taken or not
abbrev Next : (ℕ → ℕ → Type 0) → Given → State → ℕ → ℕ → Type 0
Next X g s e n = X e n ⊎ (T (is_taken g s) × Says g.what s e n)

acked-call : (X : ℕ → ℕ → Type 0) (g : Given) (s : State) → Acked X s.participants → Acked (Next X g s) (call g s).step.state.participants
unfolding call
acked-call X g s v =
    if-true (λ (o : Step). Acked (Next X g s) o.state.participants) (is_taken g s)
    (λ u. acked-mono (Or X g.what s) (Next X g s) (λ e n. more u e n) (take_step g.what s).state.participants (acked-take X g.what s v))
    (λ u. acked-mono X (Next X g s) (λ e n x. inl x) s.participants v)
  where
    more : T (is_taken g s) → (e n : ℕ) → X e n ⊎ Says g.what s e n → Next X g s e n
    more u e n (inl x) = inl x
    more u e n (inr x) = inr (u, x)

-- of the acknowledgements in z that are of its generation, while the probe for f is out there: known to X, or heard in the run
abbrev Told : (ℕ → ℕ → Type 0) → List Given → State → State → ℕ → ℕ → Type 0
Told X gs s z e n = (f : Tag) → n ≡ z.completion_generation → z.completion_probe ≡ Some f → X e n ⊎ Heard f gs s e n

told-run : (X : ℕ → ℕ → Type 0) (gs : List Given) (s : State) → Acked X s.participants → Acked (Told X gs s (run_calls gs s).state) (run_calls gs s).state.participants
unfolding run_calls
told-run X [] s v = acked-mono X (Told X [] s s) (λ e n x f q r. inl x) s.participants v
told-run X (g ∷ gs) s v = acked-mono (Told (Next X g s) gs t z) (Told X (g ∷ gs) s z) shift z.participants (told-run (Next X g s) gs t (acked-call X g s v))
  where
    t : State
    t = (call g s).step.state

    z : State
    z = (run_calls gs t).state

    ahead : Forward s z
    ahead = forward-trans s t z (forward-call g s) (forward-run gs t)

    place : (e n : ℕ) (f : Tag) → n ≡ z.completion_generation → z.completion_probe ≡ Some f → Next X g s e n ⊎ Heard f gs t e n → X e n ⊎ Heard f (g ∷ gs) s e n
    place e n f q r (inl (inl x)) = inl x
    place e n f q r (inl (inr x)) = inr (inl (x.0, record { says = x.1.0; out = ahead.1 (sym q ∙ x.1.1) f r; current = x.1.1 }))
    place e n f q r (inr x) = inr (inr x)

    shift : (e n : ℕ) → Told (Next X g s) gs t z e n → Told X (g ∷ gs) s z e n
    shift e n h f q r = place e n f q r (h f q r)

-- ---- from an opening nothing is known at first

nothing : ℕ → ℕ → Type 0
nothing e n = ⊥

no_number : {n : ℕ} → None ≡ Some n → ⊥
no_number q = subst absent q tt
  where
    absent : Option ℕ → Type 0
    absent None = Unit {0}
    absent (Some n) = ⊥

acked-insert : (e : ℕ) (ps : List Participant) → Acked nothing ps → Acked nothing (insert e ps)
unfolding nothing
acked-insert e [] h = (λ n q. no_number q, tt)
acked-insert e (p ∷ ps) h = if-true (Acked nothing) (ltb e p.index) (λ u. (λ n q. no_number q, h)) (λ u. (h.0, acked-insert e ps h.1))

acked-seated : (es : List ℕ) → Acked nothing (seated es)
acked-seated [] = tt
acked-seated (e ∷ es) = acked-insert e (seated es) (acked-seated es)

told-after : (o : Opening) (gs : List Given) → Acked (Told nothing gs (start o) (state_after o gs)) (state_after o gs).participants
unfolding opened
told-after o gs = told-run nothing gs (start o) (acked-seated o.enclaves)

-- ---- a run and one call more

heard-more : (f : Tag) (gs : List Given) (g : Given) (s : State) (e n : ℕ) → Heard f gs s e n → Heard f (gs ++ g ∷ []) s e n
heard-more f [] g s e n h = absurd h
heard-more f (x ∷ gs) g s e n (inl h) = inl h
heard-more f (x ∷ gs) g s e n (inr h) = inr (heard-more f gs g (call x s).step.state e n h)

heard-last : (f : Tag) (gs : List Given) (g : Given) (s : State) (e n : ℕ) → T (is_taken g (run_calls gs s).state) × Acknowledges f g.what (run_calls gs s).state e n → Heard f (gs ++ g ∷ []) s e n
unfolding run_calls
heard-last f [] g s e n h = inl h
heard-last f (x ∷ gs) g s e n h = inr (heard-last f gs g (call x s).step.state e n h)

pub complete-is-grounded : CompleteIsGrounded
unfolding nothing
complete-is-grounded o before now =
    each_map (λ f. Each (Ready s f) ps) (λ f. Each (Grounded o before now f) ps)
    (λ f h. each-zip (Ready s f) C (Grounded o before now f) (grounded f) ps h (acked-call X now s (told-after o before))) (completes (call now s).step.actions) (call-justified now s)
  where
    s : State
    s = state_after o before

    ps : List Participant
    ps = (call now s).step.state.participants

    X : ℕ → ℕ → Type 0
    X = Told nothing before (start o) s

    C : Participant → Type 0
    C p = (n : ℕ) → p.completion_observed ≡ Some n → Next X now s p.index n

    known : (f : Tag) (e : ℕ) → nothing e s.completion_generation ⊎ Heard f before (start o) e s.completion_generation → Heard f (before ++ now ∷ []) (start o) e s.completion_generation
    known f e (inl x) = absurd x
    known f e (inr x) = heard-more f before now (start o) e s.completion_generation x

    heard : (f : Tag) (e : ℕ) → s.completion_probe ≡ Some f → Next X now s e s.completion_generation → Heard f (before ++ now ∷ []) (start o) e s.completion_generation
    heard f e r (inl x) = known f e (x f refl r)
    heard f e r (inr x) = heard-last f before now (start o) e s.completion_generation (x.0, record { says = x.1.0; out = r; current = refl })

    grounded : (f : Tag) (p : Participant) → Ready s f p → C p → Grounded o before now f p
    grounded f p (inl x) c = inl x
    grounded f p (inr x) c = inr (x, heard f p.index x.probed (c s.completion_generation x.acknowledged))
