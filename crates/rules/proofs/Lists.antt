-- Walks over lists of participants: from the tests to the facts about each.
use Rattle.std.specs.Prelude.{None, Option, Some}
use mathlib.Core.Path.{◌≡◌, sym, ap, subst}
use lib.Dec.{T, eqb→eq}
use Prim.Native.Nat.{ℕ}
use mathlib.Core.Bool.{Bool, true, false, not, ◌&&◌, ◌||◌}
use mathlib.Core.List.{List, [], ◌∷◌, ◌++◌}
use Rattle.tags.specs.Tags.{◌≤ₜ◌, has_reached, is_present, lesser_of, lesser_present, same_optional}
use Rattle.tags.proofs.Order.{≤ₜ-anti, ≤ₜ-refl, ≤ₜ-total, ≤ₜ-trans}
use Rattle.rules.specs.Completion.{least_completed}
use Rattle.rules.specs.Demands.{Each}
use Rattle.rules.specs.Model.{Participant, Tag}
use Rattle.rules.specs.Walk.{all, any, is_number, least_of}
use Rattle.rules.proofs.Frame.{if-true}
use Rattle.rules.proofs.Increase.{or_left}

pub each_map {ℓ} : {A : Type ℓ} (P Q : A → Type 0) → ((x : A) → P x → Q x) → (xs : List A) → Each P xs → Each Q xs
each_map P Q f [] h = tt
each_map P Q f (x ∷ xs) h = (f x h.0, each_map P Q f xs h.1)

pub each-zip {ℓ} : {A : Type ℓ} (P Q R : A → Type 0) → ((x : A) → P x → Q x → R x) → (xs : List A) → Each P xs → Each Q xs → Each R xs
each-zip P Q R f [] h k = tt
each-zip P Q R f (x ∷ xs) h k = (f x h.0 k.0, each-zip P Q R f xs h.1 k.1)

pub each-++ {ℓ} : {A : Type ℓ} (P : A → Type 0) (xs ys : List A) → Each P xs → Each P ys → Each P (xs ++ ys)
each-++ P [] ys h k = k
each-++ P (x ∷ xs) ys h k = (h.0, each-++ P xs ys h.1 k)

and_split : (a b : Bool) → T (a && b) → T a × T b
and_split true b h = (tt, h)
and_split false b h = absurd h

pub and_left : (a b : Bool) → T (a && b) → T a
and_left a b h = (and_split a b h).0

pub and_right : (a b : Bool) → T (a && b) → T b
and_right a b h = (and_split a b h).1

pub or_right : (a b : Bool) → T (not (a || b)) → T (not b)
or_right true b h = absurd h
or_right false b h = h

pub not-not-intro : (a : Bool) → T a → T (not (not a))
not-not-intro true h = tt
not-not-intro false h = h

pub all-each : (q : Participant → Bool) (ps : List Participant) → T (all q ps) → Each (λ p. T (q p)) ps
all-each q [] h = tt
all-each q (p ∷ ps) h = (and_left (q p) (all q ps) h, all-each q ps (and_right (q p) (all q ps) h))

pub none_each : (q : Participant → Bool) (ps : List Participant) → T (not (any q ps)) → Each (λ p. T (not (q p))) ps
none_each q [] h = tt
none_each q (p ∷ ps) h = (or_left (q p) (any q ps) h, none_each q ps (or_right (q p) (any q ps) h))

-- ---- optional tags

abbrev present : Option Tag → Type 0
present None = ⊥
present (Some a) = Unit {0}

pub no-at : {X : Type 0} {f : Tag} → None ≡ Some f → X
no-at e = absurd (subst present (sym e) tt)

abbrev tag_in : Tag → Option Tag → Tag
tag_in d None = d
tag_in d (Some a) = a

pub at-inj : {a b : Tag} → Some a ≡ Some b → a ≡ b
at-inj {a} e = ap (tag_in a) e

pub same-is : (m : Option Tag) (f : Tag) → T (same_optional m (Some f)) → m ≡ Some f
same-is None f h = absurd h
same-is (Some a) f h = ap Some (≤ₜ-anti a f (and_left (a ≤ₜ f) (f ≤ₜ a) h) (and_right (a ≤ₜ f) (f ≤ₜ a) h))

pub is_number-is : (m : Option ℕ) (g : ℕ) → T (is_number m g) → m ≡ Some g
is_number-is None g h = absurd h
is_number-is (Some n) g h = ap Some (eqb→eq n g h)

-- m is the least of some tags among which c, if present, is
abbrev pub Least : Option Tag → Option Tag → Type 0
Least m None = Unit {0}
Least None (Some c) = ⊥
Least (Some m) (Some c) = T (m ≤ₜ c)

pub lesser-left : (a b : Tag) → T (lesser_of a b ≤ₜ a)
lesser-left a b = if-true (λ (x : Tag). T (x ≤ₜ a)) (a ≤ₜ b) (λ h. ≤ₜ-refl a) (λ h. ≤ₜ-total a b h)

lesser-right : (a b : Tag) → T (lesser_of a b ≤ₜ b)
lesser-right a b = if-true (λ (x : Tag). T (x ≤ₜ b)) (a ≤ₜ b) (λ h. h) (λ h. ≤ₜ-refl b)

least-head : (m r : Option Tag) → Least (lesser_present m r) m
least-head None r = tt
least-head (Some a) None = ≤ₜ-refl a
least-head (Some a) (Some b) = lesser-left a b

least-tail : (m r c : Option Tag) → Least r c → Least (lesser_present m r) c
least-tail m r None h = tt
least-tail m None (Some c) h = absurd h
least-tail None (Some r) (Some c) h = h
least-tail (Some m) (Some r) (Some c) h = ≤ₜ-trans (lesser_of m r) r c (lesser-right m r) h

pub least-each : (f : Participant → Option Tag) (ps : List Participant) → Each (λ p. Least (least_of f ps) (f p)) ps
least-each f [] = tt
least-each f (p ∷ ps) =
    (least-head (f p) (least_of f ps), each_map (λ q. Least (least_of f ps) (f q)) (λ q. Least (lesser_present (f p) (least_of f ps)) (f q)) (λ q. least-tail (f p) (least_of f ps) (f q)) ps (least-each f ps))

reached-of : (m : Tag) (c : Option Tag) → T (is_present c) → Least (Some m) c → T (has_reached c m)
reached-of m None p h = absurd p
reached-of m (Some c) p h = not-not-intro (m ≤ₜ c) h

pub least-reached : (ps : List Participant) (m : Tag) → least_completed ps ≡ Some m → Each (λ p. T (has_reached p.completed m)) ps
least-reached ps m = if-true (λ (x : Option Tag). x ≡ Some m → Each (λ p. T (has_reached p.completed m)) ps) (all (λ p. is_present p.completed) ps) yes-all (λ h e. no-at e)
  where
    yes-all : T (all (λ p. is_present p.completed) ps) → least_of (λ p. p.completed) ps ≡ Some m → Each (λ p. T (has_reached p.completed m)) ps
    yes-all h e =
        each-zip (λ p. T (is_present p.completed)) (λ p. Least (Some m) p.completed) (λ p. T (has_reached p.completed m)) (λ p. reached-of m p.completed) ps
        (all-each (λ p. is_present p.completed) ps h)
        (subst (λ (x : Option Tag). Each (λ p. Least x p.completed) ps) e (least-each (λ p. p.completed) ps))
