-- The laws of the order of tags: it is total, its ends are NEVER and FOREVER, the lesser and the greater bound both. Nothing after this file but
-- Derived.antt and the answer of `at_or_below` opens `◌≤ₜ◌`. Assumes nothing.
use mathlib.Core.Path.{◌≡◌, refl, sym, ◌∙◌, subst}
use mathlib.Core.Logic.{◌⊎◌, inl, inr}
use mathlib.Core.Bool.{Bool, true, false, not, cond}
use native.Mathlib.Omega.{arith}
use lib.Dec.{T}
use mir.Syntax.{w64}
use mir.Val.{Fits, SFits}
use Rattle.std.proofs.lemmas.Int.{ints}
use Rattle.tags.specs.Tags.{◌≤ₜ◌, lesser_of, greater_of, never, zero, forever, proper_time, is_proper}
use Rattle.tags.specs.declared.Tag.{Tag}

-- ---- a total order
pub ≤ₜ-refl : (a : Tag) → T (a ≤ₜ a)
unfolding ◌≤ₜ◌
≤ₜ-refl a = grind (arith, ints)

pub ≤ₜ-trans : (a b c : Tag) → T (a ≤ₜ b) → T (b ≤ₜ c) → T (a ≤ₜ c)
unfolding ◌≤ₜ◌
≤ₜ-trans a b c h k = grind (arith, ints)

pub ≤ₜ-total : (a b : Tag) → T (not (a ≤ₜ b)) → T (b ≤ₜ a)
unfolding ◌≤ₜ◌
≤ₜ-total a b h = grind (arith, ints)

seconds-same : (a b : Tag) → T (a ≤ₜ b) → T (b ≤ₜ a) → a.seconds ≡ b.seconds
unfolding ◌≤ₜ◌
seconds-same a b h k = grind (arith, ints)

nanoseconds-same : (a b : Tag) → T (a ≤ₜ b) → T (b ≤ₜ a) → a.nanoseconds ≡ b.nanoseconds
unfolding ◌≤ₜ◌
nanoseconds-same a b h k = grind (arith, ints)

microstep-same : (a b : Tag) → T (a ≤ₜ b) → T (b ≤ₜ a) → a.microstep ≡ b.microstep
unfolding ◌≤ₜ◌
microstep-same a b h k = grind (arith, ints)

pub ≤ₜ-anti : (a b : Tag) → T (a ≤ₜ b) → T (b ≤ₜ a) → a ≡ b
≤ₜ-anti a b h k = λ i. record { seconds = seconds-same a b h k i; nanoseconds = nanoseconds-same a b h k i; microstep = microstep-same a b h k i }

-- ---- the lesser and the greater: what holds of the one chosen
chosen : (P : Tag → Type 0) (a b x y : Tag) → (T (a ≤ₜ b) → P x) → (T (b ≤ₜ a) → P y) → P (cond (a ≤ₜ b) x y)
chosen P a b x y f g = go (a ≤ₜ b) refl
  where
    go : (t : Bool) → (a ≤ₜ b) ≡ t → P (cond t x y)
    go true e = f (subst T (sym e) tt)
    go false e = g (≤ₜ-total a b (subst (λ (z : Bool). T (not z)) (sym e) tt))

pub lesser-is-either : (a b : Tag) → (lesser_of a b ≡ a) ⊎ (lesser_of a b ≡ b)
lesser-is-either a b = chosen (λ t. (t ≡ a) ⊎ (t ≡ b)) a b a b (λ h. inl refl) (λ h. inr refl)

pub greater-is-either : (a b : Tag) → (greater_of a b ≡ a) ⊎ (greater_of a b ≡ b)
greater-is-either a b = chosen (λ t. (t ≡ a) ⊎ (t ≡ b)) a b b a (λ h. inr refl) (λ h. inl refl)

pub lesser-le-left : (a b : Tag) → T (lesser_of a b ≤ₜ a)
lesser-le-left a b = chosen (λ t. T (t ≤ₜ a)) a b a b (λ h. ≤ₜ-refl a) (λ h. h)

pub lesser-le-right : (a b : Tag) → T (lesser_of a b ≤ₜ b)
lesser-le-right a b = chosen (λ t. T (t ≤ₜ b)) a b a b (λ h. h) (λ h. ≤ₜ-refl b)

pub greater-le-left : (a b : Tag) → T (a ≤ₜ greater_of a b)
greater-le-left a b = chosen (λ t. T (a ≤ₜ t)) a b b a (λ h. h) (λ h. ≤ₜ-refl a)

pub greater-le-right : (a b : Tag) → T (b ≤ₜ greater_of a b)
greater-le-right a b = chosen (λ t. T (b ≤ₜ t)) a b b a (λ h. ≤ₜ-refl b) (λ h. h)

-- ---- the lesser and the greater of two in order, and of several in any order
pub lesser-left : (a b : Tag) → T (a ≤ₜ b) → lesser_of a b ≡ a
lesser-left a b h = chosen (λ t. t ≡ a) a b a b (λ k. refl) (λ k. ≤ₜ-anti b a k h)

pub lesser-right : (a b : Tag) → T (b ≤ₜ a) → lesser_of a b ≡ b
lesser-right a b h = chosen (λ t. t ≡ b) a b a b (λ k. ≤ₜ-anti a b k h) (λ k. refl)

greater-left : (a b : Tag) → T (b ≤ₜ a) → greater_of a b ≡ a
greater-left a b h = chosen (λ t. t ≡ a) a b b a (λ k. ≤ₜ-anti b a h k) (λ k. refl)

greater-right : (a b : Tag) → T (a ≤ₜ b) → greater_of a b ≡ b
greater-right a b h = chosen (λ t. t ≡ b) a b b a (λ k. refl) (λ k. ≤ₜ-anti a b h k)

pub greater-comm : (a b : Tag) → greater_of a b ≡ greater_of b a
greater-comm a b = chosen (λ t. t ≡ greater_of b a) a b b a (λ h. sym (greater-left b a h)) (λ h. sym (greater-right b a h))

pub greater-assoc : (a b c : Tag) → greater_of (greater_of a b) c ≡ greater_of a (greater_of b c)
greater-assoc a b c =
    chosen (λ t. greater_of t c ≡ greater_of a (greater_of b c)) a b b a
    (λ h. sym (greater-right a (greater_of b c) (≤ₜ-trans a b (greater_of b c) h (greater-le-left b c))))
    (λ h. chosen (λ t. greater_of a c ≡ greater_of a t) b c c b
    (λ k. refl)
    (λ k. greater-left a c (≤ₜ-trans c b a k h) ∙ sym (greater-left a b h)))

-- ---- the ends: NEVER and FOREVER among the proper tags whose numbers fit
pub never-least : (t : Tag) → SFits w64 t.seconds → T (is_proper t) → T (never ≤ₜ t)
unfolding ◌≤ₜ◌ proper_time
never-least t f p = grind (arith, ints, f.sfits)

pub forever-greatest : (t : Tag) → SFits w64 t.seconds → Fits w64 t.microstep → T (is_proper t) → T (t ≤ₜ forever)
unfolding ◌≤ₜ◌ proper_time
forever-greatest t f m p = grind (arith, ints, f.sfits, m.fits)

-- the constants are proper, computed
pub constants-proper : (is_proper never ≡ true) × ((is_proper zero ≡ true) × (is_proper forever ≡ true))
unfolding proper_time
constants-proper = (refl, (refl, refl))
