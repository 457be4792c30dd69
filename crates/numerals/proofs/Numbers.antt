-- Laws of `digits_of` and `number_of`. Assumes nothing.
use Rattle.std.specs.Prelude.{None, Some}
use mathlib.Core.Path.{◌≡◌, refl}
use mathlib.Core.Bool.{Bool, true, false, cond, ◌&&◌}
use mathlib.Core.List.{List, [], ◌∷◌}
use Prim.Native.Nat.{ℕ, suc, ◌+◌, ◌-◌, ◌*◌, ◌<◌, ◌≤◌}
use native.Mathlib.Omega.{arith}
use lib.Dec.{leb}
use lib.ListN.{length, drop, get_or}
use lib.Seq.{drop-cons}
use borrow.Author.Tests.{lt-leb, leb-true, eq-eqb, ne_eqb}
use Rattle.numerals.specs.Numerals.{is_digit, value_from, is_numeral, number_of}
use Rattle.numerals.specs.Told.{digits_of}
use Rattle.numerals.proofs.Splits.{by-test}

value_grows : (n : ℕ) (ds : List ℕ) → n ≤ value_from n ds
value_grows n [] = omega arith
value_grows n (d ∷ ds) = omega (arith, value_grows (n * 10 + (d - 48)) ds)

and-false : (b : Bool) → (b && false) ≡ false
and-false true = refl
and-false false = refl

-- digits that already spell more than may be read
pub digits-over : (m n : ℕ) (t : List ℕ) (i : ℕ) → i < length t → 48 ≤ get_or t i 0 → get_or t i 0 ≤ 57 → m < n * 10 + (get_or t i 0 - 48)
    → None ≡ digits_of m n (drop i t)
digits-over m n t i h l g o =
    let v = n * 10 + (get_or t i 0 - 48) in
    rw (drop-cons t i 0, lt-leb (value_from v (drop (suc i) t)) m (omega (arith, value_grows v (drop (suc i) t))), and-false)

-- ---- number_of: no digit, a zero in front, and all else

pub number-none : (m : ℕ) (t : List ℕ) → length t ≡ 0 → None ≡ number_of m t
unfolding number_of
number-none m [] h = refl
number-none m (d ∷ ds) h = absurd (omega arith)

pub number-zero : (m : ℕ) (t : List ℕ) → 1 < length t → get_or t 0 0 ≡ 48 → None ≡ number_of m t
unfolding number_of
number-zero m [] h e = absurd (omega arith)
number-zero m (d ∷ []) h e = absurd (omega arith)
number-zero m (d ∷ f ∷ ds) h e = rw (eq-eqb d 48 e)

pub number-one : (m : ℕ) (t : List ℕ) → length t ≡ 1 → digits_of m 0 t ≡ number_of m t
unfolding number_of
number-one m [] h = absurd (omega arith)
number-one m (d ∷ []) h = by-test (is_digit d) (λ e. rw e) (λ e. rw e)
number-one m (d ∷ f ∷ ds) h = absurd (omega arith)

pub number_more : (m : ℕ) (t : List ℕ) → 1 < length t → (get_or t 0 0 ≡ 48 → ⊥) → digits_of m 0 t ≡ number_of m t
unfolding number_of
number_more m [] h e = absurd (omega arith)
number_more m (d ∷ []) h e = absurd (omega arith)
number_more m (d ∷ f ∷ ds) h e = rw (ne_eqb d 48 e)

-- ---- the bound of what is read

cond-some : (b l : Bool) (v n : ℕ) → cond (b && l) (Some v) None ≡ Some n → (l ≡ true) × (v ≡ n)
cond-some true true v n h = (refl, cc)
cond-some true false v n h = let z : ◌≡◌ {A = ℕ} 0 1 = cc in absurd (omega arith)
cond-some false l v n h = let z : ◌≡◌ {A = ℕ} 0 1 = cc in absurd (omega arith)

pub number-le : (m : ℕ) (t : List ℕ) (n : ℕ) → number_of m t ≡ Some n → n ≤ m
unfolding number_of
number-le m t n h =
    let p = cond-some (is_numeral t) (leb (value_from 0 t) m) (value_from 0 t) n h in
    omega (arith, leb-true (value_from 0 t) m p.0, p.1)
