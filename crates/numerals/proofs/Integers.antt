-- Laws of `integer_of` and its two signs: what the code's bits are, and that what is read fits its width. Assumes nothing.
use Rattle.std.specs.Prelude.{None, Some, Option}
use mathlib.Core.Path.{◌≡◌, refl, sym, ap}
use mathlib.Core.List.{List, [], ◌∷◌}
use Prim.Native.Nat.{ℕ, zero, suc, ◌-◌, ◌^◌, ◌<◌, ◌≤◌}
use native.Mathlib.Omega.{arith}
use lib.Dec.{eqb}
use lib.IntN.{ℤ, pos, negsuc}
use lib.ListN.{length, drop, get_or}
use lib.Pow.{pow_pos}
use borrow.Author.Tests.{eq-eqb, ne_eqb}
use mir.Syntax.{Width, w64}
use mir.Val.{SFits, hbits, to_z}
use mir.Facts.{to_z-neg}
use Rattle.numerals.specs.Numerals.{number_of, negated, unsigned, integer_of, minus}
use Rattle.numerals.proofs.Splits.{by-test}
use Rattle.numerals.proofs.Numbers.{number-le}

-- the bits of a negative number are those of one less, turned over
pub neg_is : (k : ℕ) → (k ≡ 0 → ⊥) → k ≤ 2 ^ 63 → Some (to_z w64 (2 ^ 64 - 1 - (k - 1))) ≡ negated (Some k)
neg_is zero ne h = absurd (ne refl)
neg_is (suc j) ne h =
    let e : 2 ^ 64 - 1 - (suc j - 1) ≡ 2 ^ 64 - suc j = omega arith in
    rw e (ap Some (to_z-neg w64 j (omega arith)))

-- ---- integer_of by its first byte

pub integer-none : (half : ℕ) (t : List ℕ) → length t ≡ 0 → None ≡ integer_of half t
unfolding integer_of
integer-none half [] h = refl
integer-none half (b ∷ bs) h = absurd (omega arith)

pub integer-minus : (half : ℕ) (t : List ℕ) → 0 < length t → get_or t 0 0 ≡ 45 → negated (number_of half (drop 1 t)) ≡ integer_of half t
unfolding integer_of
integer-minus half [] h e = absurd (omega arith)
integer-minus half (b ∷ bs) h e = rw (eq-eqb b minus e)

pub integer-plain : (half : ℕ) (t : List ℕ) → 0 < length t → (get_or t 0 0 ≡ 45 → ⊥) → unsigned (number_of (half - 1) t) ≡ integer_of half t
unfolding integer_of
integer-plain half [] h e = absurd (omega arith)
integer-plain half (b ∷ bs) h e = rw (ne_eqb b minus e)

-- ---- what is read fits its width

neg-fits : (w : Width) (n : Option ℕ) (z : ℤ) → ((k : ℕ) → n ≡ Some k → k ≤ 2 ^ hbits w) → negated n ≡ Some z → SFits w z
neg-fits w None z b h = let e : ◌≡◌ {A = ℕ} 0 1 = cc in absurd (omega arith)
neg-fits w (Some zero) z b h = let e : ◌≡◌ {A = ℕ} 0 1 = cc in absurd (omega arith)
neg-fits w (Some (suc k)) z b h = let e : negsuc k ≡ z = cc in rw (sym e) (record { sfits = b (suc k) refl })

pos-fits : (w : Width) (n : Option ℕ) (z : ℤ) → ((k : ℕ) → n ≡ Some k → k < 2 ^ hbits w) → unsigned n ≡ Some z → SFits w z
pos-fits w None z b h = let e : ◌≡◌ {A = ℕ} 0 1 = cc in absurd (omega arith)
pos-fits w (Some k) z b h = let e : pos k ≡ z = cc in rw (sym e) (record { sfits = b k refl })

pub integer-fits : (w : Width) (t : List ℕ) (z : ℤ) → integer_of (2 ^ hbits w) t ≡ Some z → SFits w z
unfolding integer_of
integer-fits w [] z h = let e : ◌≡◌ {A = ℕ} 0 1 = cc in absurd (omega arith)
integer-fits w (b ∷ bs) z h =
    let half = 2 ^ hbits w in
    by-test (eqb b minus)
    (λ e. neg-fits w (number_of half bs) z (λ k q. number-le half bs k q) (rw e at h))
    (λ e. pos-fits w (number_of (half - 1) (b ∷ bs)) z (λ k q. omega (arith, number-le (half - 1) (b ∷ bs) k q, pow_pos (hbits w))) (rw e at h))
