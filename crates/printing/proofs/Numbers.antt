-- The digits of a number by its size, and the text of a signed number by its sign. Assumes nothing.
use mathlib.Core.Path.{◌≡◌, refl}
use mathlib.Core.Bool.{true, false}
use mathlib.Core.List.{[], ◌∷◌, ◌++◌}
use Prim.Native.Nat.{ℕ, zero, suc, ◌+◌, ◌-◌, ◌*◌, ◌/◌, ◌%◌, ◌^◌, ◌<◌, ◌≤◌}
use native.Mathlib.Omega.{arith}
use native.Mathlib.Nat.{pow-zero, pow-succ'}
use native.Mathlib.Numerals.{add-one, sub-one}
use lib.IntN.{ℤ, pos, negsuc}
use borrow.Author.Tests.{lt-ltb, le-ltb, ltb-true}
use Rattle.std.specs.Prelude.{int_lt, unsigned_abs}
use Rattle.numerals.specs.Numerals.{minus}
use Rattle.printing.specs.Printing.{digits_of, decimal, integer}

pub ten-times : (k : ℕ) → 0 < k → 10 ^ k ≡ 10 * 10 ^ (k - 1)
ten-times zero h = absurd (omega arith)
ten-times (suc k) h = rw (pow-succ' 10 k, sub-one)

-- a number of 10 or more takes two digits at least
pub two_digits : (k n : ℕ) → 10 ≤ n → n < 10 ^ k → 1 < k
two_digits zero n h l = absurd (omega (arith, rw (pow-zero 10) at l))
two_digits (suc zero) n h l = absurd (omega arith)
two_digits (suc (suc k)) n h l = omega arith

pub digits-small : (k n : ℕ) → 0 < k → n < 10 → digits_of k n ≡ (48 + n) ∷ []
digits-small zero n p h = absurd (omega arith)
digits-small (suc k) n p h = rw (lt-ltb n 10 h)

pub digits-large : (k n : ℕ) → 0 < k → 10 ≤ n → digits_of k n ≡ digits_of (k - 1) (n / 10) ++ (48 + n % 10) ∷ []
digits-large zero n p h = absurd (omega arith)
digits-large (suc k) n p h = rw (le-ltb n 10 h, sub-one)

-- the text of a signed number is that of its size, with a minus before a negative one
pub positive-text : (z : ℤ) → int_lt z (pos 0) ≡ false → integer z ≡ decimal (unsigned_abs z)
unfolding integer
positive-text (pos n) t = refl
positive-text (negsuc n) t = cc

pub negative-text : (z : ℤ) → int_lt z (pos 0) ≡ true → integer z ≡ minus ∷ decimal (unsigned_abs z)
unfolding integer
negative-text (pos n) t = let h : n < 0 = ltb-true n 0 t in absurd (omega arith)
negative-text (negsuc n) t = rw add-one
