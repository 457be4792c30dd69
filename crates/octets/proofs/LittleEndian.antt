-- One law for every width: k bytes hold every number below 256 ^ k, and every k bytes are some number's. Assumes nothing.
use mathlib.Core.Path.{◌≡◌, refl, ap, sym, ◌∙◌}
use mathlib.Core.List.{List, [], ◌∷◌}
use Prim.Native.Nat.{ℕ, zero, suc, ◌+◌, ◌*◌, ◌-◌, ◌/◌, ◌%◌, ◌^◌, ◌≤◌, ◌<◌}
use native.Mathlib.Omega.{arith}
use native.Mathlib.Nat.{pow-zero, pow-succ', pow-le-pow_right}
use lib.Dec.{lit<}
use lib.ListN.{length, take, get_or}
use native.Mathlib.Nat.{div-one, div-div-eq-div-mul, mul_comm}
use mir.Syntax.{w64}
use Rattle.std.specs.Int.{bytes_low_first, to_le_bytes}
use Rattle.octets.specs.LittleEndian.{AreBytes, le, unle, num_at}

pub length-le : (k n : ℕ) → length (le k n) ≡ k
length-le zero n = refl
length-le (suc k) n = ap suc (length-le k (n / 256))

pub unle-le : (k n : ℕ) → n < 256 ^ k → unle (le k n) ≡ n
unle-le zero n h = let p : n < 1 = rw (pow-zero 256) at h in omega arith
unle-le (suc k) n h =
    let p : n < 256 * 256 ^ k = rw (pow-succ' 256 k) at h in
    rw (unle-le k (n / 256) (omega arith)) (omega arith)

pub le-unle : (bs : List ℕ) → AreBytes bs → le (length bs) (unle bs) ≡ bs
le-unle [] h = refl
le-unle (b ∷ bs) h =
    let e : (b + 256 * unle bs) % 256 ≡ b = omega (arith, h 0) in
    let f : (b + 256 * unle bs) / 256 ≡ unle bs = omega (arith, h 0) in
    rw (e, f, le-unle bs (λ i. h (suc i)))

-- bytes spell a number that they hold
pub num-below : (k : ℕ) (s : List ℕ) (at : ℕ) → AreBytes s → num_at k s at < 256 ^ k
num-below zero s at h = rw (pow-zero 256) (omega arith)
num-below (suc k) s at h = rw (pow-succ' 256 k) (omega (arith, h at, num-below k s (suc at) h))

-- one byte more in front, as the code reads them from the last one on: n stands in what came before it
pub num_front : (m k at n b : ℕ) (s : List ℕ) → 0 < k → k ≤ m → b ≡ get_or s (at + (k - 1)) 0 → b < 256 → n ≡ num_at (m - k) s (at + k) → n < 256 ^ (m - k)
    → (n * 256 + b ≡ num_at (m - (k - 1)) s (at + (k - 1))) × (n * 256 + b < 256 ^ (m - (k - 1)))
num_front m zero at n b s p h e l v w = absurd (omega arith)
num_front m (suc k) at n b s p h e l v w =
    let back : suc k - 1 ≡ k = omega arith in
    let j : m - k ≡ suc (m - suc k) = omega arith in
    let i : at + suc k ≡ suc (at + k) = omega arith in
    let here : b ≡ get_or s (at + k) 0 = e ∙ ap (λ (x : ℕ). get_or s (at + x) 0) back in
    let more : n ≡ num_at (m - suc k) s (suc (at + k)) = v ∙ ap (num_at (m - suc k) s) i in
    rw (back, j, pow-succ' 256 (m - suc k)) (omega arith, omega arith)

pub pow_8 : (k : ℕ) → k ≤ 8 → 256 ^ k ≤ 2 ^ 64
pow_8 k h = pow-le-pow_right {n = 256} (lit< tt) h

-- std's bytes of a number are those, and so are as many of them as are asked for
low_first : (i k n : ℕ) → bytes_low_first i k n ≡ le k (n / 256 ^ i)
low_first i zero n = refl
low_first zero (suc k) n = rw (pow-zero 256, div-one n, low_first (suc zero) k n)
low_first (suc i) (suc k) n = let e : n / 256 ^ suc i / 256 ≡ n / 256 ^ suc (suc i) = div-div-eq-div-mul n (256 ^ suc i) 256 ∙ ap (λ m. n / m) (mul_comm (256 ^ suc i) 256 ∙ sym (pow-succ' 256 (suc i))) in ap (λ l. n / 256 ^ suc i % 256 ∷ l) (low_first (suc (suc i)) k n ∙ ap (le k) (sym e))

take-le : (j k n : ℕ) → j ≤ k → take j (le k n) ≡ le j n
take-le zero k n h = refl
take-le (suc j) zero n h = absurd (omega arith)
take-le (suc j) (suc k) n h = ap (λ l. n % 256 ∷ l) (take-le j k (n / 256) (omega arith))

pub take_bytes : (k n : ℕ) → k ≤ 8 → take k (to_le_bytes w64 n) ≡ le k n
take_bytes k n h = rw (low_first 0 8 n, pow-zero 256, div-one n) (take-le k 8 n h)
