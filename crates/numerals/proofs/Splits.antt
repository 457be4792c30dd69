-- A text split at every byte c is what stands before the first one, and the split of what stands after it. Assumes nothing.
use mathlib.Core.Path.{◌≡◌, refl}
use mathlib.Core.Bool.{Bool, true, false}
use mathlib.Core.List.{List, [], ◌∷◌}
use Prim.Native.Nat.{ℕ, suc, ◌+◌, ◌-◌, ◌<◌, ◌≤◌}
use native.Mathlib.Omega.{arith}
use native.Mathlib.Numerals.{add-one}
use native.Mathlib.Nat.{lt_of_not-le}
use native.Mathlib.Decide.{dec_le}
use lib.Dec.{eqb}
use lib.ListN.{length, take, drop, length-drop}
use lib.Seq.{take_all}
use Rattle.numerals.specs.Numerals.{split}
use Rattle.numerals.specs.Told.{until}

-- by cases on a test, and on an order
pub by-test {ℓ} : {X : Type ℓ} (b : Bool) → (b ≡ true → X) → (b ≡ false → X) → X
by-test true f g = f refl
by-test false f g = g refl

pub by_order {ℓ} : {X : Type ℓ} (a b : ℕ) → (a ≤ b → X) → (b < a → X) → X
by_order a b f g = elim (dec_le a b) [ yes h ↦ f h | no h ↦ g (lt_of_not-le h) ]

-- what `&t[k..]` is the list of
pub part-rest : (k : ℕ) (t : List ℕ) → take (length t - k) (drop k t) ≡ drop k t
part-rest k t = take_all (length t - k) (drop k t) (rw length-drop (omega arith))

-- ---- split at the first c

pub split-none : (c : ℕ) (l : List ℕ) → length l ≤ until c l → split c l ≡ l ∷ []
split-none c [] h = refl
split-none c (x ∷ xs) h = by-test (eqb x c) (λ e. absurd (omega (arith, rw e at h))) (λ e. let k = rw e at h in rw (e, split-none c xs (omega arith)))

pub split-first : (c : ℕ) (l : List ℕ) → until c l < length l → split c l ≡ take (until c l) l ∷ split c (drop (until c l + 1) l)
split-first c [] h = absurd (omega arith)
split-first c (x ∷ xs) h =
    by-test (eqb x c)
    (λ e. rw e)
    (λ e. let k = rw e at h in rw (e, split-first c xs (omega arith), add-one (until c xs), add-one (suc (until c xs))))

-- the same at the place that was found
module _ (c : ℕ) (l : List ℕ) (a : ℕ) (found : a ≡ until c l) where
  pub split-whole : length l ≤ a → split c l ≡ l ∷ []
  split-whole h = split-none c l (omega arith)

  pub split_at : a < length l → split c l ≡ take a l ∷ split c (drop (a + 1) l)
  split_at h = rw found (split-first c l (omega arith))

-- a split has a first part
pub split-some : (P : List (List ℕ) → Type 0) (c : ℕ) (l : List ℕ) → ((p : List ℕ) (ps : List (List ℕ)) → P (p ∷ ps)) → P (split c l)
split-some P c l f = by_order (length l) (until c l) (λ h. rw (split-none c l h) (f l [])) (λ h. rw (split-first c l h) (f _ _))
