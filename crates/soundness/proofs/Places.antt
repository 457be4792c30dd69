-- The walk over the places from the last: what one step of it tells of the places before. Assumes nothing.
use mathlib.Core.Path.{◌≡◌, refl, sym, ◌∙◌}
use mathlib.Core.Bool.{Bool, true, false, ◌&&◌, and-true, and-false, and_assoc}
use Prim.Native.Nat.{ℕ, zero, suc, ◌+◌, ◌-◌, ◌<◌, ◌≤◌}
use native.Mathlib.Nat.{add-zero, zero-add}
use native.Mathlib.Omega.{arith}
use lib.Dec.{ltb}
use lib.ListN.{get_or}
use borrow.Author.Tests.{lt-ltb, le-ltb}
use Rattle.state.specs.Walk.{all_of}
use Rattle.state.specs.declared.FederateCoordinationState.{FederateCoordinationState as Held}
use Rattle.soundness.specs.Sound.{ceiling, rises, sound_at}

-- the last place apart
all-last : (q : ℕ → Bool) (k n : ℕ) → all_of q k (suc n) ≡ (all_of q k n && q (k + n))
unfolding all_of
all-last q k zero = rw (add-zero, and-true) refl
all-last q k (suc n) =
    let e : k + 1 + n ≡ k + suc n = omega arith in
    rw (all-last q (k + 1) n, e) (sym (and_assoc (q k) (all_of q (k + 1) n) (q (k + suc n))))

-- no place is left
pub all_none : (q : ℕ → Bool) (i : ℕ) → i ≤ 0 → true ≡ all_of q 0 i
unfolding all_of
all_none q i h = let z : i ≡ 0 = omega arith in rw z refl

-- what is asked of the first i places: that the index rises, and the place's own
abbrev pub asked : Held → ℕ → Bool
asked s i = all_of (λ j. rises s j && sound_at s j) 0 i

pub ceiling-at : (s : Held) (i : ℕ) → i < s.count → get_or s.enclaves i 0 ≡ ceiling s i
ceiling-at s i k = rw (lt-ltb i s.count k) refl

-- the places from i on are passed: what is asked at the place before
module _ (s : Held) (i : ℕ) {above : ℕ} (more : 0 < i) (bound : above ≡ ceiling s i) where
  before : asked s i ≡ (asked s (i - 1) && (ltb (get_or s.enclaves (i - 1) 0) above && sound_at s (i - 1)))
  before = go (i - 1) (omega arith)
    where
      go : (m : ℕ) → i ≡ suc m → asked s i ≡ (asked s m && (ltb (get_or s.enclaves m 0) above && sound_at s m))
      go m e = let n : m + 1 ≡ i = omega arith in rw (e, all-last, zero-add, n, bound) refl

  pub index-fails : above ≤ get_or s.enclaves (i - 1) 0 → false ≡ asked s i
  index-fails h = sym (before ∙ simp (le-ltb (get_or s.enclaves (i - 1) 0) above h, and-false))

  pub place-fails : {r : Bool} → r ≡ sound_at s (i - 1) → r ≡ false → false ≡ asked s i
  place-fails e t = sym (before ∙ simp (sym e ∙ t, and-false))

  pub place-passes : get_or s.enclaves (i - 1) 0 < above → {r : Bool} → r ≡ sound_at s (i - 1) → r ≡ true → asked s i ≡ asked s (i - 1)
  place-passes h e t = before ∙ simp (lt-ltb (get_or s.enclaves (i - 1) 0) above h, sym e ∙ t, and-true)
