-- Flags cleared place by place: one turn of the loop over them, on plain values, and what is cleared where each call's answer is told. Assumes nothing.
use mathlib.Core.Path.{◌≡◌, refl, ap, ◌∙◌}
use mathlib.Core.Bool.{Bool, true, false, not, ◌&&◌}
use mathlib.Core.List.{List}
use Prim.Native.Nat.{ℕ, ◌+◌, ◌<◌}
use native.Mathlib.Omega.{arith}
use lib.Dec.{eqb}
use lib.ListN.{length, get_or, set, length-set}
use lib.Seq.{get_or-set_same, get_or-set_other}
use borrow.Author.Tests.{eqb-true, eqb-false}
use Rattle.state.specs.declared.FederateCoordinationState.{FederateCoordinationState as Held}
use Rattle.table.specs.Flags.{Without, Cleared}

-- the first i places are done, and place i is next
module _ (P : ℕ → Bool → Type 0) (s : Held) (i : ℕ) (qs : List Bool) (u : Cleared P s i qs) where
  one_more : (rs : List Bool) → length rs ≡ length qs → (b : Bool) → P i b → get_or rs i false ≡ (get_or s.published i false && not b)
      → ((j : ℕ) → (j ≡ i → ⊥) → get_or rs j false ≡ get_or qs j false) → Cleared P s (i + 1) rs
  one_more rs n b p here others = record {
    long = n ∙ u.long;
    within = λ j h. by_place j h (eqb j i) refl;
    beyond = λ j h. others j (λ e. omega arith) ∙ u.beyond j (omega arith);
  }
    where
      by_place : (j : ℕ) → j < i + 1 → (x : Bool) → eqb j i ≡ x → (b : Bool) × P j b × (get_or rs j false ≡ (get_or s.published j false && not b))
      by_place j h true e = rw (eqb-true j i e) (b, p, here)
      by_place j h false e = let d = eqb-false j i e in let w = u.within j (omega arith) in (w.0, w.1, others j d ∙ w.2)

  pub clear-turn : i < length s.published → P i true → Cleared P s (i + 1) (set qs i false)
  clear-turn h p =
      let l = u.long in
      one_more (set qs i false) (length-set qs i false) true p
      (get_or-set_same qs i false false (omega arith) ∙ never (get_or s.published i false))
      (λ j d. get_or-set_other qs i j false false d)
    where
      never : (b : Bool) → false ≡ (b && false)
      never true = refl
      never false = refl

  pub keep-turn : P i false → Cleared P s (i + 1) qs
  keep-turn p = one_more qs refl false p (u.beyond i (omega arith) ∙ always (get_or s.published i false)) (λ j d. refl)
    where
      always : (b : Bool) → b ≡ (b && true)
      always true = refl
      always false = refl

-- ---- by what each call answers

pub without_by : (f : ℕ → Bool) {P : ℕ → Bool → Type 0} (s : Held) (n : ℕ) (qs : List Bool) → Cleared P s n qs → ((j : ℕ) (b : Bool) → j < n → P j b → b ≡ f j) → Without f s n qs
without_by f s n qs u says = record {
  long = u.long;
  within = λ j h. let w = u.within j h in w.2 ∙ ap (λ b. get_or s.published j false && not b) (says j w.0 h w.1);
  beyond = u.beyond;
}
