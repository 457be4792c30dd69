-- A participant's cells put back where they stood: every column is again as it was. Assumes nothing.
use mathlib.Core.Path.{◌≡◌, refl, ◌∙◌}
use mathlib.Core.Bool.{Bool, true, false}
use mathlib.Core.List.{List}
use Prim.Native.Nat.{ℕ, ◌<◌}
use native.Mathlib.Omega.{arith}
use borrow.Author.Tests.{eqb-true, eqb-false}
use lib.Dec.{eqb}
use lib.ListN.{length, get_or, set, length-set}
use lib.Seq.{ext_get_or, get_or-set_same, get_or-set_other}

-- a cell put back: it is as it was, and so is every other
module _ {A : Type 0} (d : A) where
  back_at : (l r : List A) (i k : ℕ) → length r ≡ length l → i < length l → ((k ≡ i → ⊥) → get_or r k d ≡ get_or l k d) → get_or (set r i (get_or l i d)) k d ≡ get_or l k d
  back_at l r i k e h other = go (eqb k i) refl
    where
      go : (b : Bool) → eqb k i ≡ b → get_or (set r i (get_or l i d)) k d ≡ get_or l k d
      go true q = let z = eqb-true k i q in rw z (get_or-set_same r i (get_or l i d) d (omega arith))
      go false q = let n = eqb-false k i q in get_or-set_other r i k (get_or l i d) d n ∙ other n

  pub set_back : (l : List A) (i : ℕ) (a : A) → i < length l → set (set l i a) i (get_or l i d) ≡ l
  set_back l i a h =
      let p = length-set l i a in
      ext_get_or d (set (set l i a) i (get_or l i d)) l (length-set (set l i a) i (get_or l i d) ∙ p) (λ k x. back_at l (set l i a) i k p h (λ n. get_or-set_other l i k a d n))

  -- two cells put back
  pub set-back-two : (l : List A) (i j : ℕ) (a b : A) → i < length l → j < length l → set (set (set (set l i a) j b) i (get_or l i d)) j (get_or l j d) ≡ l
  set-back-two l i j a b h k =
      let p = length-set l i a in
      let q = length-set (set l i a) j b in
      let r = length-set (set (set l i a) j b) i (get_or l i d) in
      ext_get_or d (set (set (set (set l i a) j b) i (get_or l i d)) j (get_or l j d)) l (length-set (set (set (set l i a) j b) i (get_or l i d)) j (get_or l j d) ∙ r ∙ q ∙ p)
      (λ x y. back_at l (set (set (set l i a) j b) i (get_or l i d)) j x (r ∙ q ∙ p) k (λ n. back_at l (set (set l i a) j b) i x (q ∙ p) h (λ m. get_or-set_other (set l i a) j x b d n ∙ get_or-set_other l i x a d m)))
