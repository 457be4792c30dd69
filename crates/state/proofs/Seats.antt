-- What the rules ask of one enclave among all participants is asked of the one at its place, and is no of an enclave that is unknown. By walks over the
-- places, of which all others differ. Assumes nothing.
use mathlib.Core.Path.{◌≡◌, refl, ap, ◌∙◌}
use mathlib.Core.Bool.{Bool, true, false, ◌&&◌, ◌||◌}
use mathlib.Core.List.{List, [], ◌∷◌}
use Prim.Native.Nat.{ℕ, zero, suc, ◌+◌, ◌≤◌, ◌<◌}
use native.Mathlib.Omega.{arith}
use borrow.Author.Tests.{eqb-true, eqb-false}
use lib.Dec.{eqb}
use lib.ListN.{get_or}
use Rattle.rules.specs.Model.{Participant}
use Rattle.rules.specs.Walk.{any, knows}
use Rattle.state.specs.declared.FederateCoordinationState.{FederateCoordinationState as Held}
use Rattle.state.specs.Walk.{any_of}
use Rattle.state.specs.View.{row_at, rows_of}
use Rattle.state.specs.Parts.{Seated}
use Rattle.state.proofs.Rows.{any-rows}

or_no : (b : Bool) → (b || false) ≡ b
or_no true = refl
or_no false = refl

-- no at each of the places, or at each but one
none_of : (q : ℕ → Bool) (k n : ℕ) → ((j : ℕ) → k ≤ j → j < k + n → q j ≡ false) → any_of q k n ≡ false
unfolding any_of
none_of q k zero h = refl
none_of q k (suc n) h = rw (h k (omega arith) (omega arith)) (none_of q (k + 1) n (λ j a b. h j (omega arith) (omega arith)))

one_of : (q : ℕ → Bool) (k n i : ℕ) → k ≤ i → i < k + n → ((j : ℕ) → k ≤ j → j < k + n → (j ≡ i → ⊥) → q j ≡ false) → any_of q k n ≡ q i
unfolding any_of
one_of q k zero i a b h = absurd (omega arith)
one_of q k (suc n) i a b h =
    go (λ l. one_of q (k + 1) n i l (omega arith) (λ j x y. h j (omega arith) (omega arith))) (eqb k i) refl
  where
    go : (k + 1 ≤ i → any_of q (k + 1) n ≡ q i) → (x : Bool) → eqb k i ≡ x → (q k || any_of q (k + 1) n) ≡ q i
    go ih true e =
        let m = eqb-true k i e in
        rw (none_of q (k + 1) n (λ j x y. h j (omega arith) (omega arith) (λ z. omega arith))) (or_no (q k) ∙ ap q m)
    go ih false e = let m = eqb-false k i e in rw (h k (omega arith) (omega arith) m) (ih (omega arith))

pub any-seated : (s : Held) (e i : ℕ) → Seated s e i → (q : Participant → Bool) → any (λ p. eqb p.index e && q p) (rows_of s) ≡ q (row_at s i)
any-seated s e i d q =
    any-rows s (λ p. eqb p.index e && q p) ∙
    one_of (λ j. eqb (get_or s.enclaves j 0) e && q (row_at s j)) 0 s.count i (omega arith) (let l = d.within in omega arith)
    (λ j a b n. ap (λ x. x && q (row_at s j)) (d.others j (omega arith) n)) ∙
    ap (λ x. x && q (row_at s i)) d.here

pub any-unknown : (e : ℕ) (q : Participant → Bool) (ps : List Participant) → knows e ps ≡ false → any (λ p. eqb p.index e && q p) ps ≡ false
any-unknown e q [] h = refl
any-unknown e q (p ∷ ps) h = go (eqb p.index e) h (any-unknown e q ps)
  where
    go : (b : Bool) → (b || knows e ps) ≡ false → (knows e ps ≡ false → any (λ p. eqb p.index e && q p) ps ≡ false)
        → ((b && q p) || any (λ p. eqb p.index e && q p) ps) ≡ false
    go true k ih = let z : ◌≡◌ {A = ℕ} 0 1 = cc in absurd (omega arith)
    go false k ih = ih k
