-- The enclaves of an `input` line, read one after the other: a turn of the loop, each way out of it, and the array that holds them. Assumes nothing.
use Rattle.std.specs.Prelude.{None, Option, Some}
use mathlib.Core.Path.{◌≡◌, refl, sym, ap, ◌∙◌}
use mathlib.Core.Bool.{Bool, true, false, cond}
use mathlib.Core.List.{List, [], ◌∷◌, ◌++◌, append_assoc, append-nil}
use Prim.Native.Nat.{ℕ, zero, suc, ◌+◌, ◌<◌, ◌≤◌}
use native.Mathlib.Omega.{arith}
use lib.Dec.{eqb}
use lib.ListN.{length, take, get_or, get_or-eq_default}
use lib.Seq.{ext_get_or, get_or-take, length-take-le}
use borrow.Author.Tests.{eq-eqb, ne_eqb}
use Rattle.numerals.specs.Numerals.{given}
use Rattle.numerals.proofs.Splits.{by_order}
use Rattle.rules.specs.Model.{Call, input}
use Rattle.eventlines.specs.declared.Named.{Named}
use Rattle.events.specs.Events.{word_of, words, listed}
use Rattle.events.specs.Told.{padded}
use Rattle.eventlines.specs.Named.{named_of}

-- what n enclaves are, where k of them are read, and these fields are left
unfoldable pub listed_from : List ℕ → ℕ → ℕ → List (List ℕ) → Option Call
listed_from read k n fs = cond (eqb n (k + length fs)) (given (words fs) (λ es. input (read ++ es))) None

cond_same : {X : Type 0} (b : Bool) (x : X) → cond b x x ≡ x
cond_same true x = refl
cond_same false x = refl

given-more : (read : List ℕ) (e : ℕ) (o : Option (List ℕ))
    → given o (λ es. input ((read ++ (e ∷ [])) ++ es)) ≡ given (given o (λ es. e ∷ es)) (λ es. input (read ++ es))
given-more read e None = refl
given-more read e (Some es) = ap (λ (l : List ℕ). Some (input l)) (append_assoc read (e ∷ []) es)

pub listed_start : (n : ℕ) (fs : List (List ℕ)) → listed_from [] 0 n fs ≡ listed (Some n) fs
unfolding listed_from
listed_start n fs = let m : 0 + length fs ≡ length fs = omega arith in rw m

module _ (read : List ℕ) (k n : ℕ) where
  pub listed_more : (f : List ℕ) (fs : List (List ℕ)) (e : ℕ) → word_of f ≡ Some e → listed_from (read ++ (e ∷ [])) (k + 1) n fs ≡ listed_from read k n (f ∷ fs)
  unfolding listed_from
  listed_more f fs e h =
      let m : k + 1 + length fs ≡ k + length (f ∷ fs) = omega arith in
      rw (h, m, given-more read e (words fs))

  pub listed-bad : (f : List ℕ) (fs : List (List ℕ)) → word_of f ≡ None → listed_from read k n (f ∷ fs) ≡ None
  unfolding listed_from
  listed-bad f fs h = rw h (cond_same (eqb n (k + length (f ∷ fs))) None)

  pub listed-over : (f : List ℕ) (fs : List (List ℕ)) → n ≤ k → listed_from read k n (f ∷ fs) ≡ None
  unfolding listed_from
  listed-over f fs h = rw (ne_eqb n (k + length (f ∷ fs)) (λ e. omega arith))

  pub listed-short : k < n → listed_from read k n [] ≡ None
  unfolding listed_from
  listed-short h = rw (ne_eqb n (k + 0) (λ e. omega arith))

  pub listed-all : k ≡ n → listed_from read k n [] ≡ Some (input read)
  unfolding listed_from
  listed-all h = rw (eq-eqb n (k + 0) (omega arith), append-nil read)

-- ---- the array

pub padded-zero : (n i : ℕ) → get_or (padded n []) i 0 ≡ 0
padded-zero zero i = refl
padded-zero (suc n) zero = refl
padded-zero (suc n) (suc i) = padded-zero n i

pub length-padded : (n : ℕ) (es : List ℕ) → length (padded n es) ≡ n
length-padded zero es = refl
length-padded (suc n) [] = ap suc (length-padded n [])
length-padded (suc n) (e ∷ es) = ap suc (length-padded n es)

padded-at : (n : ℕ) (es : List ℕ) (i : ℕ) → i < n → get_or (padded n es) i 0 ≡ get_or es i 0
padded-at zero es i h = absurd (omega arith)
padded-at (suc n) [] zero h = refl
padded-at (suc n) (e ∷ es) zero h = refl
padded-at (suc n) [] (suc i) h = padded-at n [] i (omega arith)
padded-at (suc n) (e ∷ es) (suc i) h = padded-at n es i (omega arith)

pub take-padded : (n : ℕ) (es : List ℕ) → length es ≤ n → take (length es) (padded n es) ≡ es
take-padded n [] h = refl
take-padded zero (e ∷ es) h = absurd (omega arith)
take-padded (suc n) (e ∷ es) h = ap (λ (l : List ℕ). e ∷ l) (take-padded n es (omega arith))

module _ (l : List ℕ) (k : ℕ) (long : length l ≡ 32) (fits : k ≤ 32) (zeros : (i : ℕ) → k ≤ i → get_or l i 0 ≡ 0) where
  array-is : l ≡ padded 32 (take k l)
  array-is =
      ext_get_or 0 l (padded 32 (take k l)) (long ∙ sym (length-padded 32 (take k l)))
      (λ i h. sym (padded-at 32 (take k l) i (omega arith) ∙ taken i))
    where
      taken : (i : ℕ) → get_or (take k l) i 0 ≡ get_or l i 0
      taken i =
          by_order k i
          (λ h. get_or-eq_default (take k l) 0 {n = i} (omega (arith, length-take-le k l (omega arith))) ∙ sym (zeros i h))
          (λ h. get_or-take k l i 0 h)

  pub named-is : ◌≡◌ {A = Option Named} (Some (record { count = k; enclaves = l })) (named_of (Some (input (take k l))))
  named-is =
      ap (λ (j : ℕ). Some (record { count = j; enclaves = l })) (sym (length-take-le k l (omega arith)))
      ∙ ap (λ (m : List ℕ). Some (record { count = length (take k l); enclaves = m })) array-is
