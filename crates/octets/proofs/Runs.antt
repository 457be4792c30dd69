-- Laws of runs of bytes: what a room holds after one is put into it, and that two are found the same exactly when they are equal. Assumes nothing.
use mathlib.Core.Path.{◌≡◌, refl, sym, ap, ◌∙◌}
use mathlib.Core.Bool.{Bool, true, false, ◌&&◌}
use mathlib.Core.List.{List, [], ◌∷◌, ◌++◌, append_assoc, append-nil}
use Prim.Native.Nat.{ℕ, ◌+◌, ◌≤◌, ◌<◌}
use native.Mathlib.Omega.{arith}
use lib.Dec.{eqb}
use lib.ListN.{length, take, drop, length-append, drop_of_length-le}
use lib.Seq.{paste, paste-zero, take_all, length-paste, length-take-le, take_at, drop_at, drop-drop}
use borrow.Rule.Slice.PartMut.{put_mid}
use Rattle.std.proofs.lemmas.Slice.{put_mid-paste}
use borrow.Author.Tests.{le-leb, lt-leb, eq-eqb, eqb-true}
use Rattle.octets.specs.Runs.{put_at, fits_at, written, same_bytes}

-- a copy of all of the run is `lib.Seq`'s `paste` at its length
pub put-paste : (l : List ℕ) (at : ℕ) (s : List ℕ) → put_at l at s ≡ paste l at s (length s)
unfolding put_at
put-paste l at s = ap (λ (t : List ℕ). take at l ++ t ++ drop (at + length s) l) (sym (take_all (length s) s (omega arith)))

-- what a copy into a part of the room leaves is the room with the run there
pub copied : (room run part : List ℕ) (at k : ℕ) → part ≡ run → length run ≡ k → put_mid at k room part ≡ put_at room at run
copied room run part at k e n = put_mid-paste at k room part run (length run) e n refl ∙ sym (put-paste room at run)

pub length-put : (l : List ℕ) (at : ℕ) (s : List ℕ) → at + length s ≤ length l → length (put_at l at s) ≡ length l
length-put l at s h = ap length (put-paste l at s) ∙ length-paste l at s (length s) h (omega arith)

-- two runs, the second right after the first, are one
pub put-append : (l : List ℕ) (at : ℕ) (s t : List ℕ) (n : ℕ) → at + length s ≡ n → n + length t ≤ length l
    → put_at (put_at l at s) n t ≡ put_at l at (s ++ t)
unfolding put_at
put-append l at s t n e h =
    let x = take at l ++ s in
    let k : length x ≡ n = length-append (take at l) s ∙ rw (length-take-le at l (omega arith)) e in
    let d : drop (n + length t) (x ++ drop n l) ≡ drop (n + length t) l =
    sym (drop-drop (length t) n (x ++ drop n l)) ∙ rw (drop_at x (drop n l) n k) (drop-drop (length t) n l) in
    let m : at + length (s ++ t) ≡ n + length t = rw length-append (omega arith) in
    rw (e, take_at x (drop n l) n k, d, m, append_assoc (take at l) s t)

-- the bytes before the run, and those after it
pub put-below : (l : List ℕ) (at : ℕ) (s : List ℕ) → at ≤ length l → take at (put_at l at s) ≡ take at l
unfolding put_at
put-below l at s h = simp append_assoc (take_at (take at l) _ at (length-take-le at l h))

pub put-above : (l : List ℕ) (at : ℕ) (s : List ℕ) → at ≤ length l → drop (at + length s) (put_at l at s) ≡ drop (at + length s) l
unfolding put_at
put-above l at s h =
    drop_at (take at l ++ s) _ (at + length s) (length-append (take at l) s ∙ rw (length-take-le at l h))

pub put-nil : (l : List ℕ) (at : ℕ) → put_at l at [] ≡ l
put-nil l at = put-paste l at [] ∙ sym (paste-zero l at [])

-- a run as long as the room is all that the room then holds
pub put_whole : (l s : List ℕ) → length s ≡ length l → put_at l 0 s ≡ s
unfolding put_at
put_whole l s e =
    let past : length l ≤ 0 + length s = omega arith in
    ap (λ (t : List ℕ). s ++ t) (drop_of_length-le l past) ∙ append-nil s

-- what is written where the run fits, and where it does not
pub written-fits : (l : List ℕ) (at : ℕ) (s : List ℕ) → at + length s ≤ length l → written l at s ≡ put_at l at s
written-fits l at s h = rw (le-leb (at + length s) (length l) h)

pub written-not : (l : List ℕ) (at : ℕ) (s : List ℕ) → length l < at + length s → (false ≡ fits_at l at s) × (l ≡ written l at s)
written-not l at s h = (sym (lt-leb (at + length s) (length l) h), rw (lt-leb (at + length s) (length l) h))

pub same_refl : (s : List ℕ) → same_bytes s s ≡ true
same_refl [] = refl
same_refl (x ∷ xs) = rw (eq-eqb x x refl) (same_refl xs)

both : (b c : Bool) → (b && c) ≡ true → (b ≡ true) × (c ≡ true)
both true c h = (refl, h)
both false c h = let z : ◌≡◌ {A = ℕ} 0 1 = cc in absurd (omega arith)

pub same-equal : (s t : List ℕ) → same_bytes s t ≡ true → s ≡ t
same-equal [] [] h = refl
same-equal [] (y ∷ ys) h = let z : ◌≡◌ {A = ℕ} 0 1 = cc in absurd (omega arith)
same-equal (x ∷ xs) [] h = let z : ◌≡◌ {A = ℕ} 0 1 = cc in absurd (omega arith)
same-equal (x ∷ xs) (y ∷ ys) h =
    let p = both (eqb x y) (same_bytes xs ys) h in
    rw (eqb-true x y p.0, same-equal xs ys p.1)

-- runs of different lengths
pub same-lengths : (s t : List ℕ) → (length s ≡ length t → ⊥) → same_bytes s t ≡ false
same-lengths s t h = not-true (same_bytes s t) (λ e. h (ap length (same-equal s t e)))
  where
    not-true : (b : Bool) → (b ≡ true → ⊥) → b ≡ false
    not-true true k = absurd (k refl)
    not-true false k = refl
