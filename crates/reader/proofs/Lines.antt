-- Laws of the lines of a script: how long the line from a place on is, that it ends within the script, and that it is a part of it. Assumes nothing.
use mathlib.Core.Path.{◌≡◌, refl, ap, ◌∙◌}
use mathlib.Core.Bool.{Bool, true, false, cond}
use mathlib.Core.List.{List, [], ◌∷◌}
use Prim.Native.Nat.{ℕ, suc, ◌+◌, ◌-◌, ◌<◌, ◌≤◌, zero-le, suc-le-suc}
use native.Mathlib.Omega.{arith}
use borrow.Author.Tests.{lt-ltb, le-ltb}
use lib.Dec.{eqb}
use lib.ListN.{length, take, drop, length-drop, drop_of_length-le}
use Rattle.numerals.specs.Told.{until}
use Rattle.numerals.proofs.Splits.{part-rest}
use Rattle.reader.specs.Lines.{line_length, end_of, line_at, next_at}

-- a line is as long as what stands before the first LF
line-until : (bytes : List ℕ) → until 10 bytes ≡ line_length bytes
line-until [] = refl
line-until (b ∷ bs) = ap (λ n. cond (eqb b 10) 0 (suc n)) (line-until bs)

pub end-found : (script : List ℕ) (at n : ℕ) → n ≡ until 10 (take (length script - at) (drop at script)) → at + n ≡ end_of script at
end-found script at n h = ap (λ k. at + k) (h ∙ ap (until 10) (part-rest at script) ∙ line-until (drop at script))

pub end-beyond : (script : List ℕ) (at : ℕ) → length script ≤ at → at ≡ end_of script at
end-beyond script at h = omega (arith, ap line_length (drop_of_length-le script {i = at} h))

line_length-le : (bytes : List ℕ) → line_length bytes ≤ length bytes
line_length-le [] = zero-le
line_length-le (b ∷ bs) = by (eqb b 10) (line_length-le bs)
  where
    by : (t : Bool) → line_length bs ≤ length bs → cond t 0 (suc (line_length bs)) ≤ suc (length bs)
    by true h = zero-le
    by false h = suc-le-suc h

-- a line that starts within the script ends within it
pub end-within : (script : List ℕ) (at : ℕ) → at ≤ length script → end_of script at ≤ length script
end-within script at h = omega (arith, line_length-le (drop at script), length-drop at script)

-- past the script the line is empty
pub line-beyond : (script : List ℕ) (at : ℕ) → length script ≤ at → [] ≡ line_at script at
line-beyond script at h = rw (drop_of_length-le script {i = at} h) refl

-- the place after a line that has its LF, and after one that has not
pub next-ended : (script : List ℕ) (at end : ℕ) → end ≡ end_of script at → end < length script → end + 1 ≡ next_at script at
next-ended script at end e h = rw (lt-ltb (end_of script at) (length script) (omega arith), e) refl

pub next-unended : (script : List ℕ) (at end : ℕ) → end ≡ end_of script at → length script ≤ end → end ≡ next_at script at
next-unended script at end e h = rw (le-ltb (end_of script at) (length script) (omega arith), e) refl
