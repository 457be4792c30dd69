-- Runs that are put one right after the other are one run: what a sequence of writes leaves in the room. Assumes nothing.
use mathlib.Core.Path.{◌≡◌, sym, ◌∙◌}
use mathlib.Core.List.{List, [], ◌∷◌, ◌++◌}
use Prim.Native.Nat.{ℕ, suc, ◌+◌, ◌<◌, ◌≤◌}
use native.Mathlib.Omega.{arith}
use native.Mathlib.Numerals.{add-one}
use lib.ListN.{length, take, drop, set, length-append}
use lib.Seq.{set_split, append_snoc}
use Rattle.octets.specs.Runs.{put_at}
use Rattle.octets.proofs.Runs.{put-append, put-nil}
use Rattle.printing.specs.Runs.{Puts}

-- a run, and another one right after it
pub then-more : {l m k : List ℕ} {at i j : ℕ} {s t : List ℕ} {a b : ℕ} → Puts l at s a i m → Puts m i t b j k → j ≤ length l → Puts l at (s ++ t) (a + b) j k
then-more {l} {at = at} {i = i} {s = s} {t} p q h =
    let e : i ≡ at + length s = p.after in
    let d = q.after in
    let a-fits = p.within in
    let b-fits = q.within in
    record {
      after = rw (length-append s t) (omega arith);
      bytes = q.bytes ∙ rw p.bytes (put-append l at s t i (sym e) (omega arith));
      within = omega arith;
    }

-- a longer bound
pub at_most : {l m : List ℕ} {at n : ℕ} {s : List ℕ} {a b : ℕ} → Puts l at s a n m → a ≤ b → Puts l at s b n m
at_most p h = let fits = p.within in record { after = p.after; bytes = p.bytes; within = omega arith }

-- no bytes
pub put-nothing : (l : List ℕ) (at most : ℕ) → Puts l at [] most at l
put-nothing l at most = record { after = omega arith; bytes = sym (put-nil l at); within = omega arith }

-- one byte
pub put_one : (l : List ℕ) (at b : ℕ) → at < length l → set l at b ≡ put_at l at (b ∷ [])
unfolding put_at
put_one l at b h = set_split l at b h ∙ rw (add-one at) (sym (append_snoc (take at l) b (drop (suc at) l)))
