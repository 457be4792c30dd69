-- Laws of the items of a script: when the line at a place is good and when it is bad, how many items are read, and that so many and then so many more
-- are read one after the other. Assumes nothing.
use Rattle.std.specs.Prelude.{None, Option, Some}
use mathlib.Core.Path.{◌≡◌, refl, sym, ap, ◌∙◌}
use mathlib.Core.Bool.{Bool, true, false, not, cond}
use mathlib.Core.List.{List, [], ◌∷◌, ◌++◌}
use Prim.Native.Nat.{ℕ, zero, suc, ◌+◌, ◌<◌}
use native.Mathlib.Nat.{zero-add, suc-add}
use native.Mathlib.Omega.{arith}
use borrow.Author.Tests.{ltb-true, not-true, not-false}
use lib.Dec.{ltb}
use lib.ListN.{length}
use Rattle.reader.specs.Lines.{end_of, line_at, next_at}
use Rattle.script.specs.Lines.{Reading, Bad, Good, and_then, or_bad, item, items}

-- ---- one item

module _ {X : Type 0} (read : List ℕ → Option X) (script : List ℕ) (at : ℕ) where
  pub item-unended : (ended : Bool) → ended ≡ ltb (end_of script at) (length script) → not ended ≡ true → item read script at ≡ Bad at
  unfolding item
  item-unended ended e h = rw (sym e, not-true ended h) refl

  pub item-none : read (line_at script at) ≡ None → item read script at ≡ Bad at
  unfolding item
  item-none h = rw h (by (ltb (end_of script at) (length script)))
    where
      by : (t : Bool) → ◌≡◌ {A = Reading X} (cond t (Bad at) (Bad at)) (Bad at)
      by true = refl
      by false = refl

  pub item-good : (ended : Bool) (next : ℕ) (x : X) → ended ≡ ltb (end_of script at) (length script) → not ended ≡ false → next ≡ next_at script at
      → read (line_at script at) ≡ Some x → item read script at ≡ Good x next
  unfolding item
  item-good ended next x e h n r = rw (n, r, sym e, not-false ended h) refl

  -- an item is what its line is read as
  pub item-line : (o : Option X) → o ≡ read (line_at script at) → item (λ line. o) script at ≡ item read script at
  unfolding item
  item-line o e = rw e refl

  -- what a good item tells of its line
  pub record Told (x : X) (next : ℕ) : Type 0 where
    pub ended : end_of script at < length script
    pub reads : read (line_at script at) ≡ Some x
    pub after : next ≡ end_of script at + 1

  pub good-tells : (x : X) (next : ℕ) → item read script at ≡ Good x next → Told x next
  unfolding item
  good-tells x next = by (ltb (end_of script at) (length script)) (read (line_at script at)) refl refl
    where
      by : (t : Bool) (o : Option X) → ltb (end_of script at) (length script) ≡ t → read (line_at script at) ≡ o
          → cond t (or_bad at o (end_of script at + 1)) (Bad at) ≡ Good x next → Told x next
      by true (Some y) p q e = record {
        ended = ltb-true (end_of script at) (length script) p;
        reads = cc;
        after = cc;
      }
      by true None p q e = let z : ◌≡◌ {A = ℕ} 0 1 = cc in absurd (omega arith)
      by false o p q e = let z : ◌≡◌ {A = ℕ} 0 1 = cc in absurd (omega arith)

-- ---- several

-- an item before what is read after it
abbrev pub before : {X : Type 0} → X → Reading (List X) → Reading (List X)
before x rest = and_then rest (λ xs last. Good (x ∷ xs) last)

module _ {X : Type 0} (read : List ℕ → Option X) (script : List ℕ) where
  pub items-first : (n at : ℕ) (x : X) (next : ℕ) → item read script at ≡ Good x next → items (suc n) read script at ≡ before x (items n read script next)
  unfolding items
  items-first n at x next e = rw e refl

  pub items-bad : (n at place : ℕ) → item read script at ≡ Bad place → items (suc n) read script at ≡ Bad place
  unfolding items
  items-bad n at place e = rw e refl

  pub items-length : (n at : ℕ) (xs : List X) (last : ℕ) → items n read script at ≡ Good xs last → length xs ≡ n
  unfolding items
  items-length zero at xs last e = let z : xs ≡ [] = cc in rw z refl
  items-length (suc n) at xs last e = by (item read script at) (items-length n) e
    where
      then : (x : X) (r : Reading (List X)) → ((ys : List X) (l : ℕ) → r ≡ Good ys l → length ys ≡ n) → before x r ≡ Good xs last → length xs ≡ suc n
      then x (Bad place) h e = let z : ◌≡◌ {A = ℕ} 0 1 = cc in absurd (omega arith)
      then x (Good ys l) h e = let z : xs ≡ x ∷ ys = cc in rw z (ap suc (h ys l refl))

      by : (r : Reading X) → ((next : ℕ) (ys : List X) (l : ℕ) → items n read script next ≡ Good ys l → length ys ≡ n)
          → and_then r (λ x next. before x (items n read script next)) ≡ Good xs last → length xs ≡ suc n
      by (Bad place) h e = let z : ◌≡◌ {A = ℕ} 0 1 = cc in absurd (omega arith)
      by (Good x next) h e = then x (items n read script next) (h next) e

  -- m items and then n more
  abbrev onward : ℕ → List X → ℕ → Reading (List X)
  onward n xs middle = and_then (items n read script middle) (λ ys last. Good (xs ++ ys) last)

  pub items-append : (m n at : ℕ) → items (m + n) read script at
      ≡ and_then (items m read script at) (λ xs middle. and_then (items n read script middle) (λ ys last. Good (xs ++ ys) last))
  unfolding items
  items-append zero n at = rw (zero-add n) (sym (by (items n read script at)))
    where
      by : (r : Reading (List X)) → and_then r (λ ys last. Good ys last) ≡ r
      by (Bad place) = refl
      by (Good ys last) = refl
  items-append (suc m) n at = rw (suc-add m n) (by (item read script at) (items-append m n))
    where
      inner : (x : X) (xs : List X) (r : Reading (List X))
          → before x (and_then r (λ ys last. Good (xs ++ ys) last)) ≡ and_then r (λ ys last. Good (x ∷ xs ++ ys) last)
      inner x xs (Bad place) = refl
      inner x xs (Good ys last) = refl

      then : (x : X) (r : Reading (List X)) → before x (and_then r (onward n)) ≡ and_then (before x r) (onward n)
      then x (Bad place) = refl
      then x (Good xs middle) = inner x xs (items n read script middle)

      by : (r : Reading X) → ((next : ℕ) → items (m + n) read script next ≡ and_then (items m read script next) (onward n))
          → and_then r (λ x next. before x (items (m + n) read script next)) ≡ and_then (and_then r (λ x next. before x (items m read script next))) (onward n)
      by (Bad place) h = refl
      by (Good x next) h = ap (before x) (h next) ∙ then x (items m read script next)
