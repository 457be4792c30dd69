-- The demands of specs/Demands.antt. A number's digits are digits, spell it, and begin with no zero but that of 0, so they are its numeral; a
-- digit is neither minus nor colon, so sign and parts are found again. Assumes nothing.
use Rattle.std.specs.Prelude.{None, Some}
use mathlib.Core.Path.{◌≡◌, refl, ap, ◌∙◌}
use mathlib.Core.Bool.{Bool, true, false, cond, ◌&&◌}
use mathlib.Core.List.{List, [], ◌∷◌, ◌++◌, append_assoc}
use Prim.Native.Nat.{ℕ, zero, suc, ◌+◌, ◌-◌, ◌*◌, ◌/◌, ◌%◌, ◌^◌, ◌<◌, ◌≤◌}
use native.Mathlib.Omega.{arith}
use native.Mathlib.Nat.{pow-succ'}
use native.Mathlib.Numerals.{add-one}
use lib.Dec.{ltb, leb, eqb}
use lib.IntN.{ℤ, pos, negsuc}
use lib.Signed.{mag}
use lib.ListN.{length, get_or, length-append, get_or-append}
use borrow.Author.Tests.{ltb-true, ltb-false, leb-true, le-leb, eq-eqb, ne_eqb}
use Rattle.tags.specs.declared.Tag.{Tag}
use Rattle.octets.specs.Runs.{same_bytes}
use Rattle.numerals.specs.Numerals.{text, colon, minus, split, is_digit, all_digits, value_from, is_numeral, number_of, unsigned, integer_of, tag_of, optional_tag_of}
use Rattle.actions.specs.Demands.{FitsTag}
use Rattle.octets.proofs.Runs.{same-lengths}
use Rattle.printing.specs.Printing.{digits_of, decimal, integer, tag_text}
use Rattle.printing.specs.Demands.{NumberReadsBack, IntegerReadsBack, TagReadsBack, OptionalTagReadsBack}
use Rattle.printing.proofs.Numbers.{two_digits}

both : (b c : Bool) → (b && c) ≡ true → (b ≡ true) × (c ≡ true)
both true c h = (refl, h)
both false c h = let z : ◌≡◌ {A = ℕ} 0 1 = cc in absurd (omega arith)

-- ---- digits

digit-of : (d : ℕ) → d < 10 → is_digit (48 + d) ≡ true
digit-of d h = rw (le-leb 48 (48 + d) (omega arith), le-leb (48 + d) 57 (omega arith))

digit-within : (d : ℕ) → is_digit d ≡ true → (48 ≤ d) × (d ≤ 57)
digit-within d h = let p = both (leb 48 d) (leb d 57) h in (leb-true 48 d p.0, leb-true d 57 p.1)

digits_append : (xs ys : List ℕ) → all_digits xs ≡ true → all_digits ys ≡ true → all_digits (xs ++ ys) ≡ true
digits_append [] ys p q = q
digits_append (x ∷ xs) ys p q = let h = both (is_digit x) (all_digits xs) p in rw h.0 (digits_append xs ys h.1 q)

value-append : (n : ℕ) (xs ys : List ℕ) → value_from n (xs ++ ys) ≡ value_from (value_from n xs) ys
value-append n [] ys = refl
value-append n (x ∷ xs) ys = value-append (n * 10 + (x - 48)) xs ys

-- digits that spell n with no zero before another
record Spells (n : ℕ) (t : List ℕ) : Type 0 where
  all : all_digits t ≡ true
  value : value_from 0 t ≡ n
  one : 0 < length t
  alone : n ≡ 0 → length t ≡ 1
  first : 0 < n → get_or t 0 0 ≡ 48 → ⊥

spells : (k n : ℕ) → 0 < k → n < 10 ^ k → Spells n (digits_of k n)
spells zero n p h = absurd (omega arith)
spells (suc k) n p h =
    by (ltb n 10) refl
    (λ big.
    let two : 1 < suc k = two_digits (suc k) n big h in
    let l : n < 10 * 10 ^ k = rw (pow-succ' 10 k) at h in
    spells k (n / 10) (omega arith) (omega arith))
  where
    by : (b : Bool) → ltb n 10 ≡ b → (10 ≤ n → Spells (n / 10) (digits_of k (n / 10)))
        → Spells n (cond b ((48 + n) ∷ []) (digits_of k (n / 10) ++ (48 + n % 10) ∷ []))
    by true t g =
        let small : n < 10 = ltb-true n 10 t in
        record { all = rw (digit-of n small); value = omega arith; one = omega arith; alone = λ z. refl; first = λ z e. omega arith }
    by false t g =
        let big : 10 ≤ n = ltb-false n 10 t in
        let s = g big in
        let front = digits_of k (n / 10) in
        let last = (48 + n % 10) ∷ [] in
        let least = s.one in
        record {
          all = digits_append front last s.all (rw (digit-of (n % 10) (omega arith)));
          value = rw (value-append 0 front last, s.value) (omega arith);
          one = rw (length-append front last) (omega arith);
          alone = λ z. absurd (omega arith);
          first = λ z. rw (get_or-append front last 0 0 least) (s.first (omega arith));
        }

decimal-spells : (n : ℕ) → n < 2 ^ 64 → Spells n (decimal n)
unfolding decimal
decimal-spells n h = spells 20 n (omega arith) (omega arith)

numeral : (n : ℕ) (t : List ℕ) → Spells n t → is_numeral t ≡ true
numeral n [] s = let h = s.one in absurd (omega arith)
numeral n (d ∷ []) s = (both (is_digit d) true s.all).0
numeral n (d ∷ e ∷ ds) s = rw (ne_eqb d 48 no_zero) s.all
  where
    no_zero : d ≡ 48 → ⊥
    no_zero e = s.first (positive n refl) e
      where
        positive : (m : ℕ) → n ≡ m → 0 < n
        positive zero z = let h = s.alone z in absurd (omega arith)
        positive (suc m) z = omega arith

pub number-reads-back : NumberReadsBack
unfolding number_of
number-reads-back m n l h =
    let s = decimal-spells n h in
    rw (numeral n (decimal n) s, s.value, le-leb n m l)

-- ---- signed numbers

unsigned-read : (half n : ℕ) (t : List ℕ) → Spells n t → integer_of half t ≡ unsigned (number_of (half - 1) t)
unfolding integer_of
unsigned-read half n [] s = let h = s.one in absurd (omega arith)
unsigned-read half n (d ∷ ds) s =
    let b = digit-within d (both (is_digit d) (all_digits ds) s.all).0 in
    rw (ne_eqb d minus (λ e. omega arith))

pub integer-reads-back : IntegerReadsBack
unfolding integer_of integer
integer-reads-back half (pos n) small h =
    unsigned-read half n (decimal n) (decimal-spells n (omega arith)) ∙ rw (number-reads-back (half - 1) n (omega arith) (omega arith))
integer-reads-back half (negsuc n) small h = rw (number-reads-back half (n + 1) (omega arith) (omega arith), add-one n)

-- ---- tags

-- no byte of the text is c
abbrev Without : ℕ → List ℕ → Type 0
Without c [] = Unit {0}
Without c (x ∷ xs) = (eqb x c ≡ false) × Without c xs

split-next : (c : ℕ) (xs ys : List ℕ) → Without c xs → split c (xs ++ c ∷ ys) ≡ xs ∷ split c ys
split-next c [] ys w = rw (eq-eqb c c refl)
split-next c (x ∷ xs) ys w = rw (w.0, split-next c xs ys w.1)

split-last : (c : ℕ) (xs : List ℕ) → Without c xs → split c xs ≡ xs ∷ []
split-last c [] w = refl
split-last c (x ∷ xs) w = rw (w.0, split-last c xs w.1)

digits-without : (xs : List ℕ) → all_digits xs ≡ true → Without colon xs
digits-without [] h = tt
digits-without (x ∷ xs) h =
    let p = both (is_digit x) (all_digits xs) h in
    let b = digit-within x p.0 in
    (ne_eqb x colon (λ e. omega arith), digits-without xs p.1)

decimal-without : (n : ℕ) → n < 2 ^ 64 → Without colon (decimal n)
decimal-without n h = digits-without (decimal n) (decimal-spells n h).all

integer-without : (z : ℤ) → mag z < 2 ^ 63 → Without colon (integer z)
unfolding integer
integer-without (pos n) h = decimal-without n (omega arith)
integer-without (negsuc n) h = (refl, decimal-without (n + 1) (omega arith))

tag-parts : (t : Tag) → FitsTag t → split colon (tag_text t) ≡ integer t.seconds ∷ integer t.nanoseconds ∷ decimal t.microstep ∷ []
unfolding tag_text
tag-parts t f =
    let s = integer t.seconds in
    let n = integer t.nanoseconds in
    let m = decimal t.microstep in
    simp append_assoc
    (split-next colon s (n ++ colon ∷ m) (integer-without t.seconds f.seconds.sfits)
    ∙ ap (λ l. s ∷ l)
    (split-next colon n m (integer-without t.nanoseconds (omega (arith, f.nanoseconds.sfits)))
    ∙ ap (λ l. n ∷ l) (split-last colon m (decimal-without t.microstep f.microstep.fits))))

pub tag-reads-back : TagReadsBack
unfolding tag_of
tag-reads-back t f =
    rw (
      tag-parts t f,
      integer-reads-back (2 ^ 63) t.seconds (omega arith) f.seconds.sfits,
      integer-reads-back (2 ^ 31) t.nanoseconds (omega arith) f.nanoseconds.sfits,
      number-reads-back (2 ^ 64 - 1) t.microstep (omega (arith, f.microstep.fits)) f.microstep.fits,
    )

no-dash : (t : Tag) → same_bytes (tag_text t) (text "-") ≡ false
unfolding tag_text
no-dash t = same-lengths (tag_text t) (text "-") (λ e. omega (arith, simp length-append at e))

pub optional-tag-reads-back : OptionalTagReadsBack
unfolding optional_tag_of
optional-tag-reads-back None f = refl
optional-tag-reads-back (Some t) f = rw (no-dash t, tag-reads-back t f)
