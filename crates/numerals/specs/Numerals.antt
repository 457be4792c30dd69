-- Document 01, "Script and its listing": what a text, a number and a tag are. "Numbers have no leading zero, plus or -0. A tag is
-- three numbers of their widths joined by colons, `-` if absent". Assumes nothing.
use Rattle.std.specs.Prelude.{ℕ, zero, suc, ◌+◌, ◌-◌, ◌*◌, ◌^◌, Bool, true, false, cond, ◌&&◌, List, [], ◌∷◌, eqb, leb, ℤ, pos, negsuc, None, Option, Some}
use Prim.Native.Char.{code}
use Prim.Native.String.{String, [] as blank, ◌∷◌ as ◌before◌}
use Rattle.tags.specs.declared.Tag.{Tag}
use Rattle.octets.specs.Runs.{same_bytes}

-- ---- texts

-- the bytes of a text, as `text "active"`
abbrev pub text : String → List ℕ
text blank = []
text (c before cs) = code c ∷ text cs

abbrev pub onto : ℕ → List (List ℕ) → List (List ℕ)
onto x [] = (x ∷ []) ∷ []
onto x (p ∷ ps) = (x ∷ p) ∷ ps

-- the parts of a text between its bytes c: one more than there are such bytes
abbrev pub split : ℕ → List ℕ → List (List ℕ)
split c [] = [] ∷ []
split c (x ∷ xs) = cond (eqb x c) ([] ∷ split c xs) (onto x (split c xs))

-- a byte of its own: space, colon, minus
abbrev pub space : ℕ
space = 32

abbrev pub colon : ℕ
colon = 58

abbrev pub minus : ℕ
minus = 45

-- ---- numbers read

abbrev pub is_digit : ℕ → Bool
is_digit d = leb 48 d && leb d 57

abbrev pub all_digits : List ℕ → Bool
all_digits [] = true
all_digits (d ∷ ds) = is_digit d && all_digits ds

-- the number that digits spell after those of n
abbrev pub value_from : ℕ → List ℕ → ℕ
value_from n [] = n
value_from n (d ∷ ds) = value_from (n * 10 + (d - 48)) ds

-- a numeral: digits, one at least, and no zero before another
abbrev pub is_numeral : List ℕ → Bool
is_numeral [] = false
is_numeral (d ∷ []) = is_digit d
is_numeral (d ∷ e ∷ ds) = cond (eqb d 48) false (all_digits (d ∷ e ∷ ds))

-- the number that a text spells, if it is a numeral of one that is at most m
unfoldable pub number_of : ℕ → List ℕ → Option ℕ
number_of m t = cond (is_numeral t && leb (value_from 0 t) m) (Some (value_from 0 t)) None

-- the negative number of a numeral's number; -0 is none
abbrev pub negated : Option ℕ → Option ℤ
negated None = None
negated (Some zero) = None
negated (Some (suc n)) = Some (negsuc n)

abbrev pub unsigned : Option ℕ → Option ℤ
unsigned None = None
unsigned (Some n) = Some (pos n)

-- the number from -half to half - 1 that a numeral, or a minus before one, spells
unfoldable pub integer_of : ℕ → List ℕ → Option ℤ
integer_of half [] = None
integer_of half (b ∷ bs) = cond (eqb b minus) (negated (number_of half bs)) (unsigned (number_of (half - 1) (b ∷ bs)))

-- what comes of something that was read
abbrev pub given : {X Y : Type 0} → Option X → (X → Y) → Option Y
given None f = None
given (Some x) f = Some (f x)

-- ---- tags read

abbrev pub joined : Option ℤ → Option ℤ → Option ℕ → Option Tag
joined (Some s) (Some n) (Some m) = Some (record { seconds = s; nanoseconds = n; microstep = m })
joined (Some s) (Some n) None = None
joined (Some s) None m = None
joined None n m = None

abbrev pub three_numbers : List (List ℕ) → Option Tag
three_numbers [] = None
three_numbers (s ∷ []) = None
three_numbers (s ∷ n ∷ []) = None
three_numbers (s ∷ n ∷ m ∷ []) = joined (integer_of (2 ^ 63) s) (integer_of (2 ^ 31) n) (number_of (2 ^ 64 - 1) m)
three_numbers (s ∷ n ∷ m ∷ x ∷ xs) = None

-- "three numbers of their widths joined by colons"
unfoldable pub tag_of : List ℕ → Option Tag
tag_of t = three_numbers (split colon t)

-- what stands in a text, where `-` says that it is absent
abbrev pub or_dash : {X Y : Type 0} → (List ℕ → Option X) → Y → (X → Y) → List ℕ → Option Y
or_dash read absent present t = cond (same_bytes t (text "-")) (Some absent) (given (read t) present)

unfoldable pub optional_tag_of : List ℕ → Option (Option Tag)
optional_tag_of t = or_dash tag_of None Some t
