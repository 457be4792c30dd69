-- Document 01, "Script and its listing": numbers and tags as the listing writes them, in the form that the script reads. Assumes nothing.
use Rattle.std.specs.Prelude.{ℕ, zero, suc, ◌+◌, ◌/◌, ◌%◌, cond, List, [], ◌∷◌, ◌++◌, ltb, ℤ, pos, negsuc, None, Option, Some}
use Rattle.tags.specs.declared.Tag.{Tag}
use Rattle.numerals.specs.Numerals.{text, colon, minus}

-- n in decimal, in k digits at most
abbrev pub digits_of : ℕ → ℕ → List ℕ
digits_of zero n = []
digits_of (suc k) n = cond (ltb n 10) ((48 + n) ∷ []) (digits_of k (n / 10) ++ ((48 + n % 10) ∷ []))

-- a number of at most 64 bits, which has at most 20 digits
unfoldable pub decimal : ℕ → List ℕ
decimal n = digits_of 20 n

unfoldable pub integer : ℤ → List ℕ
integer (pos n) = decimal n
integer (negsuc n) = minus ∷ decimal (n + 1)

unfoldable pub tag_text : Tag → List ℕ
tag_text t = integer t.seconds ++ (colon ∷ []) ++ integer t.nanoseconds ++ (colon ∷ []) ++ decimal t.microstep

abbrev pub optional_tag_text : Option Tag → List ℕ
optional_tag_text None = text "-"
optional_tag_text (Some t) = tag_text t
