-- What is printed reads back as what it was (document 01, "Script and its listing": listing and script have numbers and tags in one form),
-- stated; proofs/ReadBack.antt proves each. Assumes nothing.
use Rattle.std.specs.Prelude.{ℕ, ◌^◌, ◌≤◌, ◌<◌, ◌≡◌, ℤ, Option, Some}
use Rattle.std.specs.Int.Signed.{mag}
use Rattle.tags.specs.declared.Tag.{Tag}
use Rattle.actions.specs.Demands.{FitsTag, FitsOptional}
use Rattle.numerals.specs.Numerals.{number_of, integer_of, tag_of, optional_tag_of}
use Rattle.printing.specs.Printing.{decimal, integer, tag_text, optional_tag_text}

abbrev pub NumberReadsBack : Type 0
NumberReadsBack = (m n : ℕ) → n ≤ m → n < 2 ^ 64 → number_of m (decimal n) ≡ Some n

-- z from -half to half - 1: its magnitude, that of -1 - z where z is negative, is below half
abbrev pub IntegerReadsBack : Type 0
IntegerReadsBack = (half : ℕ) (z : ℤ) → half ≤ 2 ^ 63 → mag z < half → integer_of half (integer z) ≡ Some z

abbrev pub TagReadsBack : Type 0
TagReadsBack = (t : Tag) → FitsTag t → tag_of (tag_text t) ≡ Some t

abbrev pub OptionalTagReadsBack : Type 0
OptionalTagReadsBack = (m : Option Tag) → FitsOptional m → optional_tag_of (optional_tag_text m) ≡ Some m
