-- What the code's answers tell, in the terms of Numerals, and the two counts that its scans keep. Assumes nothing.
use Rattle.std.specs.Prelude.{ℕ, suc, cond, ◌&&◌, List, [], ◌∷◌, eqb, leb, None, Option, Some}
use Rattle.numerals.specs.Numerals.{all_digits, value_from}

-- how many bytes stand before the first c: all of them where there is none
abbrev pub until : ℕ → List ℕ → ℕ
until c [] = 0
until c (x ∷ xs) = cond (eqb x c) 0 (suc (until c xs))

-- the number, at most m, that digits spell after those of n
abbrev pub digits_of : ℕ → ℕ → List ℕ → Option ℕ
digits_of m n ds = cond (all_digits ds && leb (value_from n ds) m) (Some (value_from n ds)) None
