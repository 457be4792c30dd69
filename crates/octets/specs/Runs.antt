-- Document 01, "Action record": a run of bytes in lent room, where "later bytes keep their values", and the comparison of two runs. Assumes nothing.
use Rattle.std.specs.Prelude.{ℕ, ◌+◌, Bool, true, false, cond, ◌&&◌, List, [], ◌∷◌, ◌++◌, leb, eqb, length, take, drop}

-- the room with the run from index at on; every other byte is as it was
unfoldable pub put_at : List ℕ → ℕ → List ℕ → List ℕ
put_at room at run = take at room ++ run ++ drop (at + length run) room

-- the run, from index at on, ends within the room
abbrev pub fits_at : List ℕ → ℕ → List ℕ → Bool
fits_at room at run = leb (at + length run) (length room)

-- the room with the run where it fits, and as it was where it does not
abbrev pub written : List ℕ → ℕ → List ℕ → List ℕ
written room at run = cond (fits_at room at run) (put_at room at run) room

-- the two runs have the same bytes
abbrev pub same_bytes : List ℕ → List ℕ → Bool
same_bytes [] [] = true
same_bytes [] (y ∷ ys) = false
same_bytes (x ∷ xs) [] = false
same_bytes (x ∷ xs) (y ∷ ys) = eqb x y && same_bytes xs ys
