-- Document 01, "Script and its listing": the lines of a script, each from its place: "One item a line, LF-ended". Assumes nothing.
use Rattle.std.specs.Prelude.{ℕ, suc, ◌+◌, cond, List, [], ◌∷◌, eqb, ltb, length, take, drop}

-- how many bytes stand before the first LF, or in all
abbrev pub line_length : List ℕ → ℕ
line_length [] = 0
line_length (b ∷ bs) = cond (eqb b 10) 0 (suc (line_length bs))

-- the line at a place, without its LF
abbrev pub line_at : List ℕ → ℕ → List ℕ
line_at script at = take (line_length (drop at script)) (drop at script)

-- where that line ends: at its LF, or with the script
abbrev pub end_of : List ℕ → ℕ → ℕ
end_of script at = at + line_length (drop at script)

-- the place after that line and its LF; where it has none, its end
abbrev pub next_at : List ℕ → ℕ → ℕ
next_at script at = cond (ltb (end_of script at) (length script)) (end_of script at + 1) (end_of script at)
