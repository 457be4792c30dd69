-- Document 01, "Script and its listing": what is read of the lines of a script, from a place in it, in order. "One item a line, LF-ended";
-- "11 names the first byte of the first bad line .., or the length if a line is lacking." Assumes nothing.
use Rattle.std.specs.Prelude.{ℕ, zero, suc, ◌+◌, cond, List, [], ◌∷◌, ltb, length, None, Option, Some}
use Rattle.reader.specs.Lines.{line_at, end_of}

-- something read, with the place after it; or the place of the bad line
pub data Reading (X : Type 0) : Type 0 where
  Bad : ℕ → Reading X
  Good : X → ℕ → Reading X

abbrev pub and_then : {X Y : Type 0} → Reading X → (X → ℕ → Reading Y) → Reading Y
and_then (Bad place) f = Bad place
and_then (Good x next) f = f x next

abbrev pub or_bad : {X : Type 0} → ℕ → Option X → ℕ → Reading X
or_bad place None next = Bad place
or_bad place (Some x) next = Good x next

-- the line at a place as `read` understands it: bad if it has no LF (no line is there, or it is the last and not ended), or if it is not of that form
unfoldable pub item : {X : Type 0} → (List ℕ → Option X) → List ℕ → ℕ → Reading X
item read script at = cond (ltb (end_of script at) (length script)) (or_bad at (read (line_at script at)) (end_of script at + 1)) (Bad at)

-- so many lines, one after the other
unfoldable pub items : {X : Type 0} → ℕ → (List ℕ → Option X) → List ℕ → ℕ → Reading (List X)
items zero read script at = Good [] at
items (suc n) read script at = and_then (item read script at) (λ x next. and_then (items n read script next) (λ xs last. Good (x ∷ xs) last))
