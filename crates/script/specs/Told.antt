-- What the results of the reading's steps say of the lines read (document 01, "Script and its listing"). Assumes nothing.
use Rattle.std.specs.Prelude.{ℕ, ◌+◌, min, ◌≡◌, List, length, Result, Ok, Err}
use Rattle.std.proofs.lemmas.List.Edits.{sets}
use Rattle.events.specs.Told.{padded}
use Rattle.script.specs.declared.BadScript.{BadScript}
use Rattle.script.specs.declared.Participants.{Participants}
use Rattle.script.specs.Lines.{Reading, Bad, Good}
use Rattle.script.specs.Read.{bad_line}

-- what was read, with the place after it; or the bad line
abbrev pub read_of : {X : Type 0} → Reading X → Result (X × ℕ) BadScript
read_of (Bad place) = Err (bad_line place)
read_of (Good x next) = Ok (x, next)

-- the place alone of what is read
abbrev pub passed_of : {X : Type 0} → Reading X → Result ℕ BadScript
passed_of (Bad place) = Err (bad_line place)
passed_of (Good x next) = Ok next

-- the indices read, put one after the other into these 33 places from place k on; an index past them only counts, to 33
abbrev pub gathered : List ℕ → ℕ → Reading (List ℕ) → Result (Participants × ℕ) BadScript
gathered indices k (Bad place) = Err (bad_line place)
gathered indices k (Good xs next) = Ok (record { indices = sets indices k xs; count = min 33 (k + length xs) }, next)

-- of these participants the first 33 are kept, with 0 after them, and counted
abbrev pub Kept : List ℕ → Participants → Type 0
Kept participants p = (p.indices ≡ padded 33 participants) × (p.count ≡ min 33 (length participants))
