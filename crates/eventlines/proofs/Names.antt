-- The names of the events, one right after the other as the code holds them, and the number of a word among them. Assumes nothing.
use mathlib.Core.Path.{◌≡◌, refl}
use mathlib.Core.Bool.{cond}
use mathlib.Core.List.{List, [], ◌∷◌}
use Prim.Native.Nat.{ℕ, ◌+◌}
use Rattle.octets.specs.Runs.{same_bytes}
use Rattle.numerals.specs.Numerals.{text}
use Rattle.events.specs.Events.{event_number}
use Rattle.events.specs.Told.{fields_from}

abbrev pub names : List ℕ
names = text " active publish complete observed stopped failed acquire sent observe idle stop horizon begin late done input progress"

abbrev pub name_list : List (List ℕ)
name_list =
    text "active" ∷ text "publish" ∷ text "complete" ∷ text "observed" ∷ text "stopped" ∷ text "failed" ∷ text "acquire" ∷ text "sent" ∷ text "observe"
    ∷ text "idle" ∷ text "stop" ∷ text "horizon" ∷ text "begin" ∷ text "late" ∷ text "done" ∷ text "input" ∷ text "progress" ∷ []

pub names-fields : fields_from 0 names ≡ name_list
unfolding fields_from
names-fields = refl

-- the number of the first of these names that the word is, counted from k on; 0 where it is none of them
abbrev pub number_from : ℕ → List ℕ → List (List ℕ) → ℕ
number_from k w [] = 0
number_from k w (n ∷ ns) = cond (same_bytes w n) k (number_from (k + 1) w ns)

pub number-start : (w : List ℕ) → number_from 1 w (fields_from 0 names) ≡ event_number w
unfolding event_number
number-start w = rw names-fields refl
