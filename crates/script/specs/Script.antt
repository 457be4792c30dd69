-- Document 01, "Script and its listing": a script, its three sections in their order, each after its count. Assumes nothing.
use Rattle.std.specs.Prelude.{ℕ, ◌-◌, ◌^◌, cond, List, [], ◌∷◌, eqb, length, None, Option, Some}
use Rattle.octets.specs.Runs.{same_bytes}
use Rattle.numerals.specs.Numerals.{text, split, space, number_of}
use Rattle.rules.specs.Model.{LifecyclePolicy, KeepAlive, TerminateWhenIdle, CoordinatedTermination, Call}
use Rattle.events.specs.Events.{word_of, wide_of, event_of}
use Rattle.script.specs.Lines.{Reading, Bad, Good, and_then, item, items}

pub record Script : Type 0 where
  pub participants : List ℕ
  pub policy : LifecyclePolicy
  pub revision : ℕ
  pub generation : ℕ
  -- the place of the first event, and the events
  pub events_at : ℕ
  pub events : List Call

-- a section's first line: its word and a count, at most so many
abbrev pub counted : List ℕ → ℕ → List (List ℕ) → Option ℕ
counted word most [] = None
counted word most (w ∷ []) = None
counted word most (w ∷ n ∷ []) = cond (same_bytes w word) (number_of most n) None
counted word most (w ∷ n ∷ x ∷ xs) = None

unfoldable pub header_of : List ℕ → ℕ → List ℕ → Option ℕ
header_of word most line = counted word most (split space line)

-- `settings 3`
abbrev pub is_three : Option ℕ → Option ℕ
is_three None = None
is_three (Some n) = cond (eqb n 3) (Some n) None

abbrev pub settings_of : List ℕ → Option ℕ
settings_of line = is_three (header_of (text "settings") (2 ^ 32 - 1) line)

-- "policy `keep`, `terminate` or `coordinated`"
abbrev pub policy_of : List ℕ → Option LifecyclePolicy
policy_of line =
    cond (same_bytes line (text "keep")) (Some KeepAlive)
    (cond (same_bytes line (text "terminate")) (Some TerminateWhenIdle)
    (cond (same_bytes line (text "coordinated")) (Some CoordinatedTermination) None))

-- "bytes after the last event" are a bad line
abbrev pub ended : List ℕ → Script → ℕ → Reading Script
ended bytes script at = cond (eqb at (length bytes)) (Good script at) (Bad at)

-- how many events there are, with the place of the first
abbrev pub counted_events : List ℕ → ℕ → Reading ℕ
counted_events bytes at =
    and_then (item (header_of (text "events") 4096) bytes at)
    (λ count first. and_then (items count event_of bytes first)
    (λ events last. cond (eqb last (length bytes)) (Good count first) (Bad last)))

abbrev pub events_of : List ℕ → List ℕ → LifecyclePolicy → ℕ → ℕ → ℕ → Reading Script
events_of bytes participants policy revision generation at =
    and_then (item (header_of (text "events") 4096) bytes at)
    (λ count first. and_then (items count event_of bytes first)
    (λ events last. ended bytes
    (record { participants = participants; policy = policy; revision = revision; generation = generation; events_at = first; events = events }) last))

-- "policy; revision; generation", then the events
abbrev pub settings_and_events_of : List ℕ → List ℕ → ℕ → Reading Script
settings_and_events_of bytes participants at =
    and_then (item settings_of bytes at)
    (λ three second. and_then (item policy_of bytes second)
    (λ policy third. and_then (item wide_of bytes third)
    (λ revision fourth. and_then (item wide_of bytes fourth)
    (λ generation fifth. events_of bytes participants policy revision generation fifth))))

-- the script that bytes are, or the place of their first bad line
unfoldable pub script_of : List ℕ → Reading Script
script_of bytes =
    and_then (item (header_of (text "participants") (2 ^ 32 - 1)) bytes 0)
    (λ count first. and_then (items count word_of bytes first)
    (λ participants next. settings_and_events_of bytes participants next))
