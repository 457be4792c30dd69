-- Document 01, "Script and its listing": an event's "action count; then its actions", as the lines of the records that its call wrote. Assumes nothing.
use Rattle.std.specs.Prelude.{ℕ, zero, suc, List, [], ◌++◌, drop, Result, Ok, Err}
use Rattle.actions.specs.Reading.{read_action}
use Rattle.records.specs.declared.CoordinationAction.{CoordinationAction}
use Rattle.records.specs.declared.Refusal.{Refusal}
use Rattle.listing.specs.Listing.{action_line}

-- the line of what was read; nothing for what is no record
abbrev pub record_line : Result CoordinationAction Refusal → List ℕ
record_line (Ok a) = action_line a
record_line (Err r) = []

-- the lines of the first records, 56 bytes each
unfoldable pub record_lines : ℕ → List ℕ → List ℕ
record_lines zero bytes = []
record_lines (suc count) bytes = record_line (read_action bytes) ++ record_lines count (drop 56 bytes)
