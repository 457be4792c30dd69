-- What holds of a script's listing beyond the promises, stated; proofs/ prove it. Assumes nothing.
use Rattle.std.specs.Prelude.{ℕ, ◌≡◌, false, min, List, ◌++◌}
use Rattle.rules.specs.Opening.{opening_refusal}
use Rattle.script.specs.Lines.{Good}
use Rattle.script.specs.Script.{Script, script_of}
use Rattle.run.specs.Promises.{next_number}
use Rattle.budget.specs.Run.{run_state, run_lines, calls_from}
use Rattle.session.specs.Open.{is_too_long, start_of}
use Rattle.session.specs.Listing.{last_line, listing_of}

-- what the program writes is the script's listing: the lines of the events that a run from the start takes, then the last line
abbrev pub ListsTheScript : Type 0
ListsTheScript =
    (bytes : List ℕ) (s : Script) (last budget : ℕ) → is_too_long bytes ≡ false → script_of bytes ≡ Good s last → opening_refusal s.participants ≡ 0
    → listing_of budget bytes
    ≡ run_lines (next_number (start_of bytes)) (calls_from (min budget (start_of bytes).left) bytes (start_of bytes).at) (start_of bytes).state
    ++ last_line (run_state (calls_from (min budget (start_of bytes).left) bytes (start_of bytes).at) (start_of bytes).state)
