-- Document 01, "Script and its listing": the last line of a listing, the line of a refusal, and the whole listing of a script. Assumes nothing.
use Rattle.std.specs.Prelude.{ℕ, ◌≡◌, false, cond, List, ◌++◌, eqb, ltb, length, take, None}
use Rattle.octets.specs.Runs.{put_at}
use Rattle.rules.specs.Model.{Active}
use Rattle.rules.specs.Opening.{opening_refusal}
use Rattle.rules.specs.Queries.{is_settled}
use Rattle.state.specs.declared.FederateCoordinationState.{FederateCoordinationState as Held}
use Rattle.opening.specs.Opened.{opened_held}
use Rattle.queries.specs.Asked.{ask_held}
use Rattle.script.specs.Lines.{Reading, Bad, Good}
use Rattle.script.specs.Script.{Script, script_of}
use Rattle.listing.specs.Listing.{end_line, misplaced_line, refused_line}
use Rattle.budget.specs.Run.{run_state, run_lines}
use Rattle.session.specs.Open.{is_too_long}

-- "Last: `end`, revision, phase in lower case, generation, completed frontier, horizon, settled."
unfoldable pub last_line : Held → List ℕ
last_line s =
    end_line (ask_held 0 (λ m. m.revision) s).answer (ask_held Active (λ m. m.phase) s).answer (ask_held 0 (λ m. m.completion_generation) s).answer
    (ask_held None (λ m. m.completed_frontier) s).answer (ask_held None (λ m. m.grant_horizon) s).answer (ask_held false is_settled s).answer

abbrev pub refusal_line : ℕ → ℕ → List ℕ
refusal_line refusal place = cond (eqb refusal 11) (misplaced_line place) (refused_line refusal)

-- the listing of a script whose form is good, with a budget of so many events
abbrev pub listed_run : ℕ → Script → List ℕ
listed_run budget s =
    run_lines 1 (take budget s.events) (opened_held s.participants s.policy s.revision s.generation)
    ++ last_line (run_state (take budget s.events) (opened_held s.participants s.policy s.revision s.generation))

abbrev pub listed_by : ℕ → Reading Script → List ℕ
listed_by budget (Bad place) = misplaced_line place
listed_by budget (Good s last) = cond (eqb (opening_refusal s.participants) 0) (listed_run budget s) (refused_line (opening_refusal s.participants))

-- all that the program writes for these bytes
unfoldable pub listing_of : ℕ → List ℕ → List ℕ
listing_of budget bytes = cond (is_too_long bytes) (refused_line 12) (listed_by budget (script_of bytes))

-- one line put from byte 0 on where the room has so many bytes, and else nothing: n bytes were written
pub record Lists (most : ℕ) (line before after : List ℕ) (n : ℕ) : Type 0 where
  pub written : n ≡ cond (ltb (length before) most) 0 (length line)
  pub bytes : after ≡ cond (ltb (length before) most) before (put_at before 0 line)
