-- Document 01, "Script and its listing": a line and its words: "answer (0, 1 or `-`)", "phase in lower case", settled as 0 or 1. Assumes nothing.
use Rattle.std.specs.Prelude.{ℕ, Bool, true, false, List, [], ◌∷◌, ◌++◌, None, Option, Some}
use Rattle.numerals.specs.Numerals.{text}
use Rattle.rules.specs.Model.{CoordinationPhase, Active, Probing, Parking, Rechecking, Parked, AwaitingIdleConfirmation, Stopped}

-- words with single spaces between them, LF-ended
abbrev pub line : List (List ℕ) → List ℕ
line [] = text "\n"
line (w ∷ []) = w ++ text "\n"
line (w ∷ v ∷ ws) = w ++ text " " ++ line (v ∷ ws)

abbrev pub mark_text : Bool → List ℕ
mark_text false = text "0"
mark_text true = text "1"

abbrev pub answer_text : Option Bool → List ℕ
answer_text None = text "-"
answer_text (Some false) = text "0"
answer_text (Some true) = text "1"

-- the Rust's names in lower case
abbrev pub phase_text : CoordinationPhase → List ℕ
phase_text Active = text "active"
phase_text Probing = text "probing"
phase_text Parking = text "parking"
phase_text Rechecking = text "rechecking"
phase_text Parked = text "parked"
phase_text AwaitingIdleConfirmation = text "awaitingidleconfirmation"
phase_text Stopped = text "stopped"
