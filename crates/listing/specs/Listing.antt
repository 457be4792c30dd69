-- Document 01, "Script and its listing": the lines of a listing. "prints per event: number, refusal, answer (0, 1 or `-`), action count; then its
-- actions. Last: `end`, revision, phase in lower case, generation, completed frontier, horizon, settled." Assumes nothing.
use Rattle.tags.specs.declared.Tag.{Tag}
use Rattle.std.specs.Prelude.{ℕ, Bool, List, [], ◌∷◌, ◌++◌, Option}
use Rattle.numerals.specs.Numerals.{text}
use Rattle.printing.specs.Printing.{decimal, tag_text, optional_tag_text}
use Rattle.rules.specs.Model.{CoordinationPhase, CoordinationAction, Publish, AdvanceHorizon, Grant, Complete, CompletionProbe, Probe, Park, Recheck, Resume, Stop, Abort}
use Rattle.fields.specs.Words.{line, mark_text, answer_text, phase_text}

unfoldable pub action_line : CoordinationAction → List ℕ
action_line (Publish p) = line (text "publish" ∷ decimal p.revision ∷ optional_tag_text p.next_event ∷ optional_tag_text p.grant_horizon ∷ [])
action_line (AdvanceHorizon t) = line (text "advance" ∷ tag_text t ∷ [])
action_line (Grant e t) = line (text "grant" ∷ decimal e ∷ tag_text t ∷ [])
action_line (Complete c) = line (text "complete" ∷ tag_text c.completed ∷ mark_text c.network_input ∷ [])
action_line (CompletionProbe e g) = line (text "completion-probe" ∷ decimal e ∷ decimal g ∷ [])
action_line (Probe r) = line (text "probe" ∷ decimal r ∷ [])
action_line (Park r) = line (text "park" ∷ decimal r ∷ [])
action_line (Recheck r) = line (text "recheck" ∷ decimal r ∷ [])
action_line (Resume e r) = line (text "resume" ∷ decimal e ∷ decimal r ∷ [])
action_line Stop = line (text "stop" ∷ [])
action_line Abort = line (text "abort" ∷ [])

unfoldable pub action_lines : List CoordinationAction → List ℕ
action_lines [] = []
action_lines (a ∷ rest) = action_line a ++ action_lines rest

-- number, refusal, answer, action count
unfoldable pub event_line : ℕ → ℕ → Option Bool → ℕ → List ℕ
event_line number refusal answer count = line (decimal number ∷ decimal refusal ∷ answer_text answer ∷ decimal count ∷ [])

unfoldable pub end_line : ℕ → CoordinationPhase → ℕ → Option Tag → Option Tag → Bool → List ℕ
end_line revision phase generation frontier horizon settled =
    line (text "end" ∷ decimal revision ∷ phase_text phase ∷ decimal generation ∷ optional_tag_text frontier ∷ optional_tag_text horizon ∷ mark_text settled ∷ [])

-- "A bad script prints only `refused 11 PLACE`, else `refused NUMBER`."
unfoldable pub misplaced_line : ℕ → List ℕ
misplaced_line place = line (text "refused" ∷ text "11" ∷ decimal place ∷ [])

unfoldable pub refused_line : ℕ → List ℕ
refused_line refusal = line (text "refused" ∷ decimal refusal ∷ [])
