-- The queries by number. Assumes nothing.
use Rattle.std.specs.Prelude.{false, cond, ℕ, eqb, None, Some}
use Rattle.records.specs.Numbers.{refusal_number}
use Rattle.records.specs.declared.Refusal.TheVariants.{ScriptOutOfForm}
use Rattle.rules.specs.Model.{Active}
use Rattle.rules.specs.Walk.{is_stopped}
use Rattle.rules.specs.Queries.{Asked, is_settled, idle_confirmation_revision, candidate_of}
use Rattle.state.specs.declared.FederateCoordinationState.{FederateCoordinationState as Held}
use Rattle.queries.specs.Asked.{ask_held}
use Rattle.asking.specs.declared.AskedNumbers.{AskedNumbers}
use Rattle.asking.specs.Answered.{asked_with, number_asked, bool_asked, phase_asked, tag_asked, optional_asked, publication_asked, candidate_asked}

-- a refusal and an answer in these numbers
abbrev pub told : {A : Type 0} → (ℕ → A → AskedNumbers) → Asked A → AskedNumbers
told numbers a = numbers a.refusal a.answer

-- a number that is no question's is 11 in any state
unfoldable pub asked_of : ℕ → ℕ → Held → AskedNumbers
asked_of q e s =
    cond (eqb q 1) (told number_asked (ask_held 0 (λ m. m.revision) s))
    (cond (eqb q 2) (told number_asked (ask_held 0 (λ m. m.completion_generation) s))
    (cond (eqb q 3) (told phase_asked (ask_held Active (λ m. m.phase) s))
    (cond (eqb q 4) (told bool_asked (ask_held false is_stopped s))
    (cond (eqb q 5) (told bool_asked (ask_held false is_settled s))
    (cond (eqb q 6) (told optional_asked (ask_held None (λ m. m.first_failure) s))
    (cond (eqb q 7) (told tag_asked (ask_held None (λ m. m.grant_horizon) s))
    (cond (eqb q 8) (told tag_asked (ask_held None (λ m. m.completed_frontier) s))
    (cond (eqb q 9) (told publication_asked (ask_held None (λ m. m.pending_publication) s))
    (cond (eqb q 10) (told optional_asked (ask_held None idle_confirmation_revision s))
    (cond (eqb q 11) (told candidate_asked (ask_held None (candidate_of e) s))
    (asked_with (refusal_number (Some ScriptOutOfForm)) false 0 None None)))))))))))
