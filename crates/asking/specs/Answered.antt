-- A query's answer in numbers: by the refusal's number and the answer of each kind. Assumes nothing.
use Rattle.records.specs.declared.FederatePublication.{FederatePublication}
use Rattle.tags.specs.declared.Tag.{Tag}
use Rattle.std.specs.Prelude.{Bool, true, false, cond, ℕ, None, Option, Some}
use Rattle.tags.specs.Tags.{is_present}
use Rattle.records.specs.Numbers.{phase_number}
use Rattle.rules.specs.Model.{CoordinationPhase}
use Rattle.plain.specs.Tags.{tag_numbers}
use Rattle.asking.specs.declared.AskedNumbers.{AskedNumbers}

abbrev pub asked_with : ℕ → Bool → ℕ → Option Tag → Option Tag → AskedNumbers
asked_with refusal present number first second =
    record { refusal = refusal; present = present; number = number; first = tag_numbers first; second = tag_numbers second }

abbrev pub number_asked : ℕ → ℕ → AskedNumbers
number_asked refusal n = asked_with refusal true n None None

abbrev pub bool_asked : ℕ → Bool → AskedNumbers
bool_asked refusal b = asked_with refusal true (cond b 1 0) None None

abbrev pub phase_asked : ℕ → CoordinationPhase → AskedNumbers
phase_asked refusal p = asked_with refusal true (phase_number p) None None

abbrev pub tag_asked : ℕ → Option Tag → AskedNumbers
tag_asked refusal t = asked_with refusal (is_present t) 0 t None

-- an enclave or a revision
abbrev pub optional_asked : ℕ → Option ℕ → AskedNumbers
optional_asked refusal None = asked_with refusal false 0 None None
optional_asked refusal (Some n) = asked_with refusal true n None None

abbrev pub publication_asked : ℕ → Option FederatePublication → AskedNumbers
publication_asked refusal None = asked_with refusal false 0 None None
publication_asked refusal (Some p) = asked_with refusal true p.revision p.next_event p.grant_horizon

abbrev pub candidate_asked : ℕ → Option (Option Tag) → AskedNumbers
candidate_asked refusal None = asked_with refusal false 0 None None
candidate_asked refusal (Some t) = asked_with refusal true 0 t None
