-- What the cells of the state mean: a tag, a number or an observation that may be absent, a phase and a policy by number. A cell that means nothing
-- of document 01 is in no state that represents one (View, `represents`). Assumes nothing.
use Rattle.records.specs.declared.FederatePublication.{FederatePublication}
use Rattle.std.specs.Prelude.{Bool, not, cond, ◌||◌, ℕ, ◌-◌, ◌^◌, eqb, List, ℤ, pos, negsuc, get_or, None, Option, Some}
use Rattle.std.specs.Int.Signed.{lt_z}
use Rattle.tags.specs.Tags.{◌≡ₜ◌, is_proper}
use Rattle.rules.specs.Model.{Tag, LifecyclePolicy, KeepAlive, TerminateWhenIdle, CoordinatedTermination, CoordinationPhase, Active, Probing, Parking, Rechecking, Parked, AwaitingIdleConfirmation, Stopped, Probed, HasParked, Rechecked, OptionalObservation, Unobserved, Observed, OptionalAcquisition, NoneStored, Stored, OptionalInputs, NoInputs, Inputs}

-- ---- tags

-- the mark of an absent tag: the least of each number
abbrev pub absent : Tag
absent = record { seconds = negsuc (2 ^ 63 - 1); nanoseconds = negsuc (2 ^ 31 - 1); microstep = 0 }

-- no proper tag has such nanoseconds
abbrev pub is_absent : Tag → Bool
is_absent t = lt_z t.nanoseconds (negsuc 999_999_998)

abbrev pub optional_of : Tag → Option Tag
optional_of t = cond (is_absent t) None (Some t)

abbrev pub cell_of : Option Tag → Tag
cell_of None = absent
cell_of (Some t) = t

-- an absent tag is the mark
abbrev pub is_neat : Tag → Bool
is_neat t = not (is_absent t) || t ≡ₜ absent

-- a proper tag or the mark
abbrev pub is_cell : Tag → Bool
is_cell t = is_proper t || t ≡ₜ absent

-- the cell at place k of the columns of tags
abbrev pub tag_in : List ℤ → List ℤ → List ℕ → ℕ → Tag
tag_in ss ns ms k = record { seconds = get_or ss k (pos 0); nanoseconds = get_or ns k (pos 0); microstep = get_or ms k 0 }

-- ---- numbers with a flag

abbrev pub number_if : Bool → ℕ → Option ℕ
number_if b n = cond b (Some n) None

-- an absent number is 0
abbrev pub is_zero_unless : Bool → ℕ → Bool
is_zero_unless b n = b || eqb n 0

-- ---- numbers of enums; a number past the last case is in no state that represents one

abbrev pub observation_of : ℕ → OptionalObservation
observation_of n = cond (eqb n 0) Unobserved (cond (eqb n 1) (Observed Probed) (cond (eqb n 2) (Observed HasParked) (Observed Rechecked)))

abbrev pub phase_of : ℕ → CoordinationPhase
phase_of n =
    cond (eqb n 0) Active
    (cond (eqb n 1) Probing
    (cond (eqb n 2) Parking (cond (eqb n 3) Rechecking (cond (eqb n 4) Parked (cond (eqb n 5) AwaitingIdleConfirmation Stopped)))))

abbrev pub policy_of : ℕ → LifecyclePolicy
policy_of n = cond (eqb n 0) KeepAlive (cond (eqb n 1) TerminateWhenIdle CoordinatedTermination)

-- ---- the pending publication, the pending pair of inputs, the stored acquisition

abbrev pub publication_if : Bool → ℕ → Tag → Tag → Option FederatePublication
publication_if b r n h = cond b (Some (record { revision = r; next_event = optional_of n; grant_horizon = optional_of h })) None

abbrev pub inputs_of : Tag → Tag → OptionalInputs
inputs_of first last = cond (is_absent first) NoInputs (Inputs first last)

abbrev pub stored_of : ℕ → Tag → OptionalAcquisition
stored_of r t = cond (is_absent t) NoneStored (Stored r t)
