-- Document 01, "Action record" and refusal 28: what reading the bytes of a record finds. Assumes nothing.
use Rattle.std.specs.Prelude.{ℕ, ◌+◌, ◌/◌, ◌%◌, Bool, cond, ◌&&◌, List, leb, eqb, length, take, get_or, None, Option, Some, Result, Ok, Err}
use Rattle.std.specs.Int.{w32, w64}
use Rattle.std.proofs.Common.{to_z}
use Rattle.tags.specs.declared.Tag.{Tag}
use Rattle.records.specs.Numbers.{refusal_number}
use Rattle.records.specs.declared.FederatePublication.{FederatePublication}
use Rattle.records.specs.declared.FederateCompletion.{FederateCompletion}
use Rattle.records.specs.declared.CoordinationAction.{CoordinationAction}
use Rattle.records.specs.declared.CoordinationAction.TheVariants as action
use Rattle.records.specs.declared.Refusal.{Refusal}
use Rattle.records.specs.declared.Refusal.TheVariants as refusal
use Rattle.octets.specs.LittleEndian.{num_at}
use Rattle.octets.specs.Runs.{same_bytes}
use Rattle.actions.specs.Record.{record_of, proper_action}

-- the refusal number of each case
abbrev pub read_number : Result CoordinationAction Refusal → ℕ
read_number (Ok a) = refusal_number None
read_number (Err r) = refusal_number (Some r)

-- the fields at their places
abbrev pub flag_at : ℕ → List ℕ → Bool
flag_at flag s = eqb (get_or s 1 0 / flag % 2) 1

abbrev pub enclave_at : List ℕ → ℕ
enclave_at s = num_at 4 s 4

abbrev pub number_at : List ℕ → ℕ
number_at s = num_at 8 s 8

abbrev pub tag_at : List ℕ → ℕ → Tag
tag_at s at = record { seconds = to_z w64 (num_at 8 s at); nanoseconds = to_z w32 (num_at 4 s (at + 8)); microstep = num_at 8 s (at + 12) }

abbrev pub optional_at : Bool → List ℕ → ℕ → Option Tag
optional_at present s at = cond present (Some (tag_at s at)) None

abbrev pub publication_at : List ℕ → FederatePublication
publication_at s = record { revision = number_at s; next_event = optional_at (flag_at 1 s) s 16; grant_horizon = optional_at (flag_at 2 s) s 36 }

abbrev pub completion_at : List ℕ → FederateCompletion
completion_at s = record { completed = tag_at s 16; network_input = flag_at 4 s }

-- the one action of that kind whose record can stand here, by the fields that the kind uses
abbrev pub candidate_of : ℕ → List ℕ → Option CoordinationAction
candidate_of kind s =
    cond (eqb kind 1) (Some (action.Publish (publication_at s)))
    (cond (eqb kind 2) (Some (action.AdvanceHorizon (tag_at s 16)))
    (cond (eqb kind 3) (Some (action.Grant (enclave_at s) (tag_at s 16)))
    (cond (eqb kind 4) (Some (action.Complete (completion_at s)))
    (cond (eqb kind 5) (Some (action.CompletionProbe (enclave_at s) (number_at s)))
    (cond (eqb kind 6) (Some (action.Probe (number_at s)))
    (cond (eqb kind 7) (Some (action.Park (number_at s)))
    (cond (eqb kind 8) (Some (action.Recheck (number_at s)))
    (cond (eqb kind 9) (Some (action.Resume (enclave_at s) (number_at s)))
    (cond (eqb kind 10) (Some action.Stop)
    (cond (eqb kind 11) (Some action.Abort) None))))))))))

-- an action is read only where the first 56 bytes are its record and its tags are proper
unfoldable pub confirmed : List ℕ → Option CoordinationAction → Result CoordinationAction Refusal
confirmed s None = Err refusal.NoActionRecord
confirmed s (Some a) = cond (same_bytes (record_of a) (take 56 s) && proper_action a) (Ok a) (Err refusal.NoActionRecord)

-- "28: under 56 bytes, or the first 56 are none that an action with proper tags and 32-bit enclave writes"
unfoldable pub read_action : List ℕ → Result CoordinationAction Refusal
unfolding confirmed
read_action s = cond (leb 56 (length s)) (confirmed s (candidate_of (get_or s 0 0) s)) (Err refusal.NoActionRecord)
