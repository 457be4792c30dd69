-- What holds of action records beyond the promises (document 01, "Action record" and refusal 28), stated; proofs/RoundTrip.antt proves each.
-- Assumes nothing.
use Rattle.std.specs.Prelude.{ℕ, ◌*◌, ◌<◌, ◌≡◌, true, List, ◌++◌, ◌⊎◌, length, take, drop, get_or, None, Option, Some, Ok}
use Rattle.std.specs.Int.{w32, w64}
use Rattle.std.proofs.Common.{Fits, SFits}
use Rattle.tags.specs.declared.Tag.{Tag}
use Rattle.records.specs.declared.CoordinationAction.{CoordinationAction}
use Rattle.octets.specs.LittleEndian.{AreBytes}
use Rattle.actions.specs.Record.{fields_of, record_of, records_of, proper_action}
use Rattle.actions.specs.Reading.{read_action, read_number}

pub record FitsTag (t : Tag) : Type 0 where
  pub seconds : SFits w64 t.seconds
  pub nanoseconds : SFits w32 t.nanoseconds
  pub microstep : Fits w64 t.microstep

abbrev pub FitsOptional : Option Tag → Type 0
FitsOptional None = Unit {0}
FitsOptional (Some t) = FitsTag t

-- the action's numbers are of their widths, as those of every action that a program holds are
pub record FitsWidths (a : CoordinationAction) : Type 0 where
  pub enclave : Fits w32 (fields_of a).enclave
  pub number : Fits w64 (fields_of a).number
  pub first : FitsOptional (fields_of a).first
  pub second : FitsOptional (fields_of a).second

-- "an action with proper tags and 32-bit enclave"
pub record Writable (a : CoordinationAction) : Type 0 where
  pub widths : FitsWidths a
  pub proper : proper_action a ≡ true

-- an action's record reads back as the action, whatever follows it
abbrev pub ReadWrite : Type 0
ReadWrite = (a : CoordinationAction) (later : List ℕ) → Writable a → read_action (record_of a ++ later) ≡ Ok a

-- of records that stand one right after the other, the i-th reads back as the i-th action
abbrev pub ReadWriteEach : Type 0
ReadWriteEach =
    (l : List CoordinationAction) (i : ℕ) (other : CoordinationAction) (later : List ℕ) → i < length l → Writable (get_or l i other)
    → read_action (drop (56 * i) (records_of l ++ later)) ≡ Ok (get_or l i other)

-- two actions never share a record
abbrev pub RecordsDiffer : Type 0
RecordsDiffer = (a b : CoordinationAction) → Writable a → Writable b → record_of a ≡ record_of b → a ≡ b

-- bytes that read as an action are that action's record, and an action with such a record can be written
abbrev pub WriteRead : Type 0
WriteRead = (s : List ℕ) (a : CoordinationAction) → AreBytes s → read_action s ≡ Ok a → (take 56 s ≡ record_of a) × Writable a

-- "28: under 56 bytes, or the first 56 are none that an action with proper tags and 32-bit enclave writes"
abbrev pub NoRecord : List ℕ → Type 0
NoRecord s = (length s < 56) ⊎ ((a : CoordinationAction) → Writable a → take 56 s ≡ record_of a → ⊥)

-- 28 is given exactly then
abbrev pub Refused28 : Type 0
Refused28 = (s : List ℕ) → AreBytes s → (read_number (read_action s) ≡ 28 → NoRecord s) × (NoRecord s → read_number (read_action s) ≡ 28)
