-- Records are 56 bytes, and one put right after others makes the records of one action more. Assumes nothing.
use Rattle.std.specs.Prelude.{None, Option, Some}
use Rattle.tags.specs.declared.Tag.{Tag}
use mathlib.Core.Path.{◌≡◌, refl, sym, ◌∙◌}
use mathlib.Core.Bool.{Bool}
use mathlib.Core.List.{List, [], ◌∷◌, ◌++◌, append_assoc, append-nil}
use Prim.Native.Nat.{ℕ, ◌+◌, ◌*◌, ◌≤◌}
use native.Mathlib.Omega.{arith}
use lib.ListN.{length, length-append}
use Rattle.records.specs.declared.CoordinationAction.{CoordinationAction}
use Rattle.octets.specs.Runs.{put_at, fits_at, written}
use Rattle.octets.proofs.Runs.{put-append, put_whole, written-fits}
use Rattle.actions.specs.Record.{fields_of, head_bytes, optional_bytes, bytes_of, record_of, records_of}
use Rattle.actions.specs.declared.Fields.{Fields}

pub length-optional : (m : Option Tag) → length (optional_bytes m) ≡ 20
length-optional None = refl
length-optional (Some t) = refl

pub length-bytes : (f : Fields) → length (bytes_of f) ≡ 56
unfolding bytes_of
length-bytes f =
    length-append (head_bytes f) (optional_bytes f.first ++ optional_bytes f.second)
    ∙ rw (length-append (optional_bytes f.first) (optional_bytes f.second), length-optional f.first, length-optional f.second)

pub length-record : (a : CoordinationAction) → length (record_of a) ≡ 56
unfolding record_of
length-record a = length-bytes (fields_of a)

pub length-records : (l : List CoordinationAction) → length (records_of l) ≡ 56 * length l
unfolding records_of
length-records [] = refl
length-records (a ∷ l) = rw (length-append, length-record a, length-records l) (omega arith)

pub records-append : (l m : List CoordinationAction) → records_of (l ++ m) ≡ records_of l ++ records_of m
unfolding records_of
records-append [] m = refl
records-append (a ∷ l) m = rw (records-append l m) (sym (append_assoc (record_of a) (records_of l) (records_of m)))

-- one action more: its record is put right after those of the actions before it
pub put_next : (room₀ room : List ℕ) (l : List CoordinationAction) (a : CoordinationAction) → room ≡ put_at room₀ 0 (records_of l)
    → 56 * length l + 56 ≤ length room₀ → put_at room (56 * length l) (record_of a) ≡ put_at room₀ 0 (records_of (l ++ a ∷ []))
unfolding records_of
put_next room₀ room l a e h =
    rw (e, records-append l (a ∷ []), append-nil)
    (put-append room₀ 0 (records_of l) (record_of a) (56 * length l) (omega (arith, length-records l)) (omega (arith, length-record a)))

-- a head and two tags, put one right after the other, are one run
pub put_three : (l : List ℕ) (at : ℕ) (h t u : List ℕ) → length h ≡ 16 → length t ≡ 20 → length u ≡ 20 → at + 56 ≤ length l
    → put_at (put_at (put_at l at h) (at + 16) t) (at + 36) u ≡ put_at l at (h ++ t ++ u)
put_three l at h t u p q r fits =
    rw (put-append l at h t (at + 16) (omega arith) (omega arith))
    (put-append l at (h ++ t) u (at + 36) (omega (arith, length-append h t)) (omega arith))

-- written as the fields of an action are, its record is written
pub record-written : (a : CoordinationAction) (f : Fields) (room room' : List ℕ) (at : ℕ) (r : Bool) → f ≡ fields_of a
    → (r ≡ fits_at room at (bytes_of f)) × (room' ≡ written room at (bytes_of f)) → (r ≡ fits_at room at (record_of a)) × (room' ≡ written room at (record_of a))
unfolding record_of
record-written a f room room' at r e w = rw (sym e) w

-- a record written into a room of 56 bytes is all that the room then has
pub written-alone : (a : CoordinationAction) (room : List ℕ) → length room ≡ 56 → written room 0 (record_of a) ≡ record_of a
written-alone a room e =
    let n : length (record_of a) ≡ 56 = length-record a in
    written-fits room 0 (record_of a) (omega arith) ∙ put_whole room (record_of a) (n ∙ sym e)
