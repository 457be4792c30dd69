-- The lines of records that stand one right after the other, one record at a time as the code reads them; and of the records of a list of
-- actions they are the lines of those actions. Assumes nothing.
use mathlib.Core.Path.{◌≡◌, refl, sym, ap}
use mathlib.Core.List.{List, [], ◌∷◌, ◌++◌, append_assoc, append-nil}
use Prim.Native.Nat.{ℕ, zero, suc, ◌+◌, ◌-◌, ◌*◌, ◌≤◌, ◌<◌}
use native.Mathlib.Omega.{arith}
use native.Mathlib.Numerals.{add-one}
use lib.ListN.{length, take, drop, length-drop, drop_of_length-le}
use lib.Seq.{take_all, drop_at, drop-drop}
use Rattle.rules.specs.Model.{CoordinationAction}
use Rattle.rules.specs.Demands.{Each}
use Rattle.actions.specs.Record.{record_of, records_of}
use Rattle.actions.specs.Reading.{read_action}
use Rattle.std.specs.Prelude.{Err}
use Rattle.records.specs.declared.Refusal.TheVariants.{NoActionRecord}
use Rattle.actions.specs.Demands.{Writable}
use Rattle.printing.specs.Runs.{Puts}
use Rattle.actions.proofs.Record.{length-record}
use Rattle.actions.proofs.RoundTrip.{read-write}
use Rattle.printing.proofs.Runs.{then-more, at_most}
use Rattle.listing.specs.Listing.{action_lines}
use Rattle.listing.specs.Records.{record_line, record_lines}

-- what is read of the bytes from one on: of the part that the code lends, and past the last byte
pub part-read : (s : List ℕ) (from : ℕ) → read_action (take (length s - from) (drop from s)) ≡ read_action (drop from s)
part-read s from = ap read_action (take_all (length s - from) (drop from s) (omega (arith, length-drop from s)))

pub past-read : (s : List ℕ) (from : ℕ) → length s < from → read_action (drop from s) ≡ Err NoActionRecord
unfolding read_action
past-read s from h = let past : length s ≤ from = omega arith in rw (drop_of_length-le s past)

-- one record more
lines_next : (i : ℕ) (s : List ℕ) → record_lines (suc i) s ≡ record_lines i s ++ record_line (read_action (drop (56 * i) s))
unfolding record_lines
lines_next zero s = append-nil (record_line (read_action s))
lines_next (suc i) s =
    let first = record_line (read_action s) in
    let n : 56 * suc i ≡ 56 + 56 * i = omega arith in
    rw (n, lines_next i (drop 56 s), drop-drop (56 * i) 56 s) (sym (append_assoc first (record_lines i (drop 56 s)) _))

pub then-record : {l m k : List ℕ} {at n j : ℕ} (i : ℕ) (s : List ℕ)
    → Puts l at (record_lines i s) (160 * i) n m → Puts m n (record_line (read_action (drop (56 * i) s))) 160 j k → j ≤ length l
    → Puts l at (record_lines (i + 1) s) (160 * (i + 1)) j k
then-record i s p q h = rw (add-one i, lines_next i s) (at_most (then-more p q h) (omega arith))

pub record-lines : (l : List CoordinationAction) (later : List ℕ) → Each Writable l → record_lines (length l) (records_of l ++ later) ≡ action_lines l
unfolding record_lines records_of action_lines
record-lines [] later w = refl
record-lines (a ∷ l) later (w, ws) =
    let s = records_of l ++ later in
    rw (append_assoc (record_of a) (records_of l) later, read-write a s w, drop_at (record_of a) s 56 (length-record a), record-lines l later ws)
