-- The demands of specs/Demands.antt. An action's own fields, read from its record, make the action again, and the reader confirms it; what
-- the reader confirms is a record by its very test; so 28 is given exactly where there is none. Assumes nothing.
use Rattle.std.specs.Prelude.{None, Option, Some, Result, Ok, Err}
use mathlib.Core.Path.{◌≡◌, refl, sym, ap, ◌∙◌}
use mathlib.Core.Bool.{Bool, true, false, cond, ◌&&◌}
use mathlib.Core.List.{List, [], ◌∷◌, ◌++◌, append_assoc}
use mathlib.Core.Logic.{inl, inr}
use Prim.Native.Nat.{ℕ, zero, suc, ◌+◌, ◌*◌, ◌/◌, ◌%◌, ◌<◌, ◌≤◌}
use native.Mathlib.Omega.{arith}
use lib.Dec.{eqb, leb, ltb}
use lib.ListN.{length, take, drop, get_or, length-append, take-append-drop}
use lib.Seq.{take_at, drop_at, drop-drop}
use borrow.Author.Tests.{ltb-true}
use mir.Syntax.{w32, w64}
use mir.Val.{Fits}
use mir.Facts.{Fits-lit, Fits-of_z, sfits_to_z, to_z-of_z}
use Rattle.tags.specs.declared.Tag.{Tag}
use Rattle.records.specs.declared.CoordinationAction.{CoordinationAction}
use Rattle.records.specs.declared.CoordinationAction.TheVariants as action
use Rattle.octets.specs.LittleEndian.{AreBytes, num_at}
use Rattle.octets.specs.Runs.{same_bytes}
use Rattle.octets.proofs.LittleEndian.{unle-le, num-below}
use Rattle.octets.proofs.Runs.{same_refl, same-equal}
use Rattle.actions.specs.Record.{fields, tag_bytes, bytes_of, record_of, records_of, proper_action}
use Rattle.actions.specs.Reading.{enclave_at, tag_at, optional_at, flag_at, publication_at, candidate_of, confirmed, read_action, read_number}
use Rattle.actions.specs.Demands.{FitsTag, FitsOptional, FitsWidths, Writable, ReadWrite, ReadWriteEach, RecordsDiffer, WriteRead, NoRecord, Refused28}
use Rattle.records.specs.declared.Refusal.{Refusal}
use Rattle.records.specs.declared.Refusal.TheVariants.{NoActionRecord}
use Rattle.actions.proofs.Reading.{read_short, read-confirmed}
use Rattle.actions.proofs.Record.{length-record}

-- what is read of a tag's bytes is the tag
tag_back : (t : Tag) → FitsTag t → tag_at (tag_bytes t) 0 ≡ t
tag_back t f =
    rw (
      unle-le 8 _ (Fits-of_z f.seconds).fits,
      unle-le 4 _ (Fits-of_z f.nanoseconds).fits,
      unle-le 8 t.microstep f.microstep.fits,
      to_z-of_z f.seconds,
      to_z-of_z f.nanoseconds,
    )

-- the flags that are read back are those that were written
network-back : (b : Bool) → eqb ((1 + 0 + cond b 4 0) / 4 % 2) 1 ≡ b
network-back true = refl
network-back false = refl

publication-back : (r : ℕ) (m n : Option Tag) (later : List ℕ) → Fits w64 r → FitsOptional m → FitsOptional n
    → publication_at (bytes_of (fields 1 0 r m n false) ++ later) ≡ record { revision = r; next_event = m; grant_horizon = n }
unfolding bytes_of
publication-back r None None later f g h = rw (unle-le 8 r f.fits)
publication-back r None (Some u) later f g h = rw (unle-le 8 r f.fits, tag_back u h)
publication-back r (Some t) None later f g h = rw (unle-le 8 r f.fits, tag_back t g)
publication-back r (Some t) (Some u) later f g h = rw (unle-le 8 r f.fits, tag_back t g, tag_back u h)

-- the candidate of an action's own record is the action
candidate-back : (a : CoordinationAction) (later : List ℕ) → FitsWidths a → candidate_of (get_or (record_of a ++ later) 0 0) (record_of a ++ later) ≡ Some a
unfolding record_of bytes_of
candidate-back (action.Publish p) later f =
    ap (λ q. Some (action.Publish q)) (publication-back p.revision p.next_event p.grant_horizon later f.number f.first f.second)
candidate-back (action.AdvanceHorizon t) later f = rw (tag_back t f.first)
candidate-back (action.Grant e t) later f = rw (unle-le 4 e f.enclave.fits, tag_back t f.first)
candidate-back (action.Complete c) later f = rw (network-back c.network_input, tag_back c.completed f.first)
candidate-back (action.CompletionProbe e g) later f = rw (unle-le 4 e f.enclave.fits, unle-le 8 g f.number.fits)
candidate-back (action.Probe r) later f = rw (unle-le 8 r f.number.fits)
candidate-back (action.Park r) later f = rw (unle-le 8 r f.number.fits)
candidate-back (action.Recheck r) later f = rw (unle-le 8 r f.number.fits)
candidate-back (action.Resume e r) later f = rw (unle-le 4 e f.enclave.fits, unle-le 8 r f.number.fits)
candidate-back action.Stop later f = refl
candidate-back action.Abort later f = refl

pub read-write : ReadWrite
read-write a later w =
    let s = record_of a ++ later in
    let long : 56 ≤ length s = omega (arith, length-append (record_of a) later, length-record a) in
    let same : same_bytes (record_of a) (take 56 s) ≡ true = rw (take_at (record_of a) later 56 (length-record a)) (same_refl (record_of a)) in
    sym (read-confirmed s long a (candidate-back a later w.widths) (rw (same, w.proper)))

-- records before the i-th are 56 bytes each
drop-records : (l : List CoordinationAction) (i : ℕ) (other : CoordinationAction) (later : List ℕ) → i < length l
    → drop (56 * i) (records_of l ++ later) ≡ record_of (get_or l i other) ++ (records_of (drop (suc i) l) ++ later)
unfolding records_of
drop-records [] i other later h = absurd (omega arith)
drop-records (a ∷ l) zero other later h = append_assoc (record_of a) (records_of l) later
drop-records (a ∷ l) (suc i) other later h =
    let s = records_of l ++ later in
    let n : 56 * suc i ≡ 56 + 56 * i = omega arith in
    rw (n, append_assoc (record_of a) (records_of l) later)
    (sym (drop-drop (56 * i) 56 (record_of a ++ s))
    ∙ rw (drop_at (record_of a) s 56 (length-record a)) (drop-records l i other later (omega arith)))

pub read-write-each : ReadWriteEach
read-write-each l i other later h w =
    rw (drop-records l i other later h) (read-write (get_or l i other) (records_of (drop (suc i) l) ++ later) w)

pub records-differ : RecordsDiffer
records-differ a b v w e =
    let p : read_action (record_of a ++ []) ≡ Ok a = read-write a [] v in
    let q : read_action (record_of b ++ []) ≡ Ok b = read-write b [] w in
    cc

-- numbers read from bytes are of their widths
module _ (s : List ℕ) (h : AreBytes s) where
  enclave-fits : Fits w32 (enclave_at s)
  enclave-fits = record { fits = num-below 4 s 4 h }

  number_fits : (at : ℕ) → Fits w64 (num_at 8 s at)
  number_fits at = record { fits = num-below 8 s at h }

  tag_fits : (at : ℕ) → FitsTag (tag_at s at)
  tag_fits at = record {
    seconds = sfits_to_z (number_fits at);
    nanoseconds = sfits_to_z record { fits = num-below 4 s (at + 8) h };
    microstep = number_fits (at + 12);
  }

  optional-fits : (present : Bool) (at : ℕ) → FitsOptional (optional_at present s at)
  optional-fits true at = tag_fits at
  optional-fits false at = tt

  -- the action read is the one of some kind, or that of a later one
  kind_fits : {x a : CoordinationAction} {others : Option CoordinationAction} (here : Bool) → FitsWidths x → (others ≡ Some a → FitsWidths a)
      → cond here (Some x) others ≡ Some a → FitsWidths a
  kind_fits {x} {a} true f g e = let same : x ≡ a = cc in rw same at f
  kind_fits false f g e = g e

  candidate-fits : (kind : ℕ) (a : CoordinationAction) → candidate_of kind s ≡ Some a → FitsWidths a
  candidate-fits kind a =
      kind_fits (eqb kind 1) record { enclave = Fits-lit tt; number = number_fits 8; first = optional-fits (flag_at 1 s) 16; second = optional-fits (flag_at 2 s) 36 }
      (kind_fits (eqb kind 2) record { enclave = Fits-lit tt; number = Fits-lit tt; first = tag_fits 16; second = tt }
      (kind_fits (eqb kind 3) record { enclave = enclave-fits; number = Fits-lit tt; first = tag_fits 16; second = tt }
      (kind_fits (eqb kind 4) record { enclave = Fits-lit tt; number = Fits-lit tt; first = tag_fits 16; second = tt }
      (kind_fits (eqb kind 5) record { enclave = enclave-fits; number = number_fits 8; first = tt; second = tt }
      (kind_fits (eqb kind 6) record { enclave = Fits-lit tt; number = number_fits 8; first = tt; second = tt }
      (kind_fits (eqb kind 7) record { enclave = Fits-lit tt; number = number_fits 8; first = tt; second = tt }
      (kind_fits (eqb kind 8) record { enclave = Fits-lit tt; number = number_fits 8; first = tt; second = tt }
      (kind_fits (eqb kind 9) record { enclave = enclave-fits; number = number_fits 8; first = tt; second = tt }
      (kind_fits (eqb kind 10) record { enclave = Fits-lit tt; number = Fits-lit tt; first = tt; second = tt }
      (kind_fits (eqb kind 11) record { enclave = Fits-lit tt; number = Fits-lit tt; first = tt; second = tt }
      (λ e. cc)))))))))))

-- what the reader's test says of the action that it confirms
confirmed-both : (same proper : Bool) (b a : CoordinationAction)
    → ◌≡◌ {A = Result CoordinationAction Refusal} (cond (same && proper) (Ok b) (Err NoActionRecord)) (Ok a) → (same ≡ true) × (proper ≡ true) × (b ≡ a)
confirmed-both true true b a e = (refl, refl, cc)
confirmed-both true false b a e = cc
confirmed-both false proper b a e = cc

confirmed-is : (s : List ℕ) (found : Option CoordinationAction) (a : CoordinationAction) → confirmed s found ≡ Ok a
    → (found ≡ Some a) × (take 56 s ≡ record_of a) × (proper_action a ≡ true)
unfolding confirmed
confirmed-is s None a e = cc
confirmed-is s (Some b) a e =
    let r = confirmed-both (same_bytes (record_of b) (take 56 s)) (proper_action b) b a e in
    let same : record_of b ≡ take 56 s = same-equal (record_of b) (take 56 s) r.0 in
    (ap Some r.2, sym same ∙ ap record_of r.2, sym (ap proper_action r.2) ∙ r.1)

pub write_read : WriteRead
unfolding read_action
write_read s a h e = long (leb 56 (length s)) e
  where
    long : (b : Bool) → cond b (confirmed s (candidate_of (get_or s 0 0) s)) (Err NoActionRecord) ≡ Ok a → (take 56 s ≡ record_of a) × Writable a
    long true d =
        let r = confirmed-is s (candidate_of (get_or s 0 0) s) a d in
        (r.1, record { widths = candidate-fits s h (get_or s 0 0) a r.0; proper = r.2 })
    long false d = cc

-- bytes that begin with an action's record are read as that action
begins-read : (s : List ℕ) (a : CoordinationAction) → Writable a → take 56 s ≡ record_of a → read_action s ≡ Ok a
begins-read s a w e = ap read_action (sym (take-append-drop 56 s) ∙ ap (λ l. l ++ drop 56 s) e) ∙ read-write a (drop 56 s) w

-- reading refuses with 28 alone
confirmed-28 : (s : List ℕ) (found : Option CoordinationAction) (r : Refusal) → confirmed s found ≡ Err r → r ≡ NoActionRecord
unfolding confirmed
confirmed-28 s None r e = cc
confirmed-28 s (Some b) r e = by (same_bytes (record_of b) (take 56 s) && proper_action b) e
  where
    by : (ok : Bool) → ◌≡◌ {A = Result CoordinationAction Refusal} (cond ok (Ok b) (Err NoActionRecord)) (Err r) → r ≡ NoActionRecord
    by true d = cc
    by false d = cc

read-28 : (s : List ℕ) (r : Refusal) → read_action s ≡ Err r → r ≡ NoActionRecord
unfolding read_action
read-28 s r e = long (leb 56 (length s)) e
  where
    long : (b : Bool) → cond b (confirmed s (candidate_of (get_or s 0 0) s)) (Err NoActionRecord) ≡ Err r → r ≡ NoActionRecord
    long true d = confirmed-28 s (candidate_of (get_or s 0 0) s) r d
    long false d = cc

pub refused-28 : Refused28
refused-28 s h = (refused, none)
  where
    refused : read_number (read_action s) ≡ 28 → NoRecord s
    refused e = short (ltb (length s) 56) refl
      where
        short : (b : Bool) → ltb (length s) 56 ≡ b → NoRecord s
        short true t = inl (ltb-true (length s) 56 t)
        short false t = inr (λ a w r. let n : ◌≡◌ {A = ℕ} 0 28 = sym (ap read_number (begins-read s a w r)) ∙ e in omega arith)

    none : NoRecord s → read_number (read_action s) ≡ 28
    none (inl short) = ap read_number (sym (read_short s short))
    none (inr other) = found (read_action s) refl
      where
        found : (r : Result CoordinationAction Refusal) → read_action s ≡ r → read_number r ≡ 28
        found (Err r) e = ap (λ x. read_number (Err x)) (read-28 s r e)
        found (Ok a) e = let w = write_read s a h e in absurd (other a w.1 w.0)
