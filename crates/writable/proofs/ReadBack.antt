-- The demands of specs/Demands.antt. A state that passes 27 has proper tags and indices up to 4,095, and its cells are of their widths; the rules only
-- choose among these and the call's own; so every action is of its widths with proper tags, and its record reads back. Assumes nothing.
use Rattle.std.specs.Prelude.{None, Option, Some}
use Prim.Native.Nat.{ℕ, zero, suc, ◌+◌, ◌<◌, ◌≤◌}
use mathlib.Core.Path.{◌≡◌, refl}
use mathlib.Core.Bool.{Bool, true, false, ◌&&◌}
use mathlib.Core.List.{List, [], ◌∷◌}
use native.Mathlib.Omega.{arith}
use lib.Dec.{T, eqb, leb→le}
use lib.ListN.{length, drop, get_or}
use mir.Syntax.{w32, w64}
use mir.Val.{Fits}
use mir.Facts.{Fits-lit, Fits-below}
use Rattle.tags.specs.Tags.{is_proper, proper_if_present}
use Rattle.octets.specs.Runs.{put_at}
use Rattle.actions.specs.Record.{fields_of, records_of}
use Rattle.actions.specs.Demands.{FitsTag, FitsOptional, Writable}
use Rattle.actions.proofs.RoundTrip.{read-write-each}
use Rattle.rules.specs.Model.{Tag, OptionalAcquisition, Participant, CoordinationAction, Publish, AdvanceHorizon, Grant, Complete, CompletionProbe, Probe, Park, Recheck, Resume, Stop, Abort, Given}
use Rattle.rules.specs.Actions.{IfAt, IfStored, Made, Seat, Sources}
use Rattle.rules.specs.Calls.{all_proper, facts, is_sound, is_taken, proper_acquisition, proper_participant, take_step}
use Rattle.rules.specs.Demands.{Each}
use Rattle.rules.proofs.Actions.{taken-only-chooses}
use Rattle.rules.proofs.Frame.{if-true}
use Rattle.rules.proofs.Lists.{and_left, and_right, each_map, each-zip}
use Rattle.rules.proofs.Refusal.{taken-passed}
use Rattle.rules.proofs.Sound.{participant-parts, sound-proper-acquisition, sound-proper-horizon, sound-proper-input-horizon, sound-proper-participants}
use Rattle.state.specs.declared.FederateCoordinationState.{FederateCoordinationState as Held}
use Rattle.state.specs.Cells.{is_absent, optional_of, stored_of}
use Rattle.state.specs.View.{view, represents, row_at, rows_of}
use Rattle.state.specs.Walk.{tab}
use Rattle.calls.specs.Called.{lent, refusal_of, is_taken_of, actions_of}
use Rattle.calls.proofs.Refusals.{actions-taken}
use Rattle.writable.specs.Demands.{StateFits, ActionsAreWritable, StepIsWritable, CallReadsBack}

-- ---- a tag and an enclave that can be written

abbrev Fit : Tag → Type 0
Fit t = FitsTag t × T (is_proper t)

abbrev Low : ℕ → Type 0
Low e = e ≤ 4095

both : (m : Option Tag) → FitsOptional m → T (proper_if_present m) → IfAt Fit m
both None h k = tt
both (Some t) h k = (h, k)

both-all : (ts : List (Option Tag)) → Each FitsOptional ts → T (all_proper ts) → Each (IfAt Fit) ts
both-all [] h k = tt
both-all (m ∷ ts) h k =
    (both m h.0 (and_left (proper_if_present m) (all_proper ts) k), both-all ts h.1 (and_right (proper_if_present m) (all_proper ts) k))

-- ---- an action made of such

fits-of : (m : Option Tag) → IfAt Fit m → FitsOptional m
fits-of None h = tt
fits-of (Some t) h = h.0

proper-of : (m : Option Tag) → IfAt Fit m → T (proper_if_present m)
proper-of None h = tt
proper-of (Some t) h = h.1

both_true : (a b : Bool) → T a → T b → (a && b) ≡ true
both_true true true h k = refl
both_true true false h k = absurd k
both_true false b h k = absurd h

proper-both : (m n : Option Tag) → IfAt Fit m → IfAt Fit n → (proper_if_present m && proper_if_present n) ≡ true
proper-both m n h k = both_true (proper_if_present m) (proper_if_present n) (proper-of m h) (proper-of n k)

module _ (a : CoordinationAction) where
  written-by : Fits w32 (fields_of a).enclave → Fits w64 (fields_of a).number → IfAt Fit (fields_of a).first → IfAt Fit (fields_of a).second → Writable a
  written-by e n f g = record {
    widths = record { enclave = e; number = n; first = fits-of (fields_of a).first f; second = fits-of (fields_of a).second g };
    proper = proper-both (fields_of a).first (fields_of a).second f g;
  }

low : (e : ℕ) → Low e → Fits w32 e
low e h = Fits-below tt h

made-writable : (a : CoordinationAction) → Made Fit Low a → Writable a
made-writable (Publish p) m = written-by (Publish p) (Fits-lit tt) (record { fits = m.numbers.0 }) m.tags.0 m.tags.1.0
made-writable (AdvanceHorizon t) m = written-by (AdvanceHorizon t) (Fits-lit tt) (Fits-lit tt) m.tags.0 tt
made-writable (Grant e t) m = written-by (Grant e t) (low e m.enclaves.0) (Fits-lit tt) m.tags.0 tt
made-writable (Complete c) m = written-by (Complete c) (Fits-lit tt) (Fits-lit tt) m.tags.0 tt
made-writable (CompletionProbe e g) m = written-by (CompletionProbe e g) (low e m.enclaves.0) (record { fits = m.numbers.0 }) tt tt
made-writable (Probe r) m = written-by (Probe r) (Fits-lit tt) (record { fits = m.numbers.0 }) tt tt
made-writable (Park r) m = written-by (Park r) (Fits-lit tt) (record { fits = m.numbers.0 }) tt tt
made-writable (Recheck r) m = written-by (Recheck r) (Fits-lit tt) (record { fits = m.numbers.0 }) tt tt
made-writable (Resume e r) m = written-by (Resume e r) (low e m.enclaves.0) (record { fits = m.numbers.0 }) tt tt
made-writable Stop m = written-by Stop (Fits-lit tt) (Fits-lit tt) tt tt
made-writable Abort m = written-by Abort (Fits-lit tt) (Fits-lit tt) tt tt

-- ---- what a state held has to choose from

optional-fits : (t : Tag) → FitsTag t → FitsOptional (optional_of t)
optional-fits t h = if-true FitsOptional (is_absent t) (λ u. tt) (λ u. h)

-- of a cell of the state
cell : (t : Tag) → FitsTag t → T (proper_if_present (optional_of t)) → IfAt Fit (optional_of t)
cell t h = both (optional_of t) (optional-fits t h)

stored-cell : (r : ℕ) (t : Tag) → FitsTag t → T (proper_acquisition (stored_of r t)) → IfStored Fit (stored_of r t)
stored-cell r t h = if-true (λ (a : OptionalAcquisition). T (proper_acquisition a) → IfStored Fit a) (is_absent t) (λ u k. tt) (λ u k. (h, k))

each-tab : {A : Type 0} (Q : A → Type 0) (f : ℕ → A) → ((j : ℕ) → Q (f j)) → (k n : ℕ) → Each Q (tab f k n)
each-tab Q f h k zero = tt
each-tab Q f h k (suc n) = (h k, each-tab Q f h (k + 1) n)

module _ (s : Held) (w : StateFits s) where
  abbrev Wide : Participant → Type 0
  Wide p = FitsOptional p.candidate × FitsOptional p.completed

  rows-wide : Each Wide (rows_of s)
  rows-wide = each-tab Wide (row_at s) (λ j. (optional-fits _ (w.tags j), optional-fits _ (w.tags (32 + j)))) 0 s.count

  seat : (p : Participant) → Wide p → T (proper_participant p) → Seat Fit Low p
  seat p h k =
      let r = participant-parts p k in
      record {
        index = leb→le p.index 4095 r.place;
        candidate = both p.candidate h.0 r.candidate;
        completed = both p.completed h.1 r.completed;
      }

  sources : T (is_sound (view s)) → Sources Fit Low (view s)
  sources h = record {
    seats = each-zip Wide (λ p. T (proper_participant p)) (Seat Fit Low) seat (rows_of s) rows-wide (sound-proper-participants (view s) h);
    horizon = cell s.grant_horizon w.horizon (sound-proper-horizon (view s) h);
    input_horizon = cell s.gate.input_horizon w.input_horizon (sound-proper-input-horizon (view s) h);
    acquisition = stored-cell s.gate.stored_revision s.gate.stored_granted w.stored_granted (sound-proper-acquisition (view s) h);
    revision = w.revision.fits;
  }

-- ---- a call

taken-view : (g : Given) (s : Held) → T (is_taken_of g s) → T (is_taken g (view s))
unfolding refusal_of
taken-view g s = if-true (λ (n : ℕ). T (eqb n 0) → T (is_taken g (view s))) (represents s) (λ u h. h) (λ u h. absurd h)

pub actions-are-writable : ActionsAreWritable
unfolding actions_of
actions-are-writable g s w f = if-true (Each Writable) (is_taken_of g s) (λ u. taken (taken-view g s u)) (λ u. tt)
  where
    taken : T (is_taken g (view s)) → Each Writable (take_step g.what (view s)).actions
    taken u =
        let r = taken-passed g (view s) u in
        each_map (Made Fit Low) Writable made-writable (take_step g.what (view s)).actions
        (taken-only-chooses Fit Low g (view s) (sources s w r.sound) (both-all (facts g.what).tags f r.proper) u).actions

pub step-is-writable : StepIsWritable
step-is-writable room c s e w f = rw (actions-taken (lent room c) s e) at (actions-are-writable (lent room c) s w f)

-- ---- what is read back

each_at : {A : Type 0} (Q : A → Type 0) (xs : List A) (i : ℕ) (other : A) → i < length xs → Each Q xs → Q (get_or xs i other)
each_at Q [] i other h k = absurd (omega arith)
each_at Q (x ∷ xs) zero other h k = k.0
each_at Q (x ∷ xs) (suc i) other h k = each_at Q xs i other (omega arith) k.1

pub call-reads-back : CallReadsBack
unfolding put_at
call-reads-back room c s i other w f h =
    let acts = actions_of (lent (length room) c) s in
    read-write-each acts i other (drop (0 + length (records_of acts)) room) h (each_at Writable acts i other h (actions-are-writable (lent (length room) c) s w f))
