-- A script opened, and the two lines that a run lists besides its events. Of the participants read the first 33 are kept: where there are at most 32 these
-- are all of them, and where there are more both they and all of them are refused 5. So the opening of those kept is the opening of all. Assumes nothing.
use Rattle.std.specs.Prelude.{None, Option, Some, Result, Ok, Err}
use Rattle.tags.specs.declared.Tag.{Tag}
use mathlib.Core.Path.{◌≡◌, refl, sym, ap, ◌∙◌, subst}
use mathlib.Core.Bool.{Bool, true, false, cond, ◌&&◌}
use mathlib.Core.List.{List, []}
use Prim.Native.Nat.{ℕ, ◌≤◌, ◌<◌, min}
use native.Mathlib.Omega.{arith}
use native.Mathlib.Nat.{min-le_left, min-eq_left, min-eq_right}
use borrow.Author.Tests.{le-ltb}
use lib.ListN.{length, take}
use lib.Seq.{length-take-le}
use Rattle.records.specs.Numbers.{refusal_number}
use Rattle.records.specs.declared.Refusal.TheVariants.{ScriptTooLong}
use Rattle.rules.specs.Model.{CoordinationPhase, Active, LifecyclePolicy}
use Rattle.rules.specs.Opening.{opening_refusal}
use Rattle.rules.specs.Calls.{is_sound}
use Rattle.rules.specs.Queries.{is_settled}
use Rattle.state.specs.declared.FederateCoordinationState.{FederateCoordinationState as Held}
use Rattle.state.specs.View.{view, represents}
use Rattle.opening.specs.declared.Opened.{Opened as Made}
use Rattle.opening.specs.Opened.{blank, opened_held, Opens}
use Rattle.opening.proofs.Laid.{opening-5}
use Rattle.numerals.proofs.Splits.{by_order}
use Rattle.events.specs.Told.{padded}
use Rattle.eventlines.proofs.Listed.{length-padded, take-padded}
use Rattle.printing.specs.Runs.{Puts}
use Rattle.listing.specs.Listing.{end_line}
use Rattle.script.specs.declared.BadScript.{BadScript}
use Rattle.script.specs.declared.ReadScript.{ReadScript}
use Rattle.script.specs.Lines.{Reading, Bad, Good}
use Rattle.script.specs.Script.{Script, script_of}
use Rattle.script.specs.Read.{bad_line, answered, read_script_of}
use Rattle.run.specs.declared.Running.{Running}
use Rattle.session.specs.declared.Opened.{Opened}
use Rattle.session.specs.Open.{is_too_long, form_refusal, form_place, nowhere, start_by, script_refusal, script_place, start_of, OpensScript}
use Rattle.session.specs.Listing.{last_line, Lists}

-- ---- the participants kept, and the opening of them

abbrev kept : List ℕ → List ℕ
kept es = take (min 33 (length es)) (padded 33 es)

kept-few : (es : List ℕ) → length es ≤ 32 → kept es ≡ es
kept-few es few =
    let all : min 33 (length es) ≡ length es = min-eq_right (omega arith) in
    ap (λ n. take n (padded 33 es)) all ∙ take-padded 33 es (omega arith)

kept-many : (es : List ℕ) → 32 < length es → 32 < length (kept es)
kept-many es many =
    let most : min 33 (length es) ≡ 33 = min-eq_left (omega arith) in
    let all : length (kept es) ≡ min 33 (length es) = length-take-le (min 33 (length es)) (padded 33 es) (omega (arith, length-padded 33 es)) in
    omega arith

refusal-kept : (es : List ℕ) → opening_refusal (kept es) ≡ opening_refusal es
refusal-kept es =
    by_order (length es) 32 (λ few. ap opening_refusal (kept-few es few)) (λ many. sym (opening-5 (kept es) (kept-many es many)) ∙ opening-5 es many)

module _ (policy : LifecyclePolicy) (revision generation : ℕ) where
  held-many : (es : List ℕ) → 32 < length es → opened_held es policy revision generation ≡ blank 0
  unfolding opened_held
  held-many es many = rw (sym (opening-5 es many)) refl

  held_kept : (es : List ℕ) → opened_held (kept es) policy revision generation ≡ opened_held es policy revision generation
  held_kept es =
      by_order (length es) 32
      (λ few. ap (λ l. opened_held l policy revision generation) (kept-few es few))
      (λ many. held-many (kept es) (kept-many es many) ∙ sym (held-many es many))

-- ---- what the reading answers, by whether the script is too long and by its form

abbrev reading : Bool → Reading Script → Result ReadScript BadScript
reading long form = cond long (Err (record { refusal = ScriptTooLong; place = 0 })) (answered form)

abbrev all_of : Script → ReadScript
all_of s = record {
  participants = record { indices = padded 33 s.participants; count = min 33 (length s.participants) };
  policy = s.policy;
  revision = s.revision;
  generation = s.generation;
  events_at = s.events_at;
  events = length s.events;
}

abbrev lent : ReadScript → List ℕ
lent r = take r.participants.count r.participants.indices

counts : (long : Bool) (form : Reading Script) (r : ReadScript) → Ok r ≡ reading long form → r.participants.count ≤ length r.participants.indices
unfolding answered
counts true form r e = let z : ◌≡◌ {A = ℕ} 0 1 = cc in absurd (omega arith)
counts false (Bad place) r e = let z : ◌≡◌ {A = ℕ} 0 1 = cc in absurd (omega arith)
counts false (Good s last) r e =
    let is : r ≡ all_of s = cc in
    rw is (omega (arith, length-padded 33 s.participants, min-le_left 33 (length s.participants)))

-- so many of the places are there to lend
pub length-lent : (bytes : List ℕ) (r : ReadScript) → Ok r ≡ read_script_of bytes → r.participants.count ≡ length (lent r)
unfolding read_script_of
length-lent bytes r e = sym (length-take-le r.participants.count r.participants.indices (counts (is_too_long bytes) (script_of bytes) r e))

-- ---- the script opened, likewise

record OpensBy (long : Bool) (form : Reading Script) (x : Opened) : Type 0 where
  refusal : refusal_number x.refusal ≡ cond long 12 (form_refusal form)
  place : x.place ≡ cond long 0 (form_place form)
  start : x.start ≡ cond long nowhere (start_by form)

opens : (bytes : List ℕ) (x : Opened) → OpensBy (is_too_long bytes) (script_of bytes) x → OpensScript bytes x
unfolding script_refusal script_place start_of
opens bytes x o = record { refusal = o.refusal; place = o.place; start = o.start }

abbrev refused_of : BadScript → Opened
refused_of b = record { refusal = Some b.refusal; place = b.place; start = nowhere }

refused-by : (long : Bool) (form : Reading Script) (b : BadScript) → Err b ≡ reading long form → OpensBy long form (refused_of b)
unfolding answered
refused-by true form b e =
    let is : b ≡ record { refusal = ScriptTooLong; place = 0 } = cc in rw is (record { refusal = refl; place = refl; start = refl })
refused-by false (Bad place) b e = let is : b ≡ bad_line place = cc in rw is (record { refusal = refl; place = refl; start = refl })
refused-by false (Good s last) b e = let z : ◌≡◌ {A = ℕ} 0 1 = cc in absurd (omega arith)

-- 12, or 11 at its place
pub opens-refused : (bytes : List ℕ) (b : BadScript) (start : Running) → Err b ≡ read_script_of bytes → start ≡ nowhere
    → OpensScript bytes (record { refusal = Some b.refusal; place = b.place; start = start })
unfolding read_script_of
opens-refused bytes b start e n = rw n (opens bytes (refused_of b) (refused-by (is_too_long bytes) (script_of bytes) b e))

abbrev opened_of : ReadScript → Made → Opened
opened_of r made =
    record { refusal = made.refusal; place = 0; start = record { state = made.state; at = r.events_at; events = r.events; left = r.events } }

abbrev OpensRead : ReadScript → Made → Type 0
OpensRead r made = Opens (lent r) r.policy r.revision r.generation made

made-by : (s : Script) (last : ℕ) (made : Made) → OpensRead (all_of s) made → OpensBy false (Good s last) (opened_of (all_of s) made)
made-by s last made o = record {
  refusal = o.refusal ∙ refusal-kept s.participants;
  place = refl;
  start =
      ap (λ h. record { state = h; at = s.events_at; events = length s.events; left = length s.events })
      (o.state ∙ held_kept s.policy s.revision s.generation s.participants);
}

opened-by : (long : Bool) (form : Reading Script) (r : ReadScript) (made : Made) → Ok r ≡ reading long form → OpensRead r made
    → OpensBy long form (opened_of r made)
unfolding answered
opened-by true form r made e o = let z : ◌≡◌ {A = ℕ} 0 1 = cc in absurd (omega arith)
opened-by false (Bad place) r made e o = let z : ◌≡◌ {A = ℕ} 0 1 = cc in absurd (omega arith)
opened-by false (Good s last) r made e o =
    let is : r ≡ all_of s = cc in
    subst (λ y. OpensBy false (Good s last) (opened_of y made)) (sym is) (made-by s last made (subst (λ y. OpensRead y made) is o))

-- as the opening
pub opens-made : (bytes : List ℕ) (r : ReadScript) (made : Made) → Ok r ≡ read_script_of bytes → OpensRead r made
    → OpensScript bytes (opened_of r made)
unfolding read_script_of
opens-made bytes r made e o = opens bytes (opened_of r made) (opened-by (is_too_long bytes) (script_of bytes) r made e o)

-- ---- one line from byte 0 on

pub lists-line : {most n : ℕ} {line put room after : List ℕ} → most ≤ length room → Puts room 0 put most n after → put ≡ line → Lists most line room after n
lists-line {most} {n} {line} {put} {room} h p e =
    rw (← e)
    record { written = rw (le-ltb (length room) most h) (omega (arith, p.after)); bytes = rw (le-ltb (length room) most h) p.bytes }

-- the last line, of a state that 27 refuses and of one that it takes
pub end_refused : (s : Held) → (represents s && is_sound (view s)) ≡ false → end_line 0 Active 0 None None false ≡ last_line s
unfolding last_line
end_refused s h = rw h refl

pub end-told : (s : Held) {phase : CoordinationPhase} {frontier horizon : Option Tag} {settled : Bool} → (represents s && is_sound (view s)) ≡ true
    → phase ≡ (view s).phase → frontier ≡ (view s).completed_frontier → horizon ≡ (view s).grant_horizon → settled ≡ is_settled (view s)
    → end_line s.coordination.revision phase s.completion.completion_generation frontier horizon settled ≡ last_line s
unfolding last_line
end-told s h b d e f = rw (h, b, d, e, f) refl

-- ---- an opening of nobody

pub nobody-blank : (policy : LifecyclePolicy) (revision generation : ℕ) → opened_held [] policy revision generation ≡ blank 0
unfolding opened_held opening_refusal
nobody-blank policy revision generation = refl
