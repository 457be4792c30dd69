-- What the steps of the reading come to, on plain values: a bad line ends what is read, and a good one is followed by the rest. Assumes nothing.
use Rattle.std.specs.Prelude.{Result, Ok, Err}
use mathlib.Core.Path.{◌≡◌, refl, sym, ap, ◌∙◌}
use mathlib.Core.Bool.{Bool, true, false, cond}
use mathlib.Core.List.{List}
use Prim.Native.Nat.{ℕ, ◌+◌, ◌≤◌, ◌<◌, min}
use native.Mathlib.Nat.{zero-add}
use native.Mathlib.Omega.{arith}
use borrow.Author.Tests.{lt-ltb, le-ltb, eq-eqb, ne_eqb}
use lib.Dec.{eqb}
use lib.ListN.{length, replicate}
use lib.Seq.{sets}
use Rattle.records.specs.declared.Refusal.TheVariants.{ScriptTooLong}
use Rattle.rules.specs.Model.{LifecyclePolicy, Call}
use Rattle.events.specs.Events.{event_of}
use Rattle.script.specs.declared.BadScript.{BadScript}
use Rattle.script.specs.declared.Participants.{Participants}
use Rattle.script.specs.declared.ReadScript.{ReadScript}
use Rattle.script.specs.Lines.{Reading, Bad, Good, and_then, item, items}
use Rattle.script.specs.Script.{Script, ended, events_of, counted_events, settings_and_events_of, script_of}
use Rattle.script.specs.Read.{bad_line, answered, read_script_of}
use Rattle.script.specs.Told.{read_of, passed_of, gathered, Kept}
use Rattle.script.proofs.Items.{items-length}
use Rattle.script.proofs.Turns.{sets-padded}

-- ---- a bad line, and what it ends

pub read-bad : {X Y : Type 0} (r : Reading X) (f : X → ℕ → Reading Y) (e : BadScript) → Err e ≡ read_of r → Err e ≡ read_of (and_then r f)
read-bad (Bad p) f e h = cc
read-bad (Good x p) f e h = let z : ◌≡◌ {A = ℕ} 0 1 = cc in absurd (omega arith)

pub answered-bad : {X : Type 0} (r : Reading X) (f : X → ℕ → Reading Script) (e : BadScript) → Err e ≡ read_of r → Err e ≡ answered (and_then r f)
unfolding answered
answered-bad (Bad p) f e h = cc
answered-bad (Good x p) f e h = let z : ◌≡◌ {A = ℕ} 0 1 = cc in absurd (omega arith)

-- ---- the events

module _ (bytes : List ℕ) (count first : ℕ) where
  abbrev by_end : List Call → ℕ → Reading ℕ
  by_end events last = cond (eqb last (length bytes)) (Good count first) (Bad last)

  pub events-bad : (r : Reading (List Call)) (e : BadScript) → Err e ≡ passed_of r → Err e ≡ read_of (and_then r by_end)
  events-bad (Bad p) e h = cc
  events-bad (Good events p) e h = let z : ◌≡◌ {A = ℕ} 0 1 = cc in absurd (omega arith)

  pub events-followed : (r : Reading (List Call)) (last : ℕ) → Ok last ≡ passed_of r → (last ≡ length bytes → ⊥) → Err (bad_line last) ≡ read_of (and_then r by_end)
  events-followed (Bad p) last h d = let z : ◌≡◌ {A = ℕ} 0 1 = cc in absurd (omega arith)
  events-followed (Good events p) last h d = let z : p ≡ last = cc in rw (z, ne_eqb last (length bytes) d) refl

  pub events-counted : (r : Reading (List Call)) (last : ℕ) → Ok last ≡ passed_of r → last ≡ length bytes → Ok (count, first) ≡ read_of (and_then r by_end)
  events-counted (Bad p) last h d = let z : ◌≡◌ {A = ℕ} 0 1 = cc in absurd (omega arith)
  events-counted (Good events p) last h d = let z : p ≡ last = cc in rw (z, eq-eqb last (length bytes) d) refl

-- a script by how many events it has and the place of the first
abbrev pub told_by : Participants → LifecyclePolicy → ℕ → ℕ → Result (ℕ × ℕ) BadScript → Result ReadScript BadScript
told_by p policy revision generation (Err e) = Err e
told_by p policy revision generation (Ok (n, first)) =
    Ok (record { participants = p; policy = policy; revision = revision; generation = generation; events_at = first; events = n })

module _ (bytes ps : List ℕ) (policy : LifecyclePolicy) (revision generation at : ℕ) where
  abbrev full : ℕ → List Call → Script
  full first events = record { participants = ps; policy = policy; revision = revision; generation = generation; events_at = first; events = events }

  pub script-told : (p : Participants) → Kept ps p → told_by p policy revision generation (read_of (counted_events bytes at)) ≡ answered (events_of bytes ps policy revision generation at)
  unfolding answered
  script-told p kept = by-count (item _ bytes at)
    where
      by-end : (n first : ℕ) (events : List Call) (last : ℕ) (t : Bool) → length events ≡ n
          → told_by p policy revision generation (read_of (cond t (Good n first) (Bad last))) ≡ answered (cond t (Good (full first events) last) (Bad last))
      by-end n first events last true e = rw (e, sym kept.0, sym kept.1) refl
      by-end n first events last false e = refl

      by-events : (n first : ℕ) (r : Reading (List Call)) → items n event_of bytes first ≡ r
          → told_by p policy revision generation (read_of (and_then r (by_end bytes n first))) ≡ answered (and_then r (λ events last. ended bytes (full first events) last))
      by-events n first (Bad place) i = refl
      by-events n first (Good events last) i = by-end n first events last (eqb last (length bytes)) (items-length event_of bytes n first events last i)

      by-count : (r : Reading ℕ) → told_by p policy revision generation (read_of (and_then r (λ n first. and_then (items n event_of bytes first) (by_end bytes n first))))
          ≡ answered (and_then r (λ n first. and_then (items n event_of bytes first) (λ events last. ended bytes (full first events) last)))
      by-count (Bad place) = refl
      by-count (Good n first) = by-events n first (items n event_of bytes first) refl

-- ---- the participants, and the whole

module _ (bytes : List ℕ) where
  pub script-long : 65536 < length bytes → Err (record { refusal = ScriptTooLong; place = 0 }) ≡ read_script_of bytes
  unfolding read_script_of
  script-long h = rw (lt-ltb 65536 (length bytes) h) refl

  pub script-short : length bytes ≤ 65536 → read_script_of bytes ≡ answered (script_of bytes)
  unfolding read_script_of
  script-short h = rw (le-ltb 65536 (length bytes) h) refl

  -- the script that what is read of the participants makes
  abbrev onward : Reading (List ℕ) → Reading Script
  onward r = and_then r (λ ps next. settings_and_events_of bytes ps next)

  pub participants-bad : (r : Reading (List ℕ)) (e : BadScript) → Err e ≡ gathered (replicate 33 0) 0 r → Err e ≡ answered (onward r)
  unfolding answered
  participants-bad (Bad p) e h = cc
  participants-bad (Good ps p) e h = let z : ◌≡◌ {A = ℕ} 0 1 = cc in absurd (omega arith)

  pub participants-read : (r : Reading (List ℕ)) (p : Participants) (next : ℕ) (result : Result ReadScript BadScript)
      → Ok (p, next) ≡ gathered (replicate 33 0) 0 r
      → ((ps : List ℕ) → Kept ps p → result ≡ answered (settings_and_events_of bytes ps next)) → result ≡ answered (onward r)
  participants-read (Bad q) p next result e f = let z : ◌≡◌ {A = ℕ} 0 1 = cc in absurd (omega arith)
  participants-read (Good ps q) p next result e f =
      let all : Participants = record { indices = sets (replicate 33 0) 0 ps; count = min 33 (0 + length ps) } in
      let same : ◌≡◌ {A = Participants × ℕ} (p, next) (all, q) = cc in
      let z : q ≡ next = sym (ap (λ x. x.1) same) in
      let i : p ≡ all = ap (λ x. x.0) same in
      rw z (f ps (ap (λ x. x.indices) i ∙ sets-padded 33 ps, ap (λ x. x.count) i ∙ ap (min 33) (zero-add (length ps))))
