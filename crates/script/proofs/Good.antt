-- The events of a good script are the items from the place that it gives on, as many as it has, up to its end: what a run reads again. Assumes nothing.
use mathlib.Core.Path.{◌≡◌, refl, subst}
use mathlib.Core.Bool.{Bool, true, false, cond}
use mathlib.Core.List.{List}
use Prim.Native.Nat.{ℕ, ◌-◌, ◌^◌}
use borrow.Author.Tests.{eqb-true}
use lib.Dec.{eqb}
use lib.ListN.{length}
use Rattle.rules.specs.Model.{LifecyclePolicy}
use Rattle.numerals.specs.Numerals.{text}
use Rattle.events.specs.Events.{word_of, wide_of, event_of}
use Rattle.script.specs.Lines.{Reading, Bad, Good, and_then, item, items}
use Rattle.script.specs.Script.{Script, header_of, settings_of, policy_of, events_of, settings_and_events_of, script_of}
use Rattle.script.proofs.Items.{items-length}

-- what is read, if it is good, is so
abbrev IfGood : {X : Type 0} → (X → ℕ → Type 0) → Reading X → Type 0
IfGood P (Bad place) = Unit {0}
IfGood P (Good x next) = P x next

then-good : {X Y : Type 0} (P : Y → ℕ → Type 0) (r : Reading X) (f : X → ℕ → Reading Y)
    → ((x : X) (next : ℕ) → r ≡ Good x next → IfGood P (f x next)) → IfGood P (and_then r f)
then-good P (Bad place) f h = tt
then-good P (Good x next) f h = h x next refl

-- what a run reads again
pub record ReadsAgain (bytes : List ℕ) (script : Script) (last : ℕ) : Type 0 where
  pub reads : items (length script.events) event_of bytes script.events_at ≡ Good script.events last
  pub ends : last ≡ length bytes

module _ (bytes : List ℕ) where
  abbrev Again : Script → ℕ → Type 0
  Again = ReadsAgain bytes

  events-good : (ps : List ℕ) (policy : LifecyclePolicy) (revision generation at : ℕ) → IfGood Again (events_of bytes ps policy revision generation at)
  events-good ps policy revision generation at =
      then-good Again (item (header_of (text "events") 4096) bytes at) _ (λ count first i.
      then-good Again (items count event_of bytes first) _ (λ events last j.
      by (record { participants = ps; policy = policy; revision = revision; generation = generation; events_at = first; events = events })
      last (eqb last (length bytes)) refl (rw (items-length event_of bytes count first events last j) j)))
    where
      by : (script : Script) (last : ℕ) (t : Bool) → eqb last (length bytes) ≡ t
          → items (length script.events) event_of bytes script.events_at ≡ Good script.events last → IfGood Again (cond t (Good script last) (Bad last))
      by script last true p r = record { reads = r; ends = eqb-true last (length bytes) p }
      by script last false p r = tt

  settings-good : (ps : List ℕ) (at : ℕ) → IfGood Again (settings_and_events_of bytes ps at)
  settings-good ps at =
      then-good Again (item settings_of bytes at) _ (λ three second i.
      then-good Again (item policy_of bytes second) _ (λ policy third j.
      then-good Again (item wide_of bytes third) _ (λ revision fourth k.
      then-good Again (item wide_of bytes fourth) _ (λ generation fifth l.
      events-good ps policy revision generation fifth))))

  script-good : IfGood Again (script_of bytes)
  unfolding script_of
  script-good =
      then-good Again (item (header_of (text "participants") (2 ^ 32 - 1)) bytes 0) _ (λ count first i.
      then-good Again (items count word_of bytes first) _ (λ ps next j.
      settings-good ps next))

  pub good-script-reads-again : (script : Script) (last : ℕ) → script_of bytes ≡ Good script last → ReadsAgain bytes script last
  good-script-reads-again script last e = subst (IfGood Again) e script-good
