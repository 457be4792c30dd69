-- One event at a place: where a line ends there and is an event, it is the item that a run takes; else there is none. Assumes nothing.
use Rattle.std.specs.Prelude.{None, Option, Some}
use mathlib.Core.Path.{◌≡◌, refl, sym, ap, subst}
use mathlib.Core.Bool.{Bool, true, false, not}
use mathlib.Core.List.{List}
use Prim.Native.Nat.{ℕ}
use lib.Dec.{ltb}
use lib.ListN.{length}
use Rattle.rules.specs.Model.{Call}
use Rattle.state.specs.declared.FederateCoordinationState.{FederateCoordinationState as Held}
use Rattle.events.specs.Events.{event_of}
use Rattle.reader.specs.Lines.{line_at, end_of, next_at}
use Rattle.script.specs.Lines.{Bad, item}
use Rattle.script.proofs.Items.{item-unended, item-none, item-good}
use Rattle.run.specs.declared.Listed.{Listed}
use Rattle.run.specs.declared.Stepped.{Stepped}
use Rattle.run.specs.Promises.{ListsBy, StepsBy}

module _ (script : List ℕ) (at : ℕ) (s : Held) (number written : ℕ) (out : List ℕ) (r : Option Stepped) (same : r ≡ None) where
  none_here : item event_of script at ≡ Bad at → StepsBy (item event_of script at) s number written out out r
  none_here e = subst (λ x. StepsBy x s number written out out r) (sym e) (same, refl)

  pub unended : (ended : Bool) → ended ≡ ltb (end_of script at) (length script) → not ended ≡ true
      → StepsBy (item event_of script at) s number written out out r
  unended ended tells h = none_here (item-unended event_of script at ended tells h)

  pub no-event : None ≡ event_of (line_at script at) → StepsBy (item event_of script at) s number written out out r
  no-event e = none_here (item-none event_of script at (sym e))

module _ (script : List ℕ) (at : ℕ) (s : Held) (number written : ℕ) (out out' : List ℕ) (l : Listed)
    (ended : Bool) (tells : ended ≡ ltb (end_of script at) (length script)) (is : not ended ≡ false) (next : ℕ) (after : next ≡ next_at script at) where
  pub an-event : (c : Call) → event_of (line_at script at) ≡ Some c → ListsBy c s number written out out' l
      → StepsBy (item event_of script at) s number written out out' (Some (record { state = l.state; at = next; written = l.written }))
  an-event c e (state, bytes) =
      subst (λ x. StepsBy x s number written out out' (Some (record { state = l.state; at = next; written = l.written })))
      (sym (item-good event_of script at ended next c tells is after e))
      (ap (λ (x : Listed). Some (record { state = x.state; at = next; written = x.written })) state, bytes)
