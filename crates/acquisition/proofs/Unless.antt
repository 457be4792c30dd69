-- A call that changes nothing past 27 and 8 keeps its promise if it does so there. Assumes nothing.
use Rattle.std.specs.Prelude.{None, Option, Some}
use mathlib.Core.Path.{◌≡◌, refl, sym}
use mathlib.Core.Bool.{Bool, true, false, cond, ◌&&◌}
use mathlib.Core.List.{List}
use Prim.Native.Nat.{ℕ, ◌+◌, ◌*◌, ◌≤◌}
use borrow.Author.Tests.{ltb-true, ltb-false}
use lib.Dec.{ltb}
use lib.ListN.{length}
use Rattle.records.specs.declared.Refusal.{Refusal}
use Rattle.records.specs.declared.Refusal.TheVariants.{UnsoundState, RoomTooSmall}
use Rattle.rules.specs.Model.{Call}
use Rattle.rules.specs.Calls.{facts, is_sound}
use Rattle.state.specs.declared.FederateCoordinationState.{FederateCoordinationState as Held}
use Rattle.state.specs.View.{view, represents}
use Rattle.calls.specs.declared.Called.{Called}
use Rattle.calls.specs.Called.{lent, replied}
use Rattle.calls.proofs.Refusals.{Passes, passes}
use Rattle.calls.proofs.Ends.{Ends, ends-27, ends-8}
use Rattle.acquisition.specs.Unless.{unless_refused}

pub ends-unless : (c : Call) (s : Held) (room : List ℕ) {r : Called} (later : Option Refusal) → (facts c).answer (view s) ≡ None → (facts c).takes_room ≡ true
    → r ≡ unless_refused s (length room) later
    → (Passes s → 56 * (s.count + 2) ≤ length room → r ≡ replied s later None 0 → Ends (lent (length room) c) s r room room)
    → Ends (lent (length room) c) s r room room
ends-unless c s room {r} later silent takes e then = go (represents s && is_sound (view s)) (ltb (length room) (56 * (s.count + 2))) refl refl e
  where
    go : (a b : Bool) → (represents s && is_sound (view s)) ≡ a → ltb (length room) (56 * (s.count + 2)) ≡ b
        → r ≡ replied s (cond a (cond b (Some RoomTooSmall) later) (Some UnsoundState)) None 0 → Ends (lent (length room) c) s r room room
    go true true p q f = ends-8 (lent (length room) c) s room silent (passes s p) takes (ltb-true (length room) (56 * (s.count + 2)) q) f
    go true false p q f = then (passes s p) (ltb-false (length room) (56 * (s.count + 2)) q) f
    go false b p q f = ends-27 (lent (length room) c) s room silent {b = false} (sym p) refl f
