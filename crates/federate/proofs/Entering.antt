-- The way into a scheduler call: past 27, 8, 7 and 3 its enclave has a place; what is refused before promises that refusal. Assumes nothing.
use Rattle.std.specs.Prelude.{None, Option, Some, Ok, Err}
use mathlib.Core.Path.{◌≡◌, refl, sym, ap, ◌∙◌}
use mathlib.Core.Bool.{Bool, true, false, cond, ◌&&◌}
use mathlib.Core.List.{List}
use Prim.Native.Nat.{ℕ, ◌+◌, ◌*◌, ◌≤◌, ◌<◌}
use native.Mathlib.Omega.{arith}
use lib.Dec.{ltb}
use lib.ListN.{length}
use borrow.Author.Tests.{ltb-true}
use Rattle.tags.specs.Tags.{proper_if_present}
use Rattle.records.specs.declared.Refusal.{Refusal}
use Rattle.records.specs.declared.Refusal.TheVariants.{UnsoundState}
use Rattle.records.specs.declared.SchedulerMessage.{SchedulerMessage}
use Rattle.rules.specs.Model.{Given}
use Rattle.rules.specs.Calls.{is_sound}
use Rattle.state.specs.declared.FederateCoordinationState.{FederateCoordinationState as Held}
use Rattle.state.specs.View.{view, represents}
use Rattle.state.specs.Parts.{Sized}
use Rattle.calls.specs.Called.{lent, replied}
use Rattle.calls.specs.declared.Called.{Called}
use Rattle.calls.proofs.Refusals.{refuses}
use Rattle.calls.proofs.Standing.{Standing, standing}
use Rattle.calls.proofs.Ends.{Ends, First, ends-27, ends-first, first-none}
use Rattle.dispatch.specs.Messages.{call_of, enclave_of, tag_of}
use Rattle.federate.specs.Places.{place_of, place_for, refused_at, unless}
use Rattle.federate.proofs.Message.{takes-room, is-silent, message-proper, sits, Sits}
use Rattle.federate.proofs.Refusing.{known_is}

-- the enclave stands at place i, and 27, 8, 7 and 3 are passed
pub record Enters (room : List ℕ) (m : SchedulerMessage) (s : Held) (i : ℕ) : Type 0 where
  pub stands : Standing s
  pub wide : 56 * (s.count + 2) ≤ length room
  pub proper : proper_if_present (tag_of m) ≡ true
  pub place : Sits (enclave_of m) s i

pub near : (room : List ℕ) (m : SchedulerMessage) (s : Held) (i : ℕ) → Enters room m s i → i < 32
near room m s i n = let l = n.place.seat.within in let k = n.stands.few in omega arith

module _ (room : List ℕ) (m : SchedulerMessage) (s : Held) (z : Sized s) where
  abbrev given : Given
  given = lent (length room) (call_of m)

  abbrev place : ℕ
  place = place_of (enclave_of m) s.enclaves s.count

  abbrev refused : Option Refusal
  refused = refused_at (length room) m s place

  first : Standing s → (o : Option Refusal) → refused ≡ o → First given s (proper_if_present (tag_of m)) (ltb place s.count) o
  first st o e = record { takes = takes-room m; proper = sym (message-proper m); known = known_is m s st place refl; is = sym e }

  pub enters : (i : ℕ) → Ok i ≡ place_for (length room) m s → Enters room m s i
  enters i = go (represents s && is_sound (view s)) refl
    where
      by : Standing s → (o : Option Refusal) → refused ≡ o → Ok i ≡ unless o place → Enters room m s i
      by st None e q =
          let n = first-none given s (first st None e) refl in
          let i-is : i ≡ place = cc in
          record { stands = st; wide = n.0; proper = n.1; place = sits (enclave_of m) s i st.ascends i-is (rw i-is (ltb-true place s.count n.2)) }
      by st (Some x) e q = absurd cc

      go : (b : Bool) → (represents s && is_sound (view s)) ≡ b → Ok i ≡ cond b (unless refused place) (Err UnsoundState) → Enters room m s i
      go false h q = absurd cc
      go true h q = by (standing s z refl h) refused refl q

  pub out-first : (x : Refusal) → Err x ≡ place_for (length room) m s → (r : Called) → r ≡ replied s (Some x) None 0 → Ends given s r room room
  out-first x p r out = go (represents s && is_sound (view s)) refl p
    where
      by : Standing s → (o : Option Refusal) → refused ≡ o → Err x ≡ unless o place → Ends given s r room room
      by st None e q = absurd cc
      by st (Some y) e q =
          let x-is : x ≡ y = cc in
          ends-first given s (first st (Some y) e) room (is-silent m (view s)) st.passing (λ l. let k = refuses (Some y) refl in omega arith)
          (out ∙ ap (λ (w : Refusal). replied s (Some w) None 0) x-is)

      go : (b : Bool) → (represents s && is_sound (view s)) ≡ b → Err x ≡ cond b (unless refused place) (Err UnsoundState) → Ends given s r room room
      go false h q =
          let x-is : x ≡ UnsoundState = cc in
          ends-27 given s room (is-silent m (view s)) refl h (out ∙ ap (λ (w : Refusal). replied s (Some w) None 0) x-is)
      go true h q = by (standing s z refl h) refused refl q
