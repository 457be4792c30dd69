-- The ways out of a scheduler call that depend on its message: whether its enclave is known, a spent generation; and that no refusal is left.
-- Assumes nothing.
use Rattle.std.specs.Prelude.{None, Some}
use mathlib.Core.Path.{◌≡◌, refl, sym, ap, ◌∙◌}
use mathlib.Core.Bool.{Bool, true, false, ◌&&◌}
use mathlib.Core.List.{List}
use Prim.Native.Nat.{ℕ, ◌+◌, ◌*◌, ◌≤◌}
use native.Mathlib.Omega.{arith}
use lib.Dec.{ltb}
use lib.ListN.{length}
use borrow.Author.Tests.{ltb-true, ltb-false}
use Rattle.tags.specs.Tags.{proper_if_present}
use Rattle.records.specs.declared.Refusal.TheVariants.{GenerationSpent}
use Rattle.records.specs.declared.SchedulerMessage.{SchedulerMessage}
use Rattle.rules.specs.Model.{Given}
use Rattle.rules.specs.Calls.{facts, own_step, knows_all, is_spent}
use Rattle.state.specs.declared.FederateCoordinationState.{FederateCoordinationState as Held}
use Rattle.state.specs.View.{view}
use Rattle.calls.specs.Called.{lent, refusal_of, replied}
use Rattle.calls.specs.declared.Called.{Called}
use Rattle.calls.proofs.Refusals.{refusal-9, refusal-0}
use Rattle.calls.proofs.Standing.{Standing}
use Rattle.calls.proofs.Ends.{Ends, roomy, ends-refused}
use Rattle.dispatch.specs.Messages.{call_of, enclave_of, tag_of}
use Rattle.federate.specs.Places.{place_of}
use Rattle.federate.proofs.Message.{never-wrong, is-silent, message-proper, message-unknown, message-known, Sits, sits}

-- the enclave is known exactly if its place is within the count
pub known_is : (m : SchedulerMessage) (s : Held) → Standing s → (i : ℕ) → i ≡ place_of (enclave_of m) s.enclaves s.count
    → ltb i s.count ≡ knows_all (facts (call_of m)).names (view s).participants
known_is m s st i e = go (ltb i s.count) refl
  where
    go : (b : Bool) → ltb i s.count ≡ b → b ≡ knows_all (facts (call_of m)).names (view s).participants
    go true h = sym (message-known m s i (sits (enclave_of m) s i st.ascends e (ltb-true i s.count h)))
    go false h = sym (message-unknown m s i st.one e (ltb-false i s.count h))

module _ (room : List ℕ) (m : SchedulerMessage) (s : Held) where
  abbrev given : Given
  given = lent (length room) (call_of m)

  module _ (st : Standing s) (wide : 56 * (s.count + 2) ≤ length room) (proper : proper_if_present (tag_of m) ≡ true) where
    module _ (i : ℕ) (place : Sits (enclave_of m) s i) {b : Bool} (e : ((facts (call_of m)).message && is_spent (own_step (call_of m) (view s)).state) ≡ b) where
      -- 9
      pub out-spent : {r : Called} (t : Held) → b ≡ true → t ≡ s → r ≡ replied t (Some GenerationSpent) None 0 → Ends given s r room room
      out-spent t h z q =
          ends-refused given s room (is-silent m (view s)) (Some GenerationSpent)
          (refusal-9 given s st.passing (roomy (call_of m) s (length room) wide) (message-proper m ∙ proper) (message-known m s i place) (never-wrong m (view s)) (e ∙ h)) (omega arith)
          (q ∙ ap (λ (x : Held). replied x (Some GenerationSpent) None 0) z)

      -- taken
      pub open-call : b ≡ false → 0 ≡ refusal_of given s
      open-call h =
          refusal-0 given s st.passing (roomy (call_of m) s (length room) wide) (message-proper m ∙ proper) (message-known m s i place) (never-wrong m (view s)) (e ∙ h)
