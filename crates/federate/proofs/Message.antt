-- What a scheduler message is to the rules, by its cases, and where its enclave stands. Assumes nothing.
use Rattle.std.specs.Prelude.{None, Option, Some}
use mathlib.Core.Path.{◌≡◌, refl, sym, ◌∙◌}
use mathlib.Core.Bool.{Bool, true, false, ◌&&◌}
use mathlib.Core.List.{List}
use Prim.Native.Nat.{ℕ, ◌≤◌, ◌<◌}
use native.Mathlib.Omega.{arith}
use borrow.Author.Tests.{eqb-true}
use lib.Dec.{T}
use lib.ListN.{get_or}
use Rattle.tags.specs.Tags.{proper_if_present}
use Rattle.records.specs.declared.SchedulerMessage.{SchedulerMessage}
use Rattle.records.specs.declared.SchedulerMessage.TheVariants as message
use Rattle.rules.specs.Model.{Participant, State}
use Rattle.rules.specs.Walk.{knows}
use Rattle.rules.specs.Calls.{facts, all_proper, knows_all, ascending}
use Rattle.state.specs.declared.FederateCoordinationState.{FederateCoordinationState as Held}
use Rattle.state.specs.View.{rows_of}
use Rattle.state.specs.Parts.{Seated}
use Rattle.state.proofs.Rows.{seated, first-seated, known, unknown-knows}
use Rattle.dispatch.specs.Messages.{call_of, enclave_of, tag_of, Names}
use Rattle.federate.specs.Places.{place_of}

-- ---- every message is one, takes room, is never wrong and says nothing

pub is-message : (m : SchedulerMessage) → (facts (call_of m)).message ≡ true
is-message (message.Active e) = refl
is-message (message.Publish e c) = refl
is-message (message.CompleteTag e t n) = refl
is-message (message.CompletionObserved e g) = refl
is-message (message.ParticipantStopped e) = refl
is-message (message.Failed e) = refl

pub takes-room : (m : SchedulerMessage) → (facts (call_of m)).takes_room ≡ true
takes-room (message.Active e) = refl
takes-room (message.Publish e c) = refl
takes-room (message.CompleteTag e t n) = refl
takes-room (message.CompletionObserved e g) = refl
takes-room (message.ParticipantStopped e) = refl
takes-room (message.Failed e) = refl

pub never-wrong : (m : SchedulerMessage) (s : State) → (facts (call_of m)).wrong_in s ≡ false
never-wrong (message.Active e) s = refl
never-wrong (message.Publish e c) s = refl
never-wrong (message.CompleteTag e t n) s = refl
never-wrong (message.CompletionObserved e g) s = refl
never-wrong (message.ParticipantStopped e) s = refl
never-wrong (message.Failed e) s = refl

pub is-silent : (m : SchedulerMessage) (s : State) → (facts (call_of m)).answer s ≡ None
is-silent (message.Active e) s = refl
is-silent (message.Publish e c) s = refl
is-silent (message.CompleteTag e t n) s = refl
is-silent (message.CompletionObserved e g) s = refl
is-silent (message.ParticipantStopped e) s = refl
is-silent (message.Failed e) s = refl

and_yes : (b : Bool) → (b && true) ≡ b
and_yes true = refl
and_yes false = refl

-- ---- its tag, its enclave

pub message-proper : (m : SchedulerMessage) → all_proper (facts (call_of m)).tags ≡ proper_if_present (tag_of m)
message-proper (message.Active e) = refl
message-proper (message.Publish e c) = and_yes (proper_if_present c)
message-proper (message.CompleteTag e t n) = and_yes _
message-proper (message.CompletionObserved e g) = refl
message-proper (message.ParticipantStopped e) = refl
message-proper (message.Failed e) = refl

abbrev knows_optional : Option ℕ → List Participant → Bool
knows_optional None ps = true
knows_optional (Some e) ps = knows e ps

names-one : (m : SchedulerMessage) (ps : List Participant) → knows_all (facts (call_of m)).names ps ≡ knows_optional (enclave_of m) ps
names-one (message.Active e) ps = and_yes (knows e ps)
names-one (message.Publish e c) ps = and_yes (knows e ps)
names-one (message.CompleteTag e t n) ps = and_yes (knows e ps)
names-one (message.CompletionObserved e g) ps = and_yes (knows e ps)
names-one (message.ParticipantStopped e) ps = and_yes (knows e ps)
names-one (message.Failed None) ps = refl
names-one (message.Failed (Some e)) ps = and_yes (knows e ps)

-- ---- where it stands

unknown-optional : (x : Option ℕ) (s : Held) (i : ℕ) → 1 ≤ s.count → i ≡ place_of x s.enclaves s.count → s.count ≤ i → knows_optional x (rows_of s) ≡ false
unknown-optional None s i h q l = absurd (omega arith)
unknown-optional (Some e) s i h q l = unknown-knows s e i q l

pub message-unknown : (m : SchedulerMessage) (s : Held) (i : ℕ) → 1 ≤ s.count → i ≡ place_of (enclave_of m) s.enclaves s.count → s.count ≤ i → knows_all (facts (call_of m)).names (rows_of s) ≡ false
message-unknown m s i h q l = names-one m (rows_of s) ∙ unknown-optional (enclave_of m) s i h q l

-- the enclave at place i is the one that is named, if any
pub record Sits (x : Option ℕ) (s : Held) (i : ℕ) : Type 0 where
  pub seat : Seated s (get_or s.enclaves i 0) i
  pub named : Names x (get_or s.enclaves i 0)
  pub knows : knows_optional x (rows_of s) ≡ true

pub sits : (x : Option ℕ) (s : Held) (i : ℕ) → T (ascending (rows_of s)) → i ≡ place_of x s.enclaves s.count → i < s.count → Sits x s i
sits None s i a q l = rw q (record { seat = first-seated s a (omega arith); named = tt; knows = refl })
sits (Some e) s i a q l =
    let w = seated s e i a q l in
    let z : get_or s.enclaves i 0 ≡ e = eqb-true (get_or s.enclaves i 0) e w.here in
    record { seat = rw z w; named = sym z; knows = known s e i w }

pub message-known : (m : SchedulerMessage) (s : Held) (i : ℕ) → Sits (enclave_of m) s i → knows_all (facts (call_of m)).names (rows_of s) ≡ true
message-known m s i w = names-one m (rows_of s) ∙ w.knows
