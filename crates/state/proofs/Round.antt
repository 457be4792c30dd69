-- Each small part of a state there and back: from its cells to what they mean and to the cells again if they are neat, and from a meaning whose tags
-- are proper to its cells and to the meaning again. By their cases. Assumes nothing.
use Rattle.std.specs.Prelude.{None, Option, Some}
use Rattle.records.specs.declared.FederatePublication.{FederatePublication}
use mathlib.Core.Path.{◌≡◌, refl, sym, ap₂, ◌∙◌}
use mathlib.Core.Bool.{Bool, true, false, not, cond, ◌&&◌, ◌||◌}
use Prim.Native.Nat.{ℕ, zero, suc, ◌≤◌}
use native.Mathlib.Omega.{arith}
use lib.Dec.{T, eqb, eqb→eq}
use Rattle.std.specs.Option.{is_some, unwrap_or}
use Rattle.tags.specs.Tags.{◌≡ₜ◌, is_proper, proper_if_present}
use Rattle.records.specs.Numbers.{policy_number, phase_number}
use Rattle.rules.specs.Model.{Tag, OptionalObservation, Unobserved, Observed, Probed, HasParked, Rechecked, OptionalAcquisition, NoneStored, Stored, OptionalInputs, NoInputs, Inputs, LifecyclePolicy, KeepAlive, TerminateWhenIdle, CoordinatedTermination, CoordinationPhase, Active, Probing, Parking, Rechecking, Parked, AwaitingIdleConfirmation, Stopped, State}
use Rattle.rules.specs.Calls.{proper_publication, proper_inputs, proper_acquisition}
use Rattle.rules.proofs.Lists.{and_left, and_right}
use Rattle.rules.proofs.Invariants.{and_intro}
use Rattle.state.specs.declared.FederateCoordinationState.{FederateCoordinationState as Held}
use Rattle.state.specs.declared.Coordination.{Coordination}
use Rattle.state.specs.declared.Completion.{Completion}
use Rattle.state.specs.declared.Gate.{Gate}
use Rattle.state.specs.Cells.{absent, is_absent, optional_of, cell_of, is_neat, number_if, is_zero_unless, observation_of, phase_of, policy_of, publication_if, inputs_of, stored_of}
use Rattle.state.specs.View.{view, observation_cell, coordination_by, first_of, last_of, stored_revision, stored_tag}
use Rattle.state.proofs.Rows.{same_tag, cell-optional, optional-cell, neat-cell, proper-present}
use Rattle.state.proofs.Neat.{neat_pending, NeatCoordination, NeatCompletion, NeatGate}

-- ---- numbers of enums

pub policy-number : (n : ℕ) → n ≤ 2 → policy_number (policy_of n) ≡ n
policy-number zero h = refl
policy-number (suc zero) h = refl
policy-number (suc (suc zero)) h = refl
policy-number (suc (suc (suc n))) h = absurd (omega arith)

pub number-policy : (p : LifecyclePolicy) → policy_of (policy_number p) ≡ p
number-policy KeepAlive = refl
number-policy TerminateWhenIdle = refl
number-policy CoordinatedTermination = refl

pub phase-number : (n : ℕ) → n ≤ 6 → phase_number (phase_of n) ≡ n
phase-number zero h = refl
phase-number (suc zero) h = refl
phase-number (suc (suc zero)) h = refl
phase-number (suc (suc (suc zero))) h = refl
phase-number (suc (suc (suc (suc zero)))) h = refl
phase-number (suc (suc (suc (suc (suc zero))))) h = refl
phase-number (suc (suc (suc (suc (suc (suc zero)))))) h = refl
phase-number (suc (suc (suc (suc (suc (suc (suc n))))))) h = absurd (omega arith)

pub number-phase : (p : CoordinationPhase) → phase_of (phase_number p) ≡ p
number-phase Active = refl
number-phase Probing = refl
number-phase Parking = refl
number-phase Rechecking = refl
number-phase Parked = refl
number-phase AwaitingIdleConfirmation = refl
number-phase Stopped = refl

pub cell-observation : (n : ℕ) → n ≤ 3 → observation_cell (observation_of n) ≡ n
cell-observation zero h = refl
cell-observation (suc zero) h = refl
cell-observation (suc (suc zero)) h = refl
cell-observation (suc (suc (suc zero))) h = refl
cell-observation (suc (suc (suc (suc n)))) h = absurd (omega arith)

pub observation-cell : (o : OptionalObservation) → observation_of (observation_cell o) ≡ o
observation-cell Unobserved = refl
observation-cell (Observed Probed) = refl
observation-cell (Observed HasParked) = refl
observation-cell (Observed Rechecked) = refl

-- ---- numbers with a flag

pub flag-number : (b : Bool) (n : ℕ) → is_some (number_if b n) ≡ b
flag-number true n = refl
flag-number false n = refl

pub value-number : (b : Bool) (n : ℕ) → T (is_zero_unless b n) → unwrap_or (number_if b n) 0 ≡ n
value-number true n h = refl
value-number false n h = sym (eqb→eq n 0 h)

pub number-back : (x : Option ℕ) → number_if (is_some x) (unwrap_or x 0) ≡ x
number-back None = refl
number-back (Some n) = refl

-- ---- the pair of inputs and the stored acquisition

absent-is : (t : Tag) → T (is_neat t) → T (is_absent t) → absent ≡ t
absent-is t h = go (is_absent t) h
  where
    go : (b : Bool) → T (not b || t ≡ₜ absent) → T b → absent ≡ t
    go true k z = sym (same_tag t absent k)
    go false k z = absurd z

first-inputs : (f l : Tag) → T (is_neat f) → first_of (inputs_of f l) ≡ f
first-inputs f l h = go (is_absent f) (absent-is f h)
  where
    go : (b : Bool) → (T b → absent ≡ f) → first_of (cond b NoInputs (Inputs f l)) ≡ f
    go true k = k tt
    go false k = refl

last-inputs : (f l : Tag) → T (is_neat l) → T (cond (is_absent f) (is_absent l) (not (is_absent l))) → last_of (inputs_of f l) ≡ l
last-inputs f l h both = go (is_absent f) both
  where
    go : (b : Bool) → T (cond b (is_absent l) (not (is_absent l))) → last_of (cond b NoInputs (Inputs f l)) ≡ l
    go true k = absent-is l h k
    go false k = refl

pub inputs-back : (x : OptionalInputs) → T (proper_inputs x) → inputs_of (first_of x) (last_of x) ≡ x
inputs-back NoInputs h = refl
inputs-back (Inputs f l) h = rw (proper-present f (and_left (is_proper f) (is_proper l) h)) refl

stored-revision : (r : ℕ) (t : Tag) → T (is_zero_unless (not (is_absent t)) r) → stored_revision (stored_of r t) ≡ r
stored-revision r t h = go (is_absent t) h
  where
    go : (b : Bool) → T (is_zero_unless (not b) r) → stored_revision (cond b NoneStored (Stored r t)) ≡ r
    go true k = sym (eqb→eq r 0 k)
    go false k = refl

stored-tag : (r : ℕ) (t : Tag) → T (is_neat t) → stored_tag (stored_of r t) ≡ t
stored-tag r t h = go (is_absent t) (absent-is t h)
  where
    go : (b : Bool) → (T b → absent ≡ t) → stored_tag (cond b NoneStored (Stored r t)) ≡ t
    go true k = k tt
    go false k = refl

pub stored_back : (x : OptionalAcquisition) → T (proper_acquisition x) → stored_of (stored_revision x) (stored_tag x) ≡ x
stored_back NoneStored h = refl
stored_back (Stored r t) h = rw (proper-present t h) refl

-- ---- the three small records

-- a coordination with this pending publication
abbrev with_pending : Coordination → Bool → ℕ → Tag → Tag → Coordination
with_pending c b revision next horizon = record {
  revision = c.revision;
  phase = c.phase;
  authorized = c.authorized;
  idle_authorization = c.idle_authorization;
  pending = b;
  pending_revision = revision;
  pending_next_event = next;
  pending_grant_horizon = horizon;
}

module _ (r : Held) (v : NeatCoordination r.coordination) where
  -- what is not of the pending publication
  rest-held : (b : Bool) (a : ℕ) (x y : Tag) → with_pending (coordination_by None (view r)) b a x y ≡ with_pending r.coordination b a x y
  rest-held b a x y =
      let c = r.coordination in
      let phase = phase-number c.phase v.phase in
      let flag = flag-number c.authorized c.idle_authorization in
      let value = value-number c.authorized c.idle_authorization v.authorization in
      rw (phase, flag, value) refl

  pub coordination-held : coordination_by (view r).pending_publication (view r) ≡ r.coordination
  coordination-held = go c.pending c.pending_revision c.pending_next_event c.pending_grant_horizon v.publication
    where
      c : Coordination
      c = r.coordination

      go : (b : Bool) (a : ℕ) (x y : Tag) → T (neat_pending b a x y) → coordination_by (publication_if b a x y) (view r) ≡ with_pending c b a x y
      go true a x y h =
          let next = cell-optional x (and_left (is_neat x) (is_neat y) h) in
          let horizon = cell-optional y (and_right (is_neat x) (is_neat y) h) in
          rest-held true a (cell_of (optional_of x)) (cell_of (optional_of y)) ∙ ap₂ (with_pending c true a) next horizon
      go false a x y h =
          let front = and_left (eqb a 0 && x ≡ₜ absent) (y ≡ₜ absent) h in
          let revision = sym (eqb→eq a 0 (and_left (eqb a 0) (x ≡ₜ absent) front)) in
          let next = sym (same_tag x absent (and_right (eqb a 0) (x ≡ₜ absent) front)) in
          let horizon = sym (same_tag y absent (and_right (eqb a 0 && x ≡ₜ absent) (y ≡ₜ absent) h)) in
          rest-held false 0 absent absent ∙ (λ k. with_pending c false (revision k) (next k) (horizon k))

pub completion-held : (c : Completion) → NeatCompletion c → let i = inputs_of c.first_input c.last_input in
    ◌≡◌ {A = Completion}
    (record {
      completed_frontier = cell_of (optional_of c.completed_frontier);
      first_input = first_of i;
      last_input = last_of i;
      completion_generation = c.completion_generation;
      completion_probe = cell_of (optional_of c.completion_probe);
    })
    c
completion-held c v =
    let a = cell-optional c.completed_frontier v.frontier in
    let b = first-inputs c.first_input c.last_input v.first in
    let d = last-inputs c.first_input c.last_input v.last v.both in
    let e = cell-optional c.completion_probe v.probe in
    λ k. record {
      completed_frontier = a k;
      first_input = b k;
      last_input = d k;
      completion_generation = c.completion_generation;
      completion_probe = e k;
    }

pub gate-held : (g : Gate) → NeatGate g → let a = stored_of g.stored_revision g.stored_granted in
    ◌≡◌ {A = Gate}
    (record {
      input_horizon = cell_of (optional_of g.input_horizon);
      stored_revision = stored_revision a;
      stored_granted = stored_tag a;
      granted = cell_of (optional_of g.granted);
    })
    g
gate-held g v =
    let a = cell-optional g.input_horizon v.input_horizon in
    let b = stored-revision g.stored_revision g.stored_granted v.revision in
    let c = stored-tag g.stored_revision g.stored_granted v.stored in
    let d = cell-optional g.granted v.granted in
    λ k. record { input_horizon = a k; stored_revision = b k; stored_granted = c k; granted = d k }

-- what the cells of a pending publication and the rest of a coordination mean
pub record Means (c : Coordination) (p : Option FederatePublication) (m : State) : Type 0 where
  pub revision : c.revision ≡ m.revision
  pub phase : phase_of c.phase ≡ m.phase
  pub authorization : number_if c.authorized c.idle_authorization ≡ m.idle_authorization
  pub publication : publication_if c.pending c.pending_revision c.pending_next_event c.pending_grant_horizon ≡ p

pub coordination-back : (p : Option FederatePublication) (m : State) → T (proper_publication p) → Means (coordination_by p m) p m
coordination-back None m h = record {
  revision = refl;
  phase = number-phase m.phase;
  authorization = number-back m.idle_authorization;
  publication = refl;
}
coordination-back (Some p) m h =
    let n = proper_if_present p.next_event in
    let g = proper_if_present p.grant_horizon in
    let a = optional-cell p.next_event (and_left n g h) in
    let b = optional-cell p.grant_horizon (and_right n g h) in
    record {
      revision = refl;
      phase = number-phase m.phase;
      authorization = number-back m.idle_authorization;
      publication = λ k. Some (record { revision = p.revision; next_event = a k; grant_horizon = b k });
    }

-- ---- the cells of a meaning whose tags are proper are neat

pub policy-below : (p : LifecyclePolicy) → policy_number p ≤ 2
policy-below KeepAlive = omega arith
policy-below TerminateWhenIdle = omega arith
policy-below CoordinatedTermination = omega arith

pub phase-below : (p : CoordinationPhase) → phase_number p ≤ 6
phase-below Active = omega arith
phase-below Probing = omega arith
phase-below Parking = omega arith
phase-below Rechecking = omega arith
phase-below Parked = omega arith
phase-below AwaitingIdleConfirmation = omega arith
phase-below Stopped = omega arith

pub observation-below : (o : OptionalObservation) → observation_cell o ≤ 3
observation-below Unobserved = omega arith
observation-below (Observed Probed) = omega arith
observation-below (Observed HasParked) = omega arith
observation-below (Observed Rechecked) = omega arith

pub number-neat : (x : Option ℕ) → T (is_zero_unless (is_some x) (unwrap_or x 0))
number-neat None = tt
number-neat (Some n) = tt

neat-absent : T (is_neat absent)
neat-absent = neat-cell None tt

pub coordination-neat : (p : Option FederatePublication) (m : State) → T (proper_publication p) → NeatCoordination (coordination_by p m)
coordination-neat None m h =
    let e = neat-absent in
    record { phase = phase-below m.phase; authorization = number-neat m.idle_authorization; publication = and_intro (absent ≡ₜ absent) (absent ≡ₜ absent) e e }
coordination-neat (Some p) m h =
    let n = proper_if_present p.next_event in
    let g = proper_if_present p.grant_horizon in
    let a = neat-cell p.next_event (and_left n g h) in
    let b = neat-cell p.grant_horizon (and_right n g h) in
    record {
      phase = phase-below m.phase;
      authorization = number-neat m.idle_authorization;
      publication = and_intro (is_neat (cell_of p.next_event)) (is_neat (cell_of p.grant_horizon)) a b;
    }

pub first-neat : (x : OptionalInputs) → T (proper_inputs x) → T (is_neat (first_of x))
first-neat NoInputs h = neat-absent
first-neat (Inputs f l) h = neat-cell (Some f) (and_left (is_proper f) (is_proper l) h)

pub last-neat : (x : OptionalInputs) → T (proper_inputs x) → T (is_neat (last_of x))
last-neat NoInputs h = neat-absent
last-neat (Inputs f l) h = neat-cell (Some l) (and_right (is_proper f) (is_proper l) h)

pub both-neat : (x : OptionalInputs) → T (proper_inputs x) → T (cond (is_absent (first_of x)) (is_absent (last_of x)) (not (is_absent (last_of x))))
both-neat NoInputs h = tt
both-neat (Inputs f l) h = rw (proper-present f (and_left (is_proper f) (is_proper l) h), proper-present l (and_right (is_proper f) (is_proper l) h)) tt

pub stored-neat : (x : OptionalAcquisition) → T (proper_acquisition x) → T (is_neat (stored_tag x))
stored-neat NoneStored h = neat-absent
stored-neat (Stored r t) h = neat-cell (Some t) h

pub revision-neat : (x : OptionalAcquisition) → T (proper_acquisition x) → T (is_zero_unless (not (is_absent (stored_tag x))) (stored_revision x))
revision-neat NoneStored h = tt
revision-neat (Stored r t) h = rw (proper-present t h) tt
