-- The three calls: 27, 8 and 3 by one refusal, then the refusal of an observation, and each way in which a call is taken, from the rule to the state that is
-- stored. Assumes nothing.
use Rattle.std.specs.Prelude.{None, Option, Some}
use mathlib.Core.Path.{◌≡◌, refl, sym, ap, ◌∙◌}
use mathlib.Core.Bool.{Bool, true, false, ◌&&◌, cond}
use mathlib.Core.List.{List, []}
use Prim.Native.Nat.{ℕ, ◌+◌, ◌*◌, ◌≤◌}
use native.Mathlib.Omega.{arith}
use lib.Dec.{T, eqb, ltb}
use lib.ListN.{length, get_or, set, take, length-set}
use Rattle.std.specs.List.{list_all}
use Rattle.std.specs.Option.{is_some}
use borrow.Author.Tests.{eq-eqb, ne_eqb, ltb-true, ltb-false}
use Rattle.records.specs.Numbers.{observation_number}
use Rattle.records.specs.declared.Refusal.{Refusal}
use Rattle.records.specs.declared.Refusal.TheVariants.{UnsoundState, RoomTooSmall, UnknownEnclave, InvalidObservationTransition}
use Rattle.octets.specs.Runs.{put_at}
use Rattle.actions.specs.Record.{records_of}
use Rattle.rules.specs.Model.{State, Step, Call, observe, idle, stop, Observation, Verdict, Counts, Ignored, Refused}
use Rattle.rules.specs.Stop.{stop_of}
use Rattle.rules.specs.Observation.{is_refused, all_observed, observed_already, agreed, tally, observe_by, observation_of, idle_confirmation_of}
use Rattle.rules.specs.Calls.{facts, own_step, take_step, is_sound}
use Rattle.state.specs.declared.FederateCoordinationState.{FederateCoordinationState as Held}
use Rattle.state.specs.declared.Coordination.{Coordination}
use Rattle.state.specs.View.{view, represents}
use Rattle.state.specs.Parts.{Seated, place_in, cleared, with_coordination}
use Rattle.state.specs.declared.Notice.{Notice}
use Rattle.state.specs.Decides.{said_of}
use Rattle.state.proofs.Rows.{known, nobody}
use Rattle.state.proofs.Neat.{neat-with-coordination}
use Rattle.state.proofs.Put.{Beyond, Past, plain, past-trans, past-set, past-cleared, beyond-refl}
use Rattle.calls.specs.Called.{lent, refusal_of, replied, room_first}
use Rattle.calls.specs.declared.Called.{Called}
use Rattle.calls.proofs.Refusals.{refusal-3, refusal-4, refusal-0}
use Rattle.calls.proofs.Standing.{Standing}
use Rattle.calls.proofs.Ends.{Ends, no_way, roomy, ends-27, ends-8, ends-refused, ends-taken, ends-quiet, ends-still}
use Rattle.emission.specs.Written.{Written, Adds}
use Rattle.emission.proofs.Adding.{none_written}
use Rattle.observation.specs.declared.Moved.{Moved}
use Rattle.observation.specs.Moves.{Moves, Takes, says_of}
use Rattle.observation.proofs.Observing.{with_observations, stored_at, cleared_of, all-is, already-is, stored-view, stored-neat, cleared-view, cleared-neat}
use Rattle.observation.proofs.Observing.{judged_by, wrong-is, observation-is}

-- ---- what is said

said-few : (n : Option Notice) (e r : ℕ) → length (said_of n e r) ≤ 1
said-few None e r = omega arith
said-few (Some n) e r = omega arith

pub said-written : (d : Moved) (n : ℕ) {room after : List ℕ} {k : ℕ} → 56 * (n + 2) ≤ length room → Adds (says_of d) room 0 after k → Written room (says_of d) after k
said-written d n {room} h a = let f = said-few d.says 0 d.coordination.revision in a room [] (none_written room) (omega arith)

-- a state and a room that pass 27 and 8
pub record Enters (s : Held) (room : List ℕ) : Type 0 where
  pub stands : Standing s
  pub large : 56 * (s.count + 2) ≤ length room

-- ---- what a taken call changes

beyond-cells : (s : Held) (c : Coordination) (o : List ℕ) → Past plain 0 s.count s.observation o → Beyond s (with_coordination c (with_observations o s))
beyond-cells s c o p = let b = beyond-refl s in record {
  count = refl;
  enclaves = b.enclaves;
  published = b.published;
  observation = p;
  acknowledged = b.acknowledged;
  observed = b.observed;
  seconds = b.seconds;
  nanoseconds = b.nanoseconds;
  microsteps = b.microsteps;
}

-- the coordination, in a state t whose cells are stored already
module _ {c : Call} {s : Held} {room : List ℕ} (n : Enters s room) (a : (facts c).answer (view s) ≡ None) (free : 0 ≡ refusal_of (lent (length room) c) s)
    (t : Held) (h : T (represents t)) (rule : State → Step) (step : take_step c (view s) ≡ rule (view t)) (d : Moved) (m : Moves rule t d)
    (b : Beyond s (with_coordination d.coordination t)) where
  moved_ends : {k : ℕ} {r : Called} {after : List ℕ} → k ≡ length (says_of d) → after ≡ put_at room 0 (records_of (says_of d))
      → r ≡ replied (with_coordination d.coordination t) None None k → Ends (lent (length room) c) s r room after
  moved_ends =
      ends-taken (lent (length room) c) s room a n.stands free (with_coordination d.coordination t) (says_of d) b
      (neat-with-coordination t h d.coordination m.neat) (step ∙ m.step)

-- ---- 8, where the room alone is tested

module _ (s : Held) (room : List ℕ) {n : Option Refusal} (e : n ≡ room_first (length room) s.count None) where
  pub large_room : is_some n ≡ false → 56 * (s.count + 2) ≤ length room
  large_room h = go (ltb (length room) (56 * (s.count + 2))) refl e
    where
      go : (b : Bool) → ltb (length room) (56 * (s.count + 2)) ≡ b → n ≡ cond b (Some RoomTooSmall) None → 56 * (s.count + 2) ≤ length room
      go true l m = absurd (no_way (sym (rw m at h)))
      go false l m = ltb-false (length room) (56 * (s.count + 2)) l

  pub short_ends : (c : Call) → (facts c).takes_room ≡ true → (facts c).answer (view s) ≡ None → Standing s → is_some n ≡ true
      → {r : Called} → r ≡ replied s n None 0 → Ends (lent (length room) c) s r room room
  short_ends c t a st h {r} f = go (ltb (length room) (56 * (s.count + 2))) refl e
    where
      go : (b : Bool) → ltb (length room) (56 * (s.count + 2)) ≡ b → n ≡ cond b (Some RoomTooSmall) None → Ends (lent (length room) c) s r room room
      go true l m = ends-8 (lent (length room) c) s room a st.passing t (ltb-true (length room) (56 * (s.count + 2)) l) (f ∙ rw m refl)
      go false l m = absurd (no_way (rw m at h))

-- ---- stop and idle confirmation: no message, and refused 27 or 8 alone

pub takes-stop : (s : Held) (d : Moved) → (T (represents s) → Moves stop_of s d) → Takes s d stop
unfolding take_step own_step
takes-stop s d m = record { bare = refl; moves = m }

pub takes-idle : (s : Held) (r : ℕ) (d : Moved) → (T (represents s) → Moves (idle_confirmation_of r) s d) → Takes s d (idle r)
unfolding take_step own_step
takes-idle s r d m = record { bare = refl; moves = m }

module _ {c : Call} {s : Held} {d : Moved} (t : Takes s d c) (room : List ℕ) where
  silent : (facts c).answer (view s) ≡ None
  silent = rw t.bare refl

  pub bare-27 : {b : Bool} {r : Called} → b ≡ (represents s && is_sound (view s)) → b ≡ false → r ≡ replied s (Some UnsoundState) None 0 → Ends (lent (length room) c) s r room room
  bare-27 = ends-27 (lent (length room) c) s room silent

  pub bare-8 : Standing s → {n : Option Refusal} → n ≡ room_first (length room) s.count None → is_some n ≡ true → {r : Called} → r ≡ replied s n None 0
      → Ends (lent (length room) c) s r room room
  bare-8 st e = short_ends s room e c (rw t.bare refl) silent st

  pub bare-taken : Standing s → {n : Option Refusal} → n ≡ room_first (length room) s.count None → is_some n ≡ false
      → {k : ℕ} {after : List ℕ} {r : Called} → Adds (says_of d) room 0 after k → r ≡ replied (with_coordination d.coordination s) None None k
      → Ends (lent (length room) c) s r room after
  bare-taken st {n} e h a =
      let large = large_room s room e h in
      let w = said-written d s.count large a in
      moved_ends (record { stands = st; large = large }) silent
      (refusal-0 (lent (length room) c) s st.passing (roomy c s (length room) large) (rw t.bare refl) (rw t.bare refl) (rw t.bare refl) (rw t.bare refl))
      s st.good.neat (take_step c) refl d (t.moves st.good.neat) (beyond-cells s d.coordination s.observation (beyond-refl s).observation) w.number w.bytes

-- ---- an observation

take-observe : (e r : ℕ) (o : Observation) (m : State) → take_step (observe e r o) m ≡ observation_of e r o m
unfolding take_step own_step
take-observe e r o m = refl

-- of nobody here
pub observe-3 : {s : Held} {room : List ℕ} (e r : ℕ) (o : Observation) → Enters s room → None ≡ place_in s e
    → {x : Called} → x ≡ replied s (Some UnknownEnclave) None 0 → Ends (lent (length room) (observe e r o)) s x room room
observe-3 {s} {room} e r o n h =
    ends-refused (lent (length room) (observe e r o)) s room refl (Some UnknownEnclave)
    (refusal-3 (lent (length room) (observe e r o)) s n.stands.passing (roomy (observe e r o) s (length room) n.large) refl (rw (nobody s e h) refl)) (omega arith)

-- by the participant at place i, in a state and a room that pass 27 and 8
pub record Sits (e r : ℕ) (o : Observation) (s : Held) (room : List ℕ) (i : ℕ) : Type 0 where
  pub enters : Enters s room
  pub seat : Seated s e i

module _ {e r : ℕ} {o : Observation} {s : Held} {room : List ℕ} {i : ℕ} (n : Sits e r o s room i) where
  neat : T (represents s)
  neat = n.enters.stands.good.neat

  module _ {v : Verdict} (q : v ≡ judged_by r o s) where
    pub observe-4 : v ≡ Refused → {x : Called} → x ≡ replied s (Some InvalidObservationTransition) None 0 → Ends (lent (length room) (observe e r o)) s x room room
    observe-4 t f =
        ends-refused (lent (length room) (observe e r o)) s room refl (Some InvalidObservationTransition)
        (refusal-4 (lent (length room) (observe e r o)) s n.enters.stands.passing (roomy (observe e r o) s (length room) n.enters.large) refl
        (rw (known s e i n.seat) refl) (wrong-is s neat r o v q e ∙ ap is_refused t)) (omega arith) f

    free : is_refused v ≡ false → 0 ≡ refusal_of (lent (length room) (observe e r o)) s
    free t =
        refusal-0 (lent (length room) (observe e r o)) s n.enters.stands.passing (roomy (observe e r o) s (length room) n.enters.large) refl
        (rw (known s e i n.seat) refl) (wrong-is s neat r o v q e ∙ t) refl

    step_by : (w : Verdict) → v ≡ w → take_step (observe e r o) (view s) ≡ observe_by w e o (view s)
    step_by w t = take-observe e r o (view s) ∙ observation-is s neat r o v q e ∙ ap (λ x. observe_by x e o (view s)) t

    pub observe-ignored : v ≡ Ignored → {x : Called} → x ≡ replied s None None 0 → Ends (lent (length room) (observe e r o)) s x room room
    unfolding observe_by
    observe-ignored t f = ends-still (lent (length room) (observe e r o)) s room refl n.enters.stands (free (ap is_refused t)) (step_by Ignored t) f

-- one that counts, with its cell k
pub record Counted (e r : ℕ) (o : Observation) (s : Held) (room : List ℕ) (i k : ℕ) : Type 0 where
  pub sits : Sits e r o s room i
  pub counts : Counts ≡ judged_by r o s
  pub cell : k ≡ observation_number o + 1

module _ {e r : ℕ} {o : Observation} {s : Held} {room : List ℕ} {i k : ℕ} (n : Counted e r o s room i k) where
  free-counted : 0 ≡ refusal_of (lent (length room) (observe e r o)) s
  free-counted = free n.sits n.counts refl

  step-counted : take_step (observe e r o) (view s) ≡ observe_by Counts e o (view s)
  step-counted = step_by n.sits n.counts Counts refl

  already : observed_already e o (view s) ≡ eqb (get_or s.observation i 0) k
  already = already-is s (neat n.sits) o k n.cell e i n.sits.seat

  pub observe-repeat : get_or s.observation i 0 ≡ k → {x : Called} → x ≡ replied s None None 0 → Ends (lent (length room) (observe e r o)) s x room room
  unfolding observe_by
  observe-repeat y f =
      ends-still (lent (length room) (observe e r o)) s room refl n.sits.enters.stands free-counted (step-counted ∙ rw (already ∙ eq-eqb _ _ y) refl) f

  -- no repeat: the cell is stored, and b is whether all have this one then
  module _ (y : get_or s.observation i 0 ≡ k → ⊥) {b : Bool} (w : b ≡ list_all (λ x. eqb x k) (take s.count (set s.observation i k))) where
    past-stored : Past plain 0 s.count s.observation (set s.observation i k)
    past-stored = past-set 0 s.count i n.sits.seat.within s.observation k

    neat-stored : T (represents (stored_at s i k))
    neat-stored = stored-neat s n.sits.enters.stands.good.sized (neat n.sits) n.sits.enters.stands.few e i n.sits.seat o k n.cell

    step-stored : take_step (observe e r o) (view s) ≡ tally o (view (stored_at s i k))
    unfolding observe_by
    step-stored =
        let z = n.sits.enters.stands.good.sized in
        step-counted ∙ rw (already ∙ ne_eqb _ _ y) (ap (tally o) (stored-view s z (neat n.sits) n.sits.enters.stands.few e i n.sits.seat o k n.cell))

    all-stored : all_observed o (view (stored_at s i k)) ≡ b
    all-stored =
        all-is (stored_at s i k) neat-stored o k n.cell
        (rw (length-set s.observation i k, n.sits.enters.stands.good.sized.observation) n.sits.enters.stands.few) ∙ sym w

    pub observe-stored : b ≡ false → {x : Called} → x ≡ replied (stored_at s i k) None None 0 → Ends (lent (length room) (observe e r o)) s x room room
    unfolding tally
    observe-stored u f =
        ends-quiet (lent (length room) (observe e r o)) s room refl n.sits.enters.stands free-counted (stored_at s i k)
        (beyond-cells s s.coordination (set s.observation i k) past-stored) neat-stored
        (step-stored ∙ rw (all-stored ∙ u) refl) f

    module _ (u : b ≡ true) (d : Moved) (m : T (represents (cleared_of (stored_at s i k))) → Moves (agreed o) (cleared_of (stored_at s i k)) d) where
      neat-cleared : T (represents (cleared_of (stored_at s i k)))
      neat-cleared = cleared-neat (stored_at s i k) neat-stored

      step-agreed : take_step (observe e r o) (view s) ≡ agreed o (view (cleared_of (stored_at s i k)))
      unfolding tally
      step-agreed = step-stored ∙ rw (all-stored ∙ u) (ap (agreed o) (cleared-view (stored_at s i k)))

      past-agreed : Past plain 0 s.count s.observation (cleared s.count (set s.observation i k))
      past-agreed =
          let c = set s.observation i k in
          let few = n.sits.enters.stands.few in
          past-trans plain 0 s.count s.count s.observation c (cleared s.count c) refl past-stored
          (past-cleared s.count c (rw (length-set s.observation i k, n.sits.enters.stands.good.sized.observation) few))

      pub observe-agreed : {q : ℕ} {x : Called} {after : List ℕ} → q ≡ length (says_of d) → after ≡ put_at room 0 (records_of (says_of d))
          → x ≡ replied (with_coordination d.coordination (cleared_of (stored_at s i k))) None None q
          → Ends (lent (length room) (observe e r o)) s x room after
      observe-agreed =
          moved_ends n.sits.enters refl free-counted (cleared_of (stored_at s i k)) neat-cleared (agreed o) step-agreed d (m neat-cleared)
          (beyond-cells s d.coordination (cleared s.count (set s.observation i k)) past-agreed)
