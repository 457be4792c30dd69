-- The refusals of a call on the state held, one law for each link of the chain 27, 8, 7, 3, 4, 9, and what a refused and a taken call promise. By the
-- definitions, with each test's value put in. Assumes nothing.
use Rattle.std.specs.Prelude.{None, Option, Some}
use mathlib.Core.Path.{◌≡◌, refl, ap}
use mathlib.Core.Bool.{Bool, true, false, not, cond, ◌&&◌}
use Prim.Native.Nat.{ℕ, ◌+◌, ◌*◌, ◌<◌}
use native.Mathlib.Omega.{arith}
use borrow.Author.Tests.{eqb-true}
use lib.Dec.{eqb, ltb}
use lib.ListN.{length}
use Rattle.records.specs.Numbers.{refusal_number}
use Rattle.records.specs.declared.Refusal.{Refusal}
use Rattle.records.specs.declared.Refusal.TheVariants.{NoParticipants, DuplicateEnclave, UnknownEnclave, InvalidObservationTransition, TooManyParticipants, IndexTooLarge, ImproperTag}
use Rattle.records.specs.declared.Refusal.TheVariants.{RoomTooSmall, GenerationSpent, DelayOutOfRange, ScriptOutOfForm, ScriptTooLong, UnsoundState, NoActionRecord}
use Rattle.std.specs.Option.{is_some}
use Rattle.rules.specs.Model.{Given}
use Rattle.rules.specs.Calls.{facts, own_step, take_step, is_sound, room_for, all_proper, knows_all, is_spent, refusal, refused_answer}
use Rattle.state.specs.declared.FederateCoordinationState.{FederateCoordinationState as Held}
use Rattle.state.specs.View.{view, put, represents}
use Rattle.state.proofs.Rows.{length-rows}
use Rattle.calls.specs.Called.{refusal_of, state_of, actions_of, answer_of, Promised, replied}

-- ---- by the parts of a conjunction

and-true : (a b : Bool) → (a && b) ≡ true → (a ≡ true) × (b ≡ true)
and-true true b h = (refl, h)
and-true false b h = (h, let z : ◌≡◌ {A = ℕ} 0 1 = cc in absurd (omega arith))

-- a state that passes 27
pub record Passes (s : Held) : Type 0 where
  pub neat : represents s ≡ true
  pub sound : is_sound (view s) ≡ true

pub passes : (s : Held) → (represents s && is_sound (view s)) ≡ true → Passes s
passes s h = let p = and-true (represents s) (is_sound (view s)) h in record { neat = p.0; sound = p.1 }

-- ---- the chain

module _ (g : Given) (s : Held) where
  pub refusal-27 : (represents s && is_sound (view s)) ≡ false → 27 ≡ refusal_of g s
  unfolding refusal_of refusal
  refusal-27 h = go (represents s) (is_sound (view s)) h _
    where
      go : (a b : Bool) → (a && b) ≡ false → (later : ℕ) → ◌≡◌ {A = ℕ} 27 (cond a (cond (not b) 27 later) 27)
      go true true e later = let z : ◌≡◌ {A = ℕ} 0 1 = cc in absurd (omega arith)
      go true false e later = refl
      go false b e later = refl

module _ (g : Given) (s : Held) (p : Passes s) where
  pub refusal-8 : (facts g.what).takes_room ≡ true → ltb g.room (room_for (view s)) ≡ true → 8 ≡ refusal_of g s
  unfolding refusal_of refusal
  refusal-8 r h = rw (p.neat, p.sound, r, h) refl

  module _ (roomy : ((facts g.what).takes_room && ltb g.room (room_for (view s))) ≡ false) where
    pub refusal-7 : all_proper (facts g.what).tags ≡ false → 7 ≡ refusal_of g s
    unfolding refusal_of refusal
    refusal-7 h = rw (p.neat, p.sound, roomy, h) refl

    module _ (proper : all_proper (facts g.what).tags ≡ true) where
      pub refusal-3 : knows_all (facts g.what).names (view s).participants ≡ false → 3 ≡ refusal_of g s
      unfolding refusal_of refusal
      refusal-3 h = rw (p.neat, p.sound, roomy, proper, h) refl

      module _ (known : knows_all (facts g.what).names (view s).participants ≡ true) where
        pub refusal-4 : (facts g.what).wrong_in (view s) ≡ true → 4 ≡ refusal_of g s
        unfolding refusal_of refusal
        refusal-4 h = rw (p.neat, p.sound, roomy, proper, known, h) refl

        module _ (right : (facts g.what).wrong_in (view s) ≡ false) where
          pub refusal-9 : ((facts g.what).message && is_spent (own_step g.what (view s)).state) ≡ true → 9 ≡ refusal_of g s
          unfolding refusal_of refusal
          refusal-9 h = rw (p.neat, p.sound, roomy, proper, known, right, h) refl

          pub refusal-0 : ((facts g.what).message && is_spent (own_step g.what (view s)).state) ≡ false → 0 ≡ refusal_of g s
          unfolding refusal_of refusal
          refusal-0 h = rw (p.neat, p.sound, roomy, proper, known, right, h) refl

-- ---- the room that a state demands

pub room_of : (s : Held) → room_for (view s) ≡ 56 * (s.count + 2)
room_of s = ap (λ n. 56 * (n + 2)) (length-rows s)

-- ---- whether there is one

above : (r : Refusal) → 0 < refusal_number (Some r)
above NoParticipants = omega arith
above DuplicateEnclave = omega arith
above UnknownEnclave = omega arith
above InvalidObservationTransition = omega arith
above TooManyParticipants = omega arith
above IndexTooLarge = omega arith
above ImproperTag = omega arith
above RoomTooSmall = omega arith
above GenerationSpent = omega arith
above DelayOutOfRange = omega arith
above ScriptOutOfForm = omega arith
above ScriptTooLong = omega arith
above UnsoundState = omega arith
above NoActionRecord = omega arith

pub refuses : (n : Option Refusal) → is_some n ≡ true → 0 < refusal_number n
refuses None h = cc
refuses (Some r) h = above r

pub refuses-none : (n : Option Refusal) → is_some n ≡ false → n ≡ None
refuses-none None h = refl
refuses-none (Some r) h = cc

-- ---- what is promised

pub refused : (g : Given) (s : Held) (n : Option Refusal) (a : Option Bool) → refusal_number n ≡ refusal_of g s → 0 < refusal_number n → a ≡ refused_answer ((facts g.what).answer (view s)) → Promised g s (replied s n a 0)
unfolding state_of actions_of answer_of
refused g s n a e h x =
    let z : eqb (refusal_of g s) 0 ≡ false = go (refusal_of g s) (refusal_number n) e h in
    record { refusal = e; answer = rw z x; actions = rw z refl; state = rw z refl }
  where
    go : (m k : ℕ) → k ≡ m → 0 < k → eqb m 0 ≡ false
    go m k q l = nonzero m (omega arith)
      where
        nonzero : (m : ℕ) → 0 < m → eqb m 0 ≡ false
        nonzero m l = not-eq m (eqb m 0) refl l
          where
            not-eq : (m : ℕ) (b : Bool) → eqb m 0 ≡ b → 0 < m → b ≡ false
            not-eq m true q l = let w = eqb-true m 0 q in absurd (omega arith)
            not-eq m false q l = refl

pub taken : (g : Given) (s r : Held) (a : Option Bool) (k : ℕ) → 0 ≡ refusal_of g s → a ≡ (facts g.what).answer (view s) → k ≡ length (take_step g.what (view s)).actions → r ≡ put s (take_step g.what (view s)).state → Promised g s (replied r None a k)
unfolding state_of actions_of answer_of
taken g s r a k e x y z =
    let q : eqb (refusal_of g s) 0 ≡ true = rw (← e) refl in
    record { refusal = e; answer = rw q x; actions = rw q y; state = rw q z }

-- the actions of a taken and of a refused call
pub actions-taken : (g : Given) (s : Held) → 0 ≡ refusal_of g s → actions_of g s ≡ (take_step g.what (view s)).actions
unfolding actions_of
actions-taken g s e = let q : eqb (refusal_of g s) 0 ≡ true = rw (← e) refl in rw q refl
