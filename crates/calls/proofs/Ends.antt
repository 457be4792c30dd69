-- How a call ends that lends a room: refused, with the state and the room as they were; or taken, with a state that shows the rule's and the records of
-- its actions at the front of the room. Assumes nothing.
use Rattle.std.specs.Prelude.{None, Option, Some}
use mathlib.Core.Path.{◌≡◌, refl, sym, ap, ◌∙◌, subst}
use mathlib.Core.Bool.{Bool, true, false, cond, ◌&&◌}
use mathlib.Core.List.{List, [], ◌∷◌}
use Prim.Native.Nat.{ℕ, zero, suc, ◌+◌, ◌*◌, ◌≤◌, ◌<◌}
use native.Mathlib.Omega.{arith}
use borrow.Author.Tests.{lt-ltb, le-ltb, ltb-false, eqb-true}
use lib.Dec.{T, eqb, ltb}
use lib.ListN.{length}
use Rattle.records.specs.Numbers.{refusal_number}
use Rattle.records.specs.declared.Refusal.{Refusal}
use Rattle.records.specs.declared.Refusal.TheVariants.{UnsoundState, RoomTooSmall, ImproperTag}
use Rattle.octets.specs.Runs.{put_at}
use Rattle.octets.proofs.Runs.{put-nil}
use Rattle.actions.specs.Record.{records_of}
use Rattle.rules.specs.Model.{CoordinationAction, Step, Call, Given}
use Rattle.rules.specs.Walk.{quiet}
use Rattle.rules.specs.Calls.{call, facts, take_step, is_sound, room_for, all_proper, knows_all, refusal, refused_answer}
use Rattle.rules.proofs.Room.{call-fits-room}
use Rattle.state.specs.declared.FederateCoordinationState.{FederateCoordinationState as Held}
use Rattle.state.specs.View.{view, put, represents}
use Rattle.state.proofs.Put.{Beyond, beyond-refl}
use Rattle.calls.specs.Called.{lent, refusal_of, state_of, actions_of, answer_of, Promised, replied, room_first, tag_first}
use Rattle.calls.specs.declared.Called.{Called}
use Rattle.calls.proofs.Refusals.{Passes, passes, room_of, refusal-27, refusal-8, refusal-7, refusal-3, actions-taken}
use Rattle.calls.proofs.Standing.{Standing, promised-refused, promised-27, promised-taken}

-- what is promised of the answer, and of the room before and after
abbrev pub Ends : Given → Held → Called → List ℕ → List ℕ → Type 0
Ends g s r before after = Promised g s r × (after ≡ put_at before 0 (records_of (actions_of g s)))

pub no_way : false ≡ true → ⊥
no_way e = let z : ◌≡◌ {A = ℕ} 0 1 = cc in omega arith

-- ---- the room

pub wrote_none : (room : List ℕ) → room ≡ put_at room 0 (records_of [])
unfolding records_of
wrote_none room = sym (put-nil room 0)

-- a call that answers no action wrote nothing
unwritten : (g : Given) (s : Held) (room : List ℕ) {r : Called} → 0 ≡ r.reply.actions → Promised g s r → Ends g s r room room
unwritten g s room e p = (p, go (actions_of g s) (e ∙ p.actions))
  where
    go : (l : List CoordinationAction) → 0 ≡ length l → room ≡ put_at room 0 (records_of l)
    go [] h = wrote_none room
    go (a ∷ l) h = absurd (omega arith)

-- a room that 8 lets pass
pub roomy : (c : Call) (s : Held) (n : ℕ) → 56 * (s.count + 2) ≤ n → ((facts c).takes_room && ltb n (room_for (view s))) ≡ false
roomy c s n h = go (facts c).takes_room (rw (room_of s) (le-ltb n (56 * (s.count + 2)) h))
  where
    go : (b : Bool) {d : Bool} → d ≡ false → (b && d) ≡ false
    go true e = e
    go false e = refl

-- ---- refused

module _ (g : Given) (s : Held) (room : List ℕ) {r : Called} (silent : (facts g.what).answer (view s) ≡ None) where
  pub ends-refused : (n : Option Refusal) → refusal_number n ≡ refusal_of g s → 0 < refusal_number n → r ≡ replied s n None 0 → Ends g s r room room
  ends-refused n h l e = unwritten g s room (ap (λ (x : Called). x.reply.actions) (sym e)) (promised-refused g s n None h l (ap refused_answer (sym silent)) e)

  pub ends-27 : {b : Bool} → b ≡ (represents s && is_sound (view s)) → b ≡ false → r ≡ replied s (Some UnsoundState) None 0 → Ends g s r room room
  ends-27 q h e = unwritten g s room (ap (λ (x : Called). x.reply.actions) (sym e)) (promised-27 g s None q h (ap refused_answer (sym silent)) e)

  module _ (p : Passes s) where
    pub ends-8 : (facts g.what).takes_room ≡ true → g.room < 56 * (s.count + 2) → r ≡ replied s (Some RoomTooSmall) None 0 → Ends g s r room room
    ends-8 t h e = ends-refused (Some RoomTooSmall) (refusal-8 g s p t (rw (room_of s) (lt-ltb g.room (56 * (s.count + 2)) h))) (omega arith) e

    pub ends-7 : 56 * (s.count + 2) ≤ g.room → all_proper (facts g.what).tags ≡ false → r ≡ replied s (Some ImproperTag) None 0 → Ends g s r room room
    ends-7 h t e = ends-refused (Some ImproperTag) (refusal-7 g s p (roomy g.what s g.room h) t) (omega arith) e

  -- ---- taken

  module _ (st : Standing s) (free : 0 ≡ refusal_of g s) where
    pub ends-taken : (t : Held) (l : List CoordinationAction) → Beyond s t → T (represents t) → take_step g.what (view s) ≡ record { state = view t; actions = l }
        → {k : ℕ} {after : List ℕ} → k ≡ length l → after ≡ put_at room 0 (records_of l) → r ≡ replied t None None k → Ends g s r room after
    ends-taken t l b h q j w e = (
      promised-taken g s st free None (sym silent) t l b h q j e,
      w ∙ ap (λ (x : List CoordinationAction). put_at room 0 (records_of x)) (sym (actions-taken g s free ∙ ap (λ (o : Step). o.actions) q)),
    )

    pub ends-quiet : (t : Held) → Beyond s t → T (represents t) → take_step g.what (view s) ≡ quiet (view t) → r ≡ replied t None None 0 → Ends g s r room room
    ends-quiet t b h q e = ends-taken t [] b h q refl (wrote_none room) e

    pub ends-still : take_step g.what (view s) ≡ quiet (view s) → r ≡ replied s None None 0 → Ends g s r room room
    ends-still = ends-quiet s (beyond-refl s) st.good.neat

-- ---- 8, 7 and 3 by one number

-- the three tests, and the refusal that they give
pub record First (g : Given) (s : Held) (b c : Bool) (n : Option Refusal) : Type 0 where
  pub takes : (facts g.what).takes_room ≡ true
  pub proper : b ≡ all_proper (facts g.what).tags
  pub known : c ≡ knows_all (facts g.what).names (view s).participants
  pub is : n ≡ room_first g.room s.count (tag_first b c)

module _ (g : Given) (s : Held) {b c : Bool} {n : Option Refusal} (f : First g s b c n) where
  abbrev short : Bool
  short = ltb g.room (56 * (s.count + 2))

  first-refusal : Passes s → 0 < refusal_number n → refusal_number n ≡ refusal_of g s
  first-refusal p = subst (λ (x : Option Refusal). 0 < refusal_number x → refusal_number x ≡ refusal_of g s) (sym f.is) (go short b c refl f.proper f.known)
    where
      wide : short ≡ false → ((facts g.what).takes_room && ltb g.room (room_for (view s))) ≡ false
      wide e = rw (f.takes, room_of s) e

      go : (a b c : Bool) → short ≡ a → b ≡ all_proper (facts g.what).tags → c ≡ knows_all (facts g.what).names (view s).participants
          → 0 < refusal_number (cond a (Some RoomTooSmall) (tag_first b c)) → refusal_number (cond a (Some RoomTooSmall) (tag_first b c)) ≡ refusal_of g s
      go true b c e q k l = refusal-8 g s p f.takes (rw (room_of s) e)
      go false false c e q k l = refusal-7 g s p (wide e) (sym q)
      go false true false e q k l = refusal-3 g s p (wide e) (sym q) (sym k)
      go false true true e q k l = absurd (omega arith)

  pub ends-first : (room : List ℕ) {r : Called} → (facts g.what).answer (view s) ≡ None → Passes s → (refusal_number n ≡ 0 → ⊥) → r ≡ replied s n None 0
      → Ends g s r room room
  ends-first room silent p h e = let l = above h in ends-refused g s room silent n (first-refusal p l) l e
    where
      above : {m : ℕ} → (m ≡ 0 → ⊥) → 0 < m
      above {m} h = by m h
        where
          by : (m : ℕ) → (m ≡ 0 → ⊥) → 0 < m
          by zero h = absurd (h refl)
          by (suc m) h = omega arith

  -- none of the three
  pub first-none : refusal_number n ≡ 0 → (56 * (s.count + 2) ≤ g.room) × (b ≡ true) × (c ≡ true)
  first-none h =
      let w = subst (λ (x : Option Refusal). refusal_number x ≡ 0 → (short ≡ false) × (b ≡ true) × (c ≡ true)) (sym f.is) (go short b c) h in
      (ltb-false g.room (56 * (s.count + 2)) w.0, w.1, w.2)
    where
      go : (a b c : Bool) → refusal_number (cond a (Some RoomTooSmall) (tag_first b c)) ≡ 0 → (a ≡ false) × (b ≡ true) × (c ≡ true)
      go true b c l = absurd (omega arith)
      go false false c l = absurd (omega arith)
      go false true false l = absurd (omega arith)
      go false true true l = (refl, refl, refl)

-- the actions of a taken call fit into the room that it demands
pub actions-fit : (g : Given) (s : Held) → Passes s → 0 ≡ refusal_of g s → 56 * length (take_step g.what (view s)).actions ≤ 56 * (s.count + 2)
unfolding call refusal_of
actions-fit g s p free =
    let q : refusal_of g s ≡ refusal g (view s) = rw p.neat refl in
    let e : eqb (refusal g (view s)) 0 ≡ true = ap (λ n. eqb n 0) (sym (free ∙ q)) in
    let h : 56 * length (take_step g.what (view s)).actions ≤ room_for (view s) = rw e at (call-fits-room g (view s)) in
    let n = room_of s in
    omega arith

-- ---- two calls that are refused alike and taken by the same step

-- refused alike if both are taken past 27 and 8
pub refused-alike : (n : ℕ) (c d : Call) (s : Held) → (facts c).takes_room ≡ true → (facts d).takes_room ≡ true
    → (Passes s → 56 * (s.count + 2) ≤ n → (0 ≡ refusal_of (lent n c) s) × (0 ≡ refusal_of (lent n d) s)) → refusal_of (lent n c) s ≡ refusal_of (lent n d) s
refused-alike n c d s tc td free = go (represents s && is_sound (view s)) (ltb n (56 * (s.count + 2))) refl refl
  where
    go : (a b : Bool) → (represents s && is_sound (view s)) ≡ a → ltb n (56 * (s.count + 2)) ≡ b → refusal_of (lent n c) s ≡ refusal_of (lent n d) s
    go true true e f = let p = passes s e in sym (refusal-8 (lent n c) s p tc (rw (room_of s) f)) ∙ refusal-8 (lent n d) s p td (rw (room_of s) f)
    go true false e f = let p = free (passes s e) (ltb-false n (56 * (s.count + 2)) f) in sym p.0 ∙ p.1
    go false b e f = sym (refusal-27 (lent n c) s e) ∙ refusal-27 (lent n d) s e

pub ends_as : (g k : Given) (s : Held) (room after : List ℕ) (r : Called) → refusal_of g s ≡ refusal_of k s
    → (facts g.what).answer (view s) ≡ (facts k.what).answer (view s)
    → (0 ≡ refusal_of g s → take_step g.what (view s) ≡ take_step k.what (view s)) → Ends g s r room after → Ends k s r room after
unfolding state_of actions_of answer_of
ends_as g k s room after r a q e o =
    let w = same (eqb (refusal_of g s) 0) refl in (
      record { refusal = o.0.refusal ∙ a; answer = o.0.answer ∙ w.2; actions = o.0.actions ∙ ap length w.1; state = o.0.state ∙ w.0 },
      o.1 ∙ ap (λ (l : List CoordinationAction). put_at room 0 (records_of l)) w.1,
    )
  where
    same : (b : Bool) → eqb (refusal_of g s) 0 ≡ b → (state_of g s ≡ state_of k s) × (actions_of g s ≡ actions_of k s) × (answer_of g s ≡ answer_of k s)
    same true h =
        let z : eqb (refusal_of k s) 0 ≡ true = ap (λ n. eqb n 0) (sym a) ∙ h in
        let step = e (sym (eqb-true (refusal_of g s) 0 h)) in
        rw (h, z) (ap (λ (x : Step). put s x.state) step, ap (λ (x : Step). x.actions) step, q)
    same false h = let z : eqb (refusal_of k s) 0 ≡ false = ap (λ n. eqb n 0) (sym a) ∙ h in rw (h, z) (refl, refl, ap refused_answer q)
