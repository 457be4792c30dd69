-- What a call of this crate promises at each of its returns, on plain values: the refusal by the tests made so far, the answer by the rule's test, and
-- the state stored. One law for the four calls that give one tag and name no enclave. Assumes nothing.
use Rattle.std.specs.Prelude.{Option, Some, None}
use Rattle.std.specs.Option.{is_some}
use mathlib.Core.Path.{◌≡◌, refl, sym, ap, ap₂, ◌∙◌, subst}
use mathlib.Core.Bool.{Bool, true, false, not, cond, ◌&&◌, ◌||◌}
use mathlib.Core.List.{List, [], ◌∷◌}
use Prim.Native.Nat.{ℕ, ◌+◌, ◌≤◌}
use lib.Dec.{T, ltb}
use lib.ListN.{length}
use Rattle.tags.specs.Tags.{within, is_proper, proper_if_present}
use Rattle.records.specs.Numbers.{refusal_number}
use Rattle.records.specs.declared.Refusal.{Refusal}
use Rattle.records.specs.declared.Refusal.TheVariants.{UnsoundState, ImproperTag}
use Rattle.rules.specs.Model.{Tag, State, Step, Call, horizon, begin, late, done, input}
use Rattle.rules.specs.Walk.{knows, quiet}
use Rattle.rules.specs.Gate.{is_late, is_completed}
use Rattle.rules.specs.Calls.{facts, says, own_step, take_step, is_sound, room_for, all_proper, knows_all, is_spent, ascending, refused_answer}
use Rattle.rules.proofs.Sound.{sound-ascending}
use Rattle.state.specs.declared.FederateCoordinationState.{FederateCoordinationState as Held}
use Rattle.state.specs.declared.Gate.{Gate}
use Rattle.state.specs.Cells.{optional_of, cell_of}
use Rattle.state.specs.View.{tag_at, rows_of, view, put, represents}
use Rattle.state.specs.Parts.{Seated, with_gate}
use Rattle.state.proofs.Rows.{known, neat-cell, optional-cell, rows-gate}
use Rattle.state.proofs.Neat.{count-bounds, gate-parts, gate-whole, neat-gate, neat-with-gate}
use Rattle.state.proofs.Put.{beyond-columns}
use Rattle.calls.specs.declared.Called.{Called}
use Rattle.calls.specs.declared.Reply.{Reply}
use Rattle.calls.specs.Called.{refusal_of, Promised, lent, replied}
use Rattle.calls.proofs.Refusals.{refuses, refuses-none, Passes, passes, refusal-27, refusal-7, refusal-3, refusal-0, refused, taken}
use Rattle.calls.proofs.Standing.{Standing, is-so, promised-refused, promised-taken}
use Rattle.gate.specs.Replies.{Replies, answering}
use Rattle.gate.specs.Parts.{sound_then_proper}
use Rattle.state.proofs.Seats.{any-seated, any-unknown}

-- ---- the refusals

-- a call that takes no room, gives one tag, names no enclave and is no message
pub record Asks (c : Call) (t : Option Tag) : Type 0 where
  pub roomless : (facts c).takes_room ≡ false
  pub tags : (facts c).tags ≡ t ∷ []
  pub nameless : (facts c).names ≡ []
  pub right : (m : State) → (facts c).wrong_in m ≡ false
  pub unspent : (facts c).message ≡ false

pub asks-horizon : (h : Option Tag) → Asks (horizon h) h
asks-horizon h = record { roomless = refl; tags = refl; nameless = refl; right = λ m. refl; unspent = refl }

pub asks-begin : (e : ℕ) (t : Tag) → Asks (begin e t) (Some t)
asks-begin e t = record { roomless = refl; tags = refl; nameless = refl; right = λ m. refl; unspent = refl }

module _ (c : Call) (t : Option Tag) (k : Asks c t) (s : Held) where
  roomy : ((facts c).takes_room && ltb 0 (room_for (view s))) ≡ false
  roomy = ap (λ b. b && ltb 0 (room_for (view s))) k.roomless

  tag_is : (b : Bool) → proper_if_present t ≡ b → all_proper (facts c).tags ≡ (b && true)
  tag_is b e = ap all_proper k.tags ∙ ap (λ x. x && true) e

  asks-7 : Passes s → proper_if_present t ≡ false → 7 ≡ refusal_of (lent 0 c) s
  asks-7 p e = refusal-7 (lent 0 c) s p roomy (tag_is false e)

  pub asks-0 : Passes s → proper_if_present t ≡ true → 0 ≡ refusal_of (lent 0 c) s
  asks-0 p e =
      refusal-0 (lent 0 c) s p roomy (tag_is true e) (ap (λ l. knows_all l (rows_of s)) k.nameless) (k.right (view s))
      (ap (λ b. b && is_spent (own_step c (view s)).state) k.unspent)

  -- by the test that the code makes of both
  module _ {b : Bool} (q : b ≡ proper_if_present t) (n : Option Refusal) (is : n ≡ sound_then_proper s b) where
    pub asks-number : refusal_number n ≡ refusal_of (lent 0 c) s
    asks-number = subst (λ (x : Option Refusal). refusal_number x ≡ refusal_of (lent 0 c) s) (sym is) (go (represents s && is_sound (view s)) b refl (sym q))
      where
        go : (x y : Bool) → (represents s && is_sound (view s)) ≡ x → proper_if_present t ≡ y
            → refusal_number (cond x (cond y None (Some ImproperTag)) (Some UnsoundState)) ≡ refusal_of (lent 0 c) s
        go true true p e = asks-0 (passes s p) e
        go true false p e = asks-7 (passes s p) e
        go false y p e = refusal-27 (lent 0 c) s p

    pub asks-passed : is_some n ≡ false → Passes s × (proper_if_present t ≡ true)
    asks-passed h = go (represents s && is_sound (view s)) b refl (sym q) (ap is_some (sym is) ∙ h)
      where
        go : (x y : Bool) → (represents s && is_sound (view s)) ≡ x → proper_if_present t ≡ y
            → is_some (cond x (cond y None (Some ImproperTag)) (Some UnsoundState)) ≡ false → Passes s × (proper_if_present t ≡ true)
        go true true p e l = (passes s p, e)
        go true false p e l = cc
        go false y p e l = cc

module _ (es : List ℕ) (s : Held) (p : Passes s) where
  pub input-3 : knows_all es (rows_of s) ≡ false → 3 ≡ refusal_of (lent 0 (input es)) s
  input-3 h = refusal-3 (lent 0 (input es)) s p refl refl h

  pub input-0 : knows_all es (rows_of s) ≡ true → 0 ≡ refusal_of (lent 0 (input es)) s
  input-0 h = refusal-0 (lent 0 (input es)) s p refl refl h refl refl

-- ---- what is promised of a state handed back

-- a refused question answers no
pub refused-no : (b : Bool) → (Some false) ≡ refused_answer (says b)
refused-no true = refl
refused-no false = refl

-- refused by 27 or 7
pub ends-asked : (c : Call) (t : Option Tag) → Asks c t → (s : Held) {b : Bool} → b ≡ proper_if_present t → (n : Option Refusal) → n ≡ sound_then_proper s b → is_some n ≡ true
    → (x : Option Bool) → x ≡ refused_answer ((facts c).answer (view s)) → {r : Called} → r ≡ replied s n x 0 → Promised (lent 0 c) s r
ends-asked c t k s q n is h x y e = promised-refused (lent 0 c) s n x (asks-number c t k s q n is) (refuses n h) y e

-- ---- set_input_horizon

-- "setting the input horizon (it only stores)"
abbrev capped : Gate → Tag → Gate
capped g t = record g { input_horizon = t }

module _ (s : Held) (h : Option Tag) (st : Standing s) (proper : proper_if_present h ≡ true) where
  is-proper : T (proper_if_present h)
  is-proper = subst T (sym proper) tt

  step-capped : take_step (horizon h) (view s) ≡ quiet (view (with_gate (capped s.gate (cell_of h)) s))
  unfolding take_step own_step
  step-capped =
      λ k. quiet (record (view s) { participants = sym (rows-gate s (capped s.gate (cell_of h)) refl) k; input_horizon = sym (optional-cell h is-proper) k })

  capped-neat : T (represents (with_gate (capped s.gate (cell_of h)) s))
  capped-neat =
      let w = gate-parts s.gate (neat-gate s st.good.neat) in
      neat-with-gate s st.good.neat (capped s.gate (cell_of h))
      (gate-whole (capped s.gate (cell_of h)) (record { input_horizon = neat-cell h is-proper; granted = w.granted; stored = w.stored; revision = w.revision }))

  pub ends-capped : (t : Tag) (r : Called) → t ≡ cell_of h → r ≡ replied (with_gate (capped s.gate t) s) None None 0 → Promised (lent 0 (horizon h)) s r
  ends-capped t r q e =
      promised-taken (lent 0 (horizon h)) s st (asks-0 (horizon h) h (asks-horizon h) s st.passing proper) None refl (with_gate (capped s.gate (cell_of h)) s) []
      (beyond-columns s (with_gate (capped s.gate (cell_of h)) s) refl refl refl refl refl refl refl refl refl) capped-neat step-capped refl
      (e ∙ ap (λ x. replied (with_gate (capped s.gate x) s) None None 0) q)

-- ---- what is promised of a question that hands no state back

some-says : (b : Bool) → Some b ≡ says b
some-says true = refl
some-says false = refl

-- c asks q about the tag t, and changes nothing
pub record Question (c : Call) (t : Tag) (q : State → Bool) : Type 0 where
  pub asks : Asks c (Some t)
  pub answers : (m : State) → (facts c).answer m ≡ says (q m)
  pub still : (m : State) → take_step c m ≡ quiet m

module _ {c : Call} {t : Tag} {q : State → Bool} (k : Question c t q) (s : Held) {b : Bool} (p : b ≡ is_proper t) (n : Option Refusal) (is : n ≡ sound_then_proper s b) where
  shown : (v : Held) (m : Option Refusal) (y : Bool) → Promised (lent 0 c) s (replied v m (Some y) 0) → Replies (lent 0 c) s (answering m y)
  shown v m y w = record { refusal = w.refusal; answer = w.answer; actions = w.actions }

  pub asked-passed : is_some n ≡ false → Passes s
  asked-passed h = (asks-passed c (Some t) k.asks s p n is h).0

  pub asked-refused : {r : Reply} → is_some n ≡ true → r ≡ answering n false → Replies (lent 0 c) s r
  asked-refused h e =
      subst (Replies (lent 0 c) s) (sym e)
      (shown s n false (refused (lent 0 c) s n (Some false) (asks-number c (Some t) k.asks s p n is) (refuses n h)
      (refused-no (q (view s)) ∙ ap refused_answer (sym (k.answers (view s))))))

  -- neither 27 nor 7
  pub asked-taken : {r : Reply} (y : Bool) → is_some n ≡ false → (Passes s → y ≡ q (view s)) → r ≡ answering n y → Replies (lent 0 c) s r
  asked-taken y h says_so e =
      let w = asks-passed c (Some t) k.asks s p n is h in
      let still = k.still (view s) in
      let v = put s (take_step c (view s)).state in
      subst (Replies (lent 0 c) s) (sym (e ∙ ap (λ (m : Option Refusal). answering m y) (refuses-none n h)))
      (shown v None y (taken (lent 0 c) s v (Some y) 0 (asks-0 c (Some t) k.asks s w.0 w.1)
      (some-says y ∙ ap says (says_so w.0) ∙ sym (k.answers (view s))) (ap (λ (o : Step). length o.actions) (sym still)) refl))

-- ---- input_is_late, input_completed

module _ (s : Held) (e : ℕ) (t : Tag) where
  pub late-unknown : knows e (rows_of s) ≡ false → true ≡ is_late e t (view s)
  late-unknown h = sym (ap₂ (λ a b. not a || b) h (any-unknown e (λ p. within t p.started || within t p.completed) (rows_of s) h))

  pub done-unknown : knows e (rows_of s) ≡ false → false ≡ is_completed e t (view s)
  done-unknown h = sym (any-unknown e (λ p. within t p.completed) (rows_of s) h)

  -- by what stands at its place
  module _ (i : ℕ) (d : Seated s e i) where
    late-known : {a b : Bool} → a ≡ within t (optional_of (tag_at s (64 + i))) → b ≡ within t (optional_of (tag_at s (32 + i))) → (a || b) ≡ is_late e t (view s)
    late-known p q = (λ k. p k || q k) ∙ sym (ap₂ (λ a b. not a || b) (known s e i d) (any-seated s e i d (λ p. within t p.started || within t p.completed)))

    pub late-started : {a : Bool} → a ≡ within t (optional_of (tag_at s (64 + i))) → a ≡ true → true ≡ is_late e t (view s)
    late-started p h = late-known (sym h ∙ p) refl

    pub late-completed : {a b : Bool} → a ≡ within t (optional_of (tag_at s (64 + i))) → b ≡ within t (optional_of (tag_at s (32 + i))) → a ≡ false → b ≡ is_late e t (view s)
    late-completed p q h = late-known (sym h ∙ p) q

    pub done-known : {b : Bool} → b ≡ within t (optional_of (tag_at s (32 + i))) → b ≡ is_completed e t (view s)
    done-known q = q ∙ sym (any-seated s e i d (λ p. within t p.completed))

pub late-question : (e : ℕ) (t : Tag) → Question (late e t) t (is_late e t)
unfolding take_step own_step
late-question e t = record { asks = record { roomless = refl; tags = refl; nameless = refl; right = λ m. refl; unspent = refl }; answers = λ m. refl; still = λ m. refl }

pub done-question : (e : ℕ) (t : Tag) → Question (done e t) t (is_completed e t)
unfolding take_step own_step
done-question e t = record { asks = record { roomless = refl; tags = refl; nameless = refl; right = λ m. refl; unspent = refl }; answers = λ m. refl; still = λ m. refl }

-- ---- of a state that passes 27

pub few-in : (s : Held) → Passes s → s.count ≤ 32
few-in s p = (count-bounds s (is-so p.sound)).1

pub ascends-in : (s : Held) → Passes s → T (ascending (rows_of s))
ascends-in s p = sound-ascending (view s) (is-so p.sound)

-- by the test of 27
pub few-of : (s : Held) {b : Bool} → b ≡ (represents s && is_sound (view s)) → b ≡ true → s.count ≤ 32
few-of s e h = few-in s (passes s (sym e ∙ h))
