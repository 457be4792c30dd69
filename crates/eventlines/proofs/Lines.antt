-- A line by its word's number: an `input` names at most 32 enclaves and every other event none, so that the event with the padded list tells the call.
-- Assumes nothing.
use Rattle.std.specs.Prelude.{None, Option, Some}
use mathlib.Core.Path.{◌≡◌, refl, sym, ap, ◌∙◌}
use mathlib.Core.Bool.{Bool, true, false, cond}
use mathlib.Core.List.{List, [], ◌∷◌}
use Prim.Native.Nat.{ℕ, suc, ◌≤◌}
use native.Mathlib.Omega.{arith}
use lib.Dec.{eqb}
use lib.ListN.{length, take}
use borrow.Author.Tests.{eq-eqb, ne_eqb, eqb-true}
use Rattle.numerals.specs.Numerals.{space, given, number_of, tag_of, optional_tag_of}
use Rattle.numerals.specs.Told.{until}
use Rattle.numerals.proofs.Splits.{by-test}
use Rattle.numerals.proofs.Numbers.{number-le}
use Rattle.rules.specs.Model.{Call, active, stopped, publish, complete, observed, failed, acquire, sent, observe, idle, stop, progress, horizon, begin, late, done, input}
use Rattle.events.specs.declared.Event.{Event}
use Rattle.events.specs.declared.Event.TheVariants as event
use Rattle.eventlines.specs.declared.Named.{Named}
use Rattle.events.specs.Events.{word_of, wide_of, enclave_of, mark_of, observation_of, event_number, both, three, words, listed, input_of, by_fields, event_of}
use Rattle.events.specs.Events.{without_fields, with_one_field, with_two_fields, with_three_fields}
use Rattle.events.specs.Told.{call_told, event_telling, told_event, event_for, inputs, named_in, padded, enclaves_of, fields_from}
use Rattle.eventlines.specs.Named.{named_of}
use Rattle.eventlines.proofs.Between.{fields-first}
use Rattle.eventlines.proofs.Listed.{take-padded}

-- ---- an event other than `input` names no enclaves

record Plain (c : Option Call) : Type 0 where
  plain : named_in c ≡ []

plain-none : Plain None
plain-none = record { plain = refl }

plain-cond : (b : Bool) {x y : Option Call} → Plain x → Plain y → Plain (cond b x y)
plain-cond true p q = p
plain-cond false p q = q

plain-given : {X : Type 0} (o : Option X) (f : X → Call) → ((x : X) → inputs (f x) ≡ []) → Plain (given o f)
plain-given None f h = plain-none
plain-given (Some x) f h = record { plain = h x }

plain-both : {X Y : Type 0} (o : Option X) (p : Option Y) (f : X → Y → Call) → ((x : X) (y : Y) → inputs (f x y) ≡ []) → Plain (both o p f)
plain-both None p f h = plain-none
plain-both (Some x) p f h = plain-given p (f x) (h x)

plain-three : {W X Y : Type 0} (o : Option W) (p : Option X) (q : Option Y) (f : W → X → Y → Call) → ((w : W) (x : X) (y : Y) → inputs (f w x y) ≡ [])
    → Plain (three o p q f)
plain-three None p q f h = plain-none
plain-three (Some w) p q f h = plain-both p q (f w) (h w)

plain-fields : (k : ℕ) (fs : List (List ℕ)) → Plain (by_fields k fs)
unfolding without_fields with_one_field with_two_fields with_three_fields
plain-fields k [] = plain-cond (eqb k 11) (record { plain = refl }) (plain-cond (eqb k 17) (record { plain = refl }) plain-none)
plain-fields k (a ∷ []) =
    plain-cond (eqb k 1) (plain-given (word_of a) active (λ x. refl))
    (plain-cond (eqb k 5) (plain-given (word_of a) stopped (λ x. refl))
    (plain-cond (eqb k 6) (plain-given (enclave_of a) failed (λ x. refl))
    (plain-cond (eqb k 10) (plain-given (wide_of a) idle (λ x. refl))
    (plain-cond (eqb k 12) (plain-given (optional_tag_of a) horizon (λ x. refl)) plain-none))))
plain-fields k (a ∷ b ∷ []) =
    plain-cond (eqb k 2) (plain-both (word_of a) (optional_tag_of b) publish (λ x y. refl))
    (plain-cond (eqb k 4) (plain-both (word_of a) (wide_of b) observed (λ x y. refl))
    (plain-cond (eqb k 7) (plain-both (wide_of a) (tag_of b) acquire (λ x y. refl))
    (plain-cond (eqb k 13) (plain-both (word_of a) (tag_of b) begin (λ x y. refl))
    (plain-cond (eqb k 14) (plain-both (word_of a) (tag_of b) late (λ x y. refl))
    (plain-cond (eqb k 15) (plain-both (word_of a) (tag_of b) done (λ x y. refl)) plain-none)))))
plain-fields k (a ∷ b ∷ c ∷ []) =
    plain-cond (eqb k 3) (plain-three (word_of a) (tag_of b) (mark_of c) complete (λ w x y. refl))
    (plain-cond (eqb k 8) (plain-three (wide_of a) (optional_tag_of b) (optional_tag_of c) sent (λ w x y. refl))
    (plain-cond (eqb k 9) (plain-three (word_of a) (wide_of b) (observation_of c) observe (λ w x y. refl)) plain-none))
plain-fields k (a ∷ b ∷ c ∷ d ∷ fs) = plain-none

-- ---- an `input` names at most 32

both-cons : (o : Option ℕ) (p : Option (List ℕ)) (es : List ℕ) (n : ℕ) → both o p ◌∷◌ ≡ Some es
    → ((ds : List ℕ) → p ≡ Some ds → length ds ≡ n) → length es ≡ suc n
both-cons None p es n h g = let z : ◌≡◌ {A = ℕ} 0 1 = cc in absurd (omega arith)
both-cons (Some e) None es n h g = let z : ◌≡◌ {A = ℕ} 0 1 = cc in absurd (omega arith)
both-cons (Some e) (Some ds) es n h g = let z : e ∷ ds ≡ es = cc in sym (ap length z) ∙ ap suc (g ds refl)

length-words : (fs : List (List ℕ)) (es : List ℕ) → words fs ≡ Some es → length es ≡ length fs
length-words [] es h = let z : [] ≡ es = cc in sym (ap length z)
length-words (f ∷ fs) es h = both-cons (word_of f) (words fs) es (length fs) h (λ ds q. length-words fs ds q)

listed-names : (o : Option ℕ) (fs : List (List ℕ)) → ((n : ℕ) → o ≡ Some n → n ≤ 32) → length (named_in (listed o fs)) ≤ 32
listed-names None fs b = omega arith
listed-names (Some n) fs b = by-test (eqb n (length fs)) (λ e. rw e (by-words (eqb-true n (length fs) e) (words fs) refl)) (λ e. rw e (omega arith))
  where
    by-words : n ≡ length fs → (o : Option (List ℕ)) → words fs ≡ o → length (named_in (given o input)) ≤ 32
    by-words e None q = omega arith
    by-words e (Some es) q = omega (arith, length-words fs es q, b n refl)

input-names : (fs : List (List ℕ)) → length (named_in (input_of fs)) ≤ 32
input-names [] = omega arith
input-names (n ∷ es) = listed-names (number_of 32 n) es (λ k q. number-le 32 n k q)

-- ---- the event of an `input`, and its enclaves, by what its fields name

abbrev pub input_told : Option Named → Option Event
input_told None = None
input_told (Some m) = Some (event.Input m.count)

listed-event : (o : Option ℕ) (fs : List (List ℕ)) → input_told (named_of (listed o fs)) ≡ event_for (listed o fs)
listed-event None fs = refl
listed-event (Some n) fs = by-test (eqb n (length fs)) (λ e. rw e (by-words (words fs))) (λ e. rw e)
  where
    by-words : (o : Option (List ℕ)) → input_told (named_of (given o input)) ≡ event_for (given o input)
    by-words None = refl
    by-words (Some es) = refl

pub input-event : (fs : List (List ℕ)) → input_told (named_of (input_of fs)) ≡ event_for (input_of fs)
input-event [] = refl
input-event (n ∷ es) = listed-event (number_of 32 n) es

abbrev pub enclaves_in : Option Named → List ℕ
enclaves_in None = padded 32 []
enclaves_in (Some m) = m.enclaves

pub enclaves-in : (c : Option Call) → enclaves_in (named_of c) ≡ padded 32 (named_in c)
enclaves-in None = refl
enclaves-in (Some c) = refl

-- ---- a line by its word's number

module _ (line : List ℕ) (a : ℕ) (found : a ≡ until space line) (k : ℕ) (number : k ≡ event_number (take a line)) where
  line-event : event_of line ≡ cond (eqb k 16) (input_of (fields_from a line)) (by_fields k (fields_from a line))
  unfolding event_of
  line-event = rw (fields-first line a found, number)

  pub line-input : k ≡ 16 → event_of line ≡ input_of (fields_from a line)
  line-input h = line-event ∙ rw (eq-eqb k 16 h)

  pub line_other : (k ≡ 16 → ⊥) → event_of line ≡ by_fields k (fields_from a line)
  line_other h = line-event ∙ rw (ne_eqb k 16 h)

  pub enclaves-input : k ≡ 16 → padded 32 (named_in (input_of (fields_from a line))) ≡ enclaves_of line
  unfolding enclaves_of
  enclaves-input h = ap (λ (c : Option Call). padded 32 (named_in c)) (sym (line-input h))

  pub enclaves-other : (k ≡ 16 → ⊥) → padded 32 [] ≡ enclaves_of line
  unfolding enclaves_of
  enclaves-other h = ap (padded 32) (sym (ap named_in (line_other h) ∙ (plain-fields k (fields_from a line)).plain))

line-names : (line : List ℕ) → length (named_in (event_of line)) ≤ 32
line-names line =
    let a = until space line in
    let k = event_number (take a line) in
    by-test (eqb k 16)
    (λ e. rw (line-input line a refl k refl (eqb-true k 16 e)) (input-names (fields_from a line)))
    (λ e.
    let q : event_of line ≡ by_fields k (fields_from a line) = line-event line a refl k refl ∙ rw e in
    omega (arith, ap length (ap named_in q ∙ (plain-fields k (fields_from a line)).plain)))

told_call : (c : Call) → length (inputs c) ≤ 32 → call_told (event_telling c) (padded 32 (inputs c)) ≡ c
told_call (active e) h = refl
told_call (publish e t) h = refl
told_call (complete e t m) h = refl
told_call (observed e g) h = refl
told_call (stopped e) h = refl
told_call (failed e) h = refl
told_call (acquire r t) h = refl
told_call (sent r t u) h = refl
told_call (observe e r o) h = refl
told_call (idle r) h = refl
told_call stop h = refl
told_call (horizon t) h = refl
told_call (begin e t) h = refl
told_call (late e t) h = refl
told_call (done e t) h = refl
told_call (input es) h = ap input (take-padded 32 es h)
told_call progress h = refl

told_back : (c : Option Call) → length (named_in c) ≤ 32 → told_event (event_for c) (padded 32 (named_in c)) ≡ c
told_back None h = refl
told_back (Some c) h = ap Some (told_call c h)

-- the event that tells a line's call tells it beside the line's enclaves
pub event-tells : (line : List ℕ) (r : Option Event) (c : Option Call) → r ≡ event_for c → event_of line ≡ c → told_event r (enclaves_of line) ≡ event_of line
unfolding enclaves_of
event-tells line r c e q =
    ap (λ (x : Option Event). told_event x (padded 32 (named_in (event_of line)))) (e ∙ sym (ap event_for q)) ∙ told_back (event_of line) (line-names line)
