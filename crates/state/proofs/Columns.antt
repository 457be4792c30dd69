-- Columns written over: what stands at each place of `over`, of one run of values and of the three runs of the columns of tags, and that a column
-- with those cells is that one. By the stores that it amounts to, and by places. Assumes nothing.
use Rattle.std.specs.Prelude.{Option}
use Rattle.tags.specs.declared.Tag.{Tag}
use mathlib.Core.Path.{◌≡◌, refl, sym, ap, ◌∙◌, subst}
use mathlib.Core.Bool.{Bool, true, false}
use mathlib.Core.List.{List, [], ◌∷◌}
use Prim.Native.Nat.{ℕ, zero, suc, ◌+◌, ◌-◌, ◌≤◌, ◌<◌}
use native.Mathlib.Omega.{arith}
use lib.Dec.{ltb}
use lib.ListN.{length, get_or, set, length-set}
use lib.Seq.{sets, sets-eq, length-sets, get_or-set_same, get_or-set_other, ext_get_or}
use borrow.Author.Tests.{ltb-true, ltb-false}
use Rattle.rules.specs.Model.{Participant}
use Rattle.state.specs.View.{over}

-- ---- a run of stores

module _ {A : Type 0} (d : A) where
  sets-outside : (vs l : List A) (i k : ℕ) → ((j : ℕ) → j < length vs → k ≡ i + j → ⊥) → get_or (sets l i vs) k d ≡ get_or l k d
  sets-outside [] l i k h = refl
  sets-outside (a ∷ vs) l i k h =
      sets-outside vs (set l i a) (suc i) k (λ j q e. h (suc j) (omega arith) (omega arith)) ∙ get_or-set_other l i k a d (λ e. h 0 (omega arith) (omega arith))

  sets-within : (vs l : List A) (i j k : ℕ) → j < length vs → i + length vs ≤ length l → k ≡ i + j → get_or (sets l i vs) k d ≡ get_or vs j d
  sets-within [] l i j k h f e = absurd (omega arith)
  sets-within (a ∷ vs) l i zero k h f e =
      let m : k ≡ i = omega arith in
      sets-outside vs (set l i a) (suc i) k (λ j q z. omega arith) ∙ rw m (get_or-set_same l i a d (omega arith))
  sets-within (a ∷ vs) l i (suc j) k h f e =
      let z = length-set l i a in
      sets-within vs (set l i a) (suc i) j k (omega arith) (omega arith) (omega arith)

-- ---- one run of values

module _ {A : Type 0} (l : List A) (o : ℕ) (vs : List A) (fits : o + length vs ≤ length l) where
  over-stores : over l o vs ≡ sets l o vs
  over-stores = sym (sets-eq vs l o fits)

  pub over-length : length (over l o vs) ≡ length l
  over-length = ap length over-stores ∙ length-sets l o vs

  pub over-within : (d : A) (j k : ℕ) → j < length vs → k ≡ o + j → get_or (over l o vs) k d ≡ get_or vs j d
  over-within d j k h e = ap (λ (x : List A). get_or x k d) over-stores ∙ sets-within d vs l o j k h fits e

  pub over-outside : (d : A) (k : ℕ) → ((j : ℕ) → j < length vs → k ≡ o + j → ⊥) → get_or (over l o vs) k d ≡ get_or l k d
  over-outside d k h = ap (λ (x : List A). get_or x k d) over-stores ∙ sets-outside d vs l o k h

-- what holds below n and from n on holds everywhere
by-bound : (P : ℕ → Type 0) (n : ℕ) → ((j : ℕ) → j < n → P j) → ((j : ℕ) → n ≤ j → P j) → (j : ℕ) → P j
by-bound P n f g j = go (ltb j n) refl
  where
    go : (b : Bool) → ltb j n ≡ b → P j
    go true e = f j (ltb-true j n e)
    go false e = g j (ltb-false j n e)

-- the column that is vs in front and l past it
pub over-is : {A : Type 0} (d : A) (l r vs : List A) → length vs ≤ length l → length r ≡ length l → ((j : ℕ) → j < length vs → get_or r j d ≡ get_or vs j d)
    → ((j : ℕ) → length vs ≤ j → j < length l → get_or r j d ≡ get_or l j d) → r ≡ over l 0 vs
over-is d l r vs fits e f g =
    ext_get_or d r (over l 0 vs) (e ∙ sym (over-length l 0 vs (omega arith)))
    (λ j h. by-bound (λ j. j < length l → get_or r j d ≡ get_or (over l 0 vs) j d) (length vs)
    (λ j m q. f j m ∙ sym (over-within l 0 vs (omega arith) d j j m (omega arith)))
    (λ j m q. g j m q ∙ sym (over-outside l 0 vs (omega arith) d j (λ i p z. omega arith))) j (omega arith))

-- ---- three runs of values, in a column of tags

-- the kinds of tags in it, and the place of each kind's tag of participant j
pub data Kind : Type 0 where
  OfCandidate OfCompleted OfStarted : Kind

abbrev pub place : Kind → ℕ → ℕ
place OfCandidate j = j
place OfCompleted j = 32 + j
place OfStarted j = 64 + j

abbrev pub tag_of : Kind → Participant → Option Tag
tag_of OfCandidate p = p.candidate
tag_of OfCompleted p = p.completed
tag_of OfStarted p = p.started

-- no place is that of two participants
pub place-injective : (κ μ : Kind) (i j : ℕ) → i < 32 → j < 32 → place κ i ≡ place μ j → i ≡ j
place-injective OfCandidate OfCandidate i j h k e = e
place-injective OfCandidate OfCompleted i j h k e = omega arith
place-injective OfCandidate OfStarted i j h k e = omega arith
place-injective OfCompleted OfCandidate i j h k e = omega arith
place-injective OfCompleted OfCompleted i j h k e = omega arith
place-injective OfCompleted OfStarted i j h k e = omega arith
place-injective OfStarted OfCandidate i j h k e = omega arith
place-injective OfStarted OfCompleted i j h k e = omega arith
place-injective OfStarted OfStarted i j h k e = omega arith

-- every place of a column of tags is one of them
pub by_kind : (P : ℕ → Type 0) → ((κ : Kind) (j : ℕ) → j < 32 → P (place κ j)) → (k : ℕ) → k < 96 → P k
by_kind P f k h = go (ltb k 32) refl (ltb k 64) refl
  where
    go : (a : Bool) → ltb k 32 ≡ a → (b : Bool) → ltb k 64 ≡ b → P k
    go true e b z = f OfCandidate k (ltb-true k 32 e)
    go false e true z =
        let m = ltb-false k 32 e in
        let n = ltb-true k 64 z in
        let w : 32 + (k - 32) ≡ k = omega arith in
        subst P w (f OfCompleted (k - 32) (omega arith))
    go false e false z =
        let n = ltb-false k 64 z in
        let w : 64 + (k - 64) ≡ k = omega arith in
        subst P w (f OfStarted (k - 64) (omega arith))

abbrev pub over_three : {A : Type 0} → List A → (Kind → List A) → List A
over_three l v = over (over (over l 0 (v OfCandidate)) 32 (v OfCompleted)) 64 (v OfStarted)

module _ {A : Type 0} (l : List A) (v : Kind → List A) (n : ℕ) (each : (κ : Kind) → length (v κ) ≡ n) (few : n ≤ 32) (long : length l ≡ 96) where
  -- the column after the first run, and after the second
  abbrev once : List A
  once = over l 0 (v OfCandidate)

  abbrev twice : List A
  twice = over once 32 (v OfCompleted)

  -- each run stands within the column
  fits_one : 0 + length (v OfCandidate) ≤ length l
  fits_one = let e = each OfCandidate in omega arith

  length-once : length once ≡ 96
  length-once = over-length l 0 (v OfCandidate) fits_one ∙ long

  fits-two : 32 + length (v OfCompleted) ≤ length once
  fits-two = let e = each OfCompleted in let z = length-once in omega arith

  length-twice : length twice ≡ 96
  length-twice = over-length once 32 (v OfCompleted) fits-two ∙ length-once

  fits-three : 64 + length (v OfStarted) ≤ length twice
  fits-three = let e = each OfStarted in let z = length-twice in omega arith

  pub three-length : length (over_three l v) ≡ 96
  three-length = over-length twice 64 (v OfStarted) fits-three ∙ length-twice

  -- a run leaves what is none of its places
  past_one : (d : A) (k : ℕ) → ((j : ℕ) → j < n → k ≡ j → ⊥) → get_or once k d ≡ get_or l k d
  past_one d k h = over-outside l 0 (v OfCandidate) fits_one d k (λ j p z. let e = each OfCandidate in h j (omega arith) (omega arith))

  past_two : (d : A) (k : ℕ) → ((j : ℕ) → j < n → k ≡ 32 + j → ⊥) → get_or twice k d ≡ get_or once k d
  past_two d k h = over-outside once 32 (v OfCompleted) fits-two d k (λ j p z. let e = each OfCompleted in h j (omega arith) z)

  past_three : (d : A) (k : ℕ) → ((j : ℕ) → j < n → k ≡ 64 + j → ⊥) → get_or (over_three l v) k d ≡ get_or twice k d
  past_three d k h = over-outside twice 64 (v OfStarted) fits-three d k (λ j p z. let e = each OfStarted in h j (omega arith) z)

  pub three-within : (d : A) (κ : Kind) (j : ℕ) → j < n → get_or (over_three l v) (place κ j) d ≡ get_or (v κ) j d
  three-within d OfCandidate j h =
      let e = each OfCandidate in
      past_three d j (λ i p z. omega arith) ∙ past_two d j (λ i p z. omega arith) ∙ over-within l 0 (v OfCandidate) fits_one d j j (omega arith) (omega arith)
  three-within d OfCompleted j h =
      let e = each OfCompleted in
      past_three d (32 + j) (λ i p z. omega arith) ∙ over-within once 32 (v OfCompleted) fits-two d j (32 + j) (omega arith) refl
  three-within d OfStarted j h = let e = each OfStarted in over-within twice 64 (v OfStarted) fits-three d j (64 + j) (omega arith) refl

  pub three-past : (d : A) (κ : Kind) (j : ℕ) → n ≤ j → j < 32 → get_or (over_three l v) (place κ j) d ≡ get_or l (place κ j) d
  three-past d OfCandidate j g h = past_three d j (λ i p z. omega arith) ∙ past_two d j (λ i p z. omega arith) ∙ past_one d j (λ i p z. omega arith)
  three-past d OfCompleted j g h =
      past_three d (32 + j) (λ i p z. omega arith) ∙ past_two d (32 + j) (λ i p z. omega arith) ∙ past_one d (32 + j) (λ i p z. omega arith)
  three-past d OfStarted j g h =
      past_three d (64 + j) (λ i p z. omega arith) ∙ past_two d (64 + j) (λ i p z. omega arith) ∙ past_one d (64 + j) (λ i p z. omega arith)

  -- the column that is the runs at their places and l past them
  pub three-is : (d : A) (r : List A) → length r ≡ 96 → ((κ : Kind) (j : ℕ) → j < n → get_or r (place κ j) d ≡ get_or (v κ) j d)
      → ((κ : Kind) (j : ℕ) → n ≤ j → j < 32 → get_or r (place κ j) d ≡ get_or l (place κ j) d) → r ≡ over_three l v
  three-is d r e f g =
      ext_get_or d r (over_three l v) (e ∙ sym three-length)
      (λ k h. by_kind (λ k. get_or r k d ≡ get_or (over_three l v) k d) (λ κ. by-bound (λ j. j < 32 → get_or r (place κ j) d ≡ get_or (over_three l v) (place κ j) d) n
      (λ j p q. f κ j p ∙ sym (three-within d κ j p)) (λ j p q. g κ j p q ∙ sym (three-past d κ j p q))) k (omega arith))

-- ---- written over again

pub over-over : {A : Type 0} (d : A) (l vs ws : List A) → length vs ≡ length ws → length ws ≤ length l → over (over l 0 vs) 0 ws ≡ over l 0 ws
over-over d l vs ws e h =
    over-is d l (over (over l 0 vs) 0 ws) ws h (over-length (over l 0 vs) 0 ws again ∙ over-length l 0 vs (omega arith))
    (λ j p. over-within (over l 0 vs) 0 ws again d j j p (omega arith))
    (λ j p q. over-outside (over l 0 vs) 0 ws again d j (λ i u z. omega arith) ∙ over-outside l 0 vs (omega arith) d j (λ i u z. omega arith))
  where
    again : 0 + length ws ≤ length (over l 0 vs)
    again = let z = over-length l 0 vs (omega arith) in omega arith

pub three-three : {A : Type 0} (d : A) (l : List A) (v w : Kind → List A) (n : ℕ) → ((κ : Kind) → length (v κ) ≡ n) → ((κ : Kind) → length (w κ) ≡ n)
    → n ≤ 32 → length l ≡ 96 → over_three (over_three l v) w ≡ over_three l w
three-three d l v w n old new few long =
    let again = three-length l v n old few long in
    three-is l w n new few long d (over_three (over_three l v) w) (three-length (over_three l v) w n new few again) (three-within (over_three l v) w n new few again d)
    (λ κ j p q. three-past (over_three l v) w n new few again d κ j p q ∙ three-past l v n old few long d κ j p q)
