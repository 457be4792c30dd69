-- Adding records to those written so far: one more is put right after them, none leaves them, and two additions are one. Assumes nothing.
use mathlib.Core.Path.{◌≡◌, refl, sym, ap, ◌∙◌}
use mathlib.Core.Bool.{Bool, true, false, cond}
use mathlib.Core.List.{List, [], ◌∷◌, ◌++◌, append-nil, append_assoc}
use Prim.Native.Nat.{ℕ, zero, suc, ◌+◌, ◌*◌}
use native.Mathlib.Numerals.{add-one}
use native.Mathlib.Omega.{arith}
use lib.ListN.{length, length-append}
use Rattle.octets.specs.Runs.{written}
use Rattle.actions.specs.Record.{record_of, records_of}
use Rattle.octets.proofs.Runs.{put-nil, length-put, written-fits}
use Rattle.actions.proofs.Record.{length-record, length-records, put_next}
use Rattle.rules.specs.Model.{CoordinationAction}
use Rattle.state.specs.Walk.{each_from}
use Rattle.emission.specs.Written.{Written, Adds}

-- before the first
pub none_written : (room : List ℕ) → Written room [] room 0
unfolding records_of
none_written room = record { bytes = sym (put-nil room 0); number = refl }

pub add-one-more : (room room' : List ℕ) (n k : ℕ) (a : CoordinationAction) → room' ≡ written room (56 * n) (record_of a) → k ≡ n + 1 → Adds (a ∷ []) room n room' k
add-one-more room room' n k a e q room₀ acts w h =
    let x = length-records acts in
    let y = length-record a in
    let z : length room ≡ length room₀ = ap length w.bytes ∙ length-put room₀ 0 (records_of acts) (omega arith) in
    record {
      bytes = e ∙ ap (λ m. written room (56 * m) (record_of a)) w.number ∙ written-fits room (56 * length acts) (record_of a) (omega arith) ∙ put_next room₀ room acts a w.bytes (omega arith);
      number = q ∙ ap (λ m. m + 1) w.number ∙ sym (length-append acts (a ∷ []));
    }

pub add_none : (room : List ℕ) (n : ℕ) → Adds [] room n room n
add_none room n room₀ acts w h = rw append-nil w

pub add-then : (more last : List CoordinationAction) (room room₁ room₂ : List ℕ) (n n₁ n₂ : ℕ) → Adds more room n room₁ n₁ → Adds last room₁ n₁ room₂ n₂ → Adds (more ++ last) room n room₂ n₂
add-then more last room room₁ room₂ n n₁ n₂ f g room₀ acts w h =
    let l = length-append more last in
    let k = length-append acts more in
    rw (← append_assoc acts more last) (g room₀ (acts ++ more) (f room₀ acts w (omega arith)) (omega arith))

-- one place more, the last
each_last : {A : Type 0} (q : ℕ → Bool) (f : ℕ → A) (n k j : ℕ) → j ≡ k + n → each_from q f k (suc n) ≡ each_from q f k n ++ cond (q j) (f j ∷ []) []
unfolding each_from
each_last q f zero k j e = let z : j ≡ k = omega arith in rw z refl
each_last {A} q f (suc n) k j e = go (q k) (each_last q f n (k + 1) j (omega arith))
  where
    go : (b : Bool) → each_from q f (k + 1) (suc n) ≡ each_from q f (k + 1) n ++ cond (q j) (f j ∷ []) []
        → cond b (f k ∷ each_from q f (k + 1) (suc n)) (each_from q f (k + 1) (suc n)) ≡ cond b (f k ∷ each_from q f (k + 1) n) (each_from q f (k + 1) n) ++ cond (q j) (f j ∷ []) []
    go true h = ap (λ (l : List A). f k ∷ l) h
    go false h = h

pub each_more : {A : Type 0} (q : ℕ → Bool) (f : ℕ → A) (n : ℕ) → each_from q f 0 (n + 1) ≡ each_from q f 0 n ++ cond (q n) (f n ∷ []) []
each_more q f n = rw (add-one n) (each_last q f n 0 n (omega arith))

-- a turn of the loop: what was added for the first i places, and for place i
pub add_turn : (q : ℕ → Bool) (f : ℕ → CoordinationAction) (i : ℕ) (room room₁ room₂ : List ℕ) (n n₁ n₂ : ℕ) → Adds (each_from q f 0 i) room n room₁ n₁ → Adds (cond (q i) (f i ∷ []) []) room₁ n₁ room₂ n₂ → Adds (each_from q f 0 (i + 1)) room n room₂ n₂
add_turn q f i room room₁ room₂ n n₁ n₂ g h = rw (each_more q f i) (add-then (each_from q f 0 i) (cond (q i) (f i ∷ []) []) room room₁ room₂ n n₁ n₂ g h)

-- with a test of place i that led there
module _ (q : ℕ → Bool) (f : ℕ → CoordinationAction) (i : ℕ) (room room₁ : List ℕ) (n n₁ : ℕ) (b : Bool) (is : b ≡ q i) (turns : Adds (each_from q f 0 i) room n room₁ n₁) where
  pub turn_added : b ≡ true → (room₂ : List ℕ) (n₂ : ℕ) → Adds (f i ∷ []) room₁ n₁ room₂ n₂ → Adds (each_from q f 0 (i + 1)) room n room₂ n₂
  turn_added h room₂ n₂ g = add_turn q f i room room₁ room₂ n n₁ n₂ turns (rw (← is, h) g)

  pub turn_passed : b ≡ false → Adds (each_from q f 0 (i + 1)) room n room₁ n₁
  turn_passed h = add_turn q f i room room₁ room₁ n n₁ n₁ turns (rw (← is, h) (add_none room₁ n₁))

pub add_start : (q : ℕ → Bool) (f : ℕ → CoordinationAction) (room : List ℕ) (n : ℕ) → Adds (each_from q f 0 0) room n room n
unfolding each_from
add_start q f room n = add_none room n
