-- The participants that the columns show: the rules' walks over them are walks over places, a change of cells is a change of participants, and the
-- first place that holds an index is the only one, since indices ascend. By induction on the places. Assumes nothing.
use Rattle.std.specs.Prelude.{None, Some, Option}
use mathlib.Core.Path.{◌≡◌, refl, sym, ap, ◌∙◌, subst}
use mathlib.Core.Bool.{Bool, true, false, not, cond, ◌&&◌, ◌||◌}
use mathlib.Core.List.{List, [], ◌∷◌, map}
use Prim.Native.Nat.{ℕ, zero, suc, ◌+◌, ◌≤◌, ◌<◌}
use native.Mathlib.Nat.{not-suc-le-zero}
use native.Mathlib.Omega.{arith}
use lib.Dec.{T, eqb, ltb, ltb→lt}
use lib.IntN.{ℤ, pos}
use lib.ListN.{length, get_or, set, replicate, drop, length-set, length-replicate, get_or-replicate, get_or-append}
use lib.Seq.{get_or-set_same, get_or-set_other}
use lib.Signed.{lt_z, le_z, le_z_yes, lt_z_yes, clash_ℤ}
use borrow.Author.Tests.{ltb-true, ltb-false, eqb-true, eqb-false, eq-eqb, ne_eqb}
use Rattle.tags.specs.Tags.{◌≤ₜ◌, ◌≡ₜ◌, lesser_present, greater_present, is_proper, proper_time, proper_if_present, never, forever, within_second, opposite_signs}
use Rattle.tags.proofs.Order.{≤ₜ-anti, ≤ₜ-refl}
use Rattle.rules.specs.Model.{Tag, Participant, CoordinationAction}
use Rattle.rules.specs.Walk.{all, any, each, least_of, greatest_of, find, knows, at}
use Rattle.rules.specs.Publication.{forget}
use Rattle.rules.specs.Calls.{ascending}
use Rattle.rules.proofs.Lists.{and_left, and_right}
use Rattle.rules.proofs.Invariants.{and_intro}
use Rattle.state.specs.declared.FederateCoordinationState.{FederateCoordinationState as Held}
use Rattle.state.specs.declared.Gate.{Gate}
use Rattle.state.specs.declared.Row.{Row}
use Rattle.state.specs.declared.Parts.{Parts}
use Rattle.state.specs.Walk.{tab, all_of, any_of, place_from, least_from, greatest_from, each_from}
use Rattle.state.specs.Cells.{absent, is_absent, optional_of, cell_of, is_neat, is_cell, tag_in, number_if, observation_of}
use Rattle.state.specs.View.{tag_at, row_at, rows_of}
use Rattle.state.specs.Parts.{Sized, Apart, Seated, placed, place_in, row_of, row_put, rebuilt, cleared, with_gate}

-- ---- the rules' walks over listed places

pub all-tab : (q : Participant → Bool) (f : ℕ → Participant) (k n : ℕ) → all q (tab f k n) ≡ all_of (λ j. q (f j)) k n
unfolding all_of
all-tab q f k zero = refl
all-tab q f k (suc n) = ap (λ b. q (f k) && b) (all-tab q f (k + 1) n)

pub any-tab : (q : Participant → Bool) (f : ℕ → Participant) (k n : ℕ) → any q (tab f k n) ≡ any_of (λ j. q (f j)) k n
unfolding any_of
any-tab q f k zero = refl
any-tab q f k (suc n) = ap (λ b. q (f k) || b) (any-tab q f (k + 1) n)

pub least-tab : (g : Participant → Option Tag) (f : ℕ → Participant) (k n : ℕ) → least_of g (tab f k n) ≡ least_from (λ j. g (f j)) k n
unfolding least_from
least-tab g f k zero = refl
least-tab g f k (suc n) = ap (lesser_present (g (f k))) (least-tab g f (k + 1) n)

pub greatest-tab : (g : Participant → Option Tag) (f : ℕ → Participant) (k n : ℕ) → greatest_of g (tab f k n) ≡ greatest_from (λ j. g (f j)) k n
unfolding greatest_from
greatest-tab g f k zero = refl
greatest-tab g f k (suc n) = ap (greater_present (g (f k))) (greatest-tab g f (k + 1) n)

pub each-tab : (q : Participant → Bool) (g : Participant → CoordinationAction) (f : ℕ → Participant) (k n : ℕ)
    → each q g (tab f k n) ≡ each_from (λ j. q (f j)) (λ j. g (f j)) k n
unfolding each_from
each-tab q g f k zero = refl
each-tab q g f k (suc n) = ap (λ (r : List CoordinationAction). cond (q (f k)) (g (f k) ∷ r) r) (each-tab q g f (k + 1) n)

-- the same over the participants of a state
module _ (s : Held) where
  pub all-rows : (q : Participant → Bool) → all q (rows_of s) ≡ all_of (λ j. q (row_at s j)) 0 s.count
  all-rows q = all-tab q (row_at s) 0 s.count

  pub any-rows : (q : Participant → Bool) → any q (rows_of s) ≡ any_of (λ j. q (row_at s j)) 0 s.count
  any-rows q = any-tab q (row_at s) 0 s.count

  pub least-rows : (g : Participant → Option Tag) → least_of g (rows_of s) ≡ least_from (λ j. g (row_at s j)) 0 s.count
  least-rows g = least-tab g (row_at s) 0 s.count

  pub greatest-rows : (g : Participant → Option Tag) → greatest_of g (rows_of s) ≡ greatest_from (λ j. g (row_at s j)) 0 s.count
  greatest-rows g = greatest-tab g (row_at s) 0 s.count

  pub each_rows : (q : Participant → Bool) (g : Participant → CoordinationAction)
      → each q g (rows_of s) ≡ each_from (λ j. q (row_at s j)) (λ j. g (row_at s j)) 0 s.count
  each_rows q g = each-tab q g (row_at s) 0 s.count

-- ---- the same at each place

-- f and g agree at the n places from k on
abbrev pub Agree : {A : Type 0} → (ℕ → A) → (ℕ → A) → ℕ → ℕ → Type 0
Agree f g k n = (j : ℕ) → k ≤ j → j < k + n → f j ≡ g j

module _ {A : Type 0} (f g : ℕ → A) (k n : ℕ) (h : Agree f g k (suc n)) where
  agree-first : f k ≡ g k
  agree-first = h k (omega arith) (omega arith)

  agree-rest : Agree f g (k + 1) n
  agree-rest j p q = h j (omega arith) (omega arith)

pub tab-same : {A : Type 0} (f g : ℕ → A) (k n : ℕ) → Agree f g k n → tab f k n ≡ tab g k n
tab-same f g k zero h = refl
tab-same f g k (suc n) h = rw (agree-first f g k n h, tab-same f g (k + 1) n (agree-rest f g k n h)) refl

pub all_same : (p q : ℕ → Bool) (k n : ℕ) → Agree p q k n → all_of p k n ≡ all_of q k n
unfolding all_of
all_same p q k zero h = refl
all_same p q k (suc n) h = rw (agree-first p q k n h, all_same p q (k + 1) n (agree-rest p q k n h)) refl

pub any_same : (p q : ℕ → Bool) (k n : ℕ) → Agree p q k n → any_of p k n ≡ any_of q k n
unfolding any_of
any_same p q k zero h = refl
any_same p q k (suc n) h = rw (agree-first p q k n h, any_same p q (k + 1) n (agree-rest p q k n h)) refl

pub least-same : (f g : ℕ → Option Tag) (k n : ℕ) → Agree f g k n → least_from f k n ≡ least_from g k n
unfolding least_from
least-same f g k zero h = refl
least-same f g k (suc n) h = rw (agree-first f g k n h, least-same f g (k + 1) n (agree-rest f g k n h)) refl

pub greatest-same : (f g : ℕ → Option Tag) (k n : ℕ) → Agree f g k n → greatest_from f k n ≡ greatest_from g k n
unfolding greatest_from
greatest-same f g k zero h = refl
greatest-same f g k (suc n) h = rw (agree-first f g k n h, greatest-same f g (k + 1) n (agree-rest f g k n h)) refl

pub each_same : {A : Type 0} (p q : ℕ → Bool) (f g : ℕ → A) (k n : ℕ) → Agree p q k n → Agree f g k n → each_from p f k n ≡ each_from q g k n
unfolding each_from
each_same p q f g k zero h e = refl
each_same p q f g k (suc n) h e =
    rw (agree-first p q k n h, agree-first f g k n e, each_same p q f g (k + 1) n (agree-rest p q k n h) (agree-rest f g k n e)) refl

-- ---- listed places: how many, each one, a map over them

pub length-tab : {A : Type 0} (f : ℕ → A) (k n : ℕ) → length (tab f k n) ≡ n
length-tab f k zero = refl
length-tab f k (suc n) = ap suc (length-tab f (k + 1) n)

pub length-rows : (s : Held) → length (rows_of s) ≡ s.count
length-rows s = length-tab (row_at s) 0 s.count

get_or-tab-from : {A : Type 0} (f : ℕ → A) (d : A) (k n j m : ℕ) → j < n → m ≡ k + j → get_or (tab f k n) j d ≡ f m
get_or-tab-from f d k zero j m h e = absurd (not-suc-le-zero h)
get_or-tab-from f d k (suc n) zero m h e = let z : k ≡ m = omega arith in ap f z
get_or-tab-from f d k (suc n) (suc j) m h e = get_or-tab-from f d (k + 1) n j m (omega arith) (omega arith)

pub get_or-tab : {A : Type 0} (f : ℕ → A) (d : A) (n j : ℕ) → j < n → get_or (tab f 0 n) j d ≡ f j
get_or-tab f d n j h = get_or-tab-from f d 0 n j j h (omega arith)

pub map-tab : {A B : Type 0} (g : A → B) (f : ℕ → A) (k n : ℕ) → map g (tab f k n) ≡ tab (λ j. g (f j)) k n
map-tab g f k zero = refl
map-tab g f k (suc n) = ap (λ xs. g (f k) ∷ xs) (map-tab g f (k + 1) n)

-- ---- a change of cells is a change of participants

pub every-row : (s t : Held) (g : Participant → Participant) → t.count ≡ s.count
    → ((j : ℕ) → j < s.count → row_at t j ≡ g (row_at s j)) → rows_of t ≡ map g (rows_of s)
every-row s t g n h = rw n (tab-same (row_at t) (λ j. g (row_at s j)) 0 s.count (λ j p q. h j (omega arith))) ∙ sym (map-tab g (row_at s) 0 s.count)

pub same_rows : (s t : Held) → t.count ≡ s.count → ((j : ℕ) → j < s.count → row_at t j ≡ row_at s j) → rows_of t ≡ rows_of s
same_rows s t n h = rw n (tab-same (row_at t) (row_at s) 0 s.count (λ j p q. h j (omega arith)))

-- the one of enclave e
pub only_row : (s t : Held) (e i : ℕ) (g : Participant → Participant) → Seated s e i → t.count ≡ s.count → row_at t i ≡ g (row_at s i)
    → ((j : ℕ) → j < s.count → (j ≡ i → ⊥) → row_at t j ≡ row_at s j) → rows_of t ≡ map (at e g) (rows_of s)
only_row s t e i g d n h o = every-row s t (at e g) n (λ j q. place j q (eqb j i) refl)
  where
    place : (j : ℕ) → j < s.count → (b : Bool) → eqb j i ≡ b → row_at t j ≡ at e g (row_at s j)
    place j q true y = let m = eqb-true j i y in rw (m, d.here) h
    place j q false y = let m = eqb-false j i y in rw (d.others j q m) (o j q m)

-- ---- indices ascend, so each stands at one place

up_from : (x : ℕ → ℕ) (k m a b : ℕ) → ((c d : ℕ) → k + 1 ≤ c → c < d → d < m → x c < x d) → x k < x (k + 1) → k ≤ a → a < b → b < m → x a < x b
up_from x k m a b ih l p q r = go (ltb k a) refl (ltb (k + 1) b) refl
  where
    go : (u : Bool) → ltb k a ≡ u → (v : Bool) → ltb (k + 1) b ≡ v → x a < x b
    go true y v z = let w = ltb-true k a y in ih a b (omega arith) q r
    go false y true z =
        let w = ltb-false k a y in
        let e : k ≡ a = omega arith in
        let h = ltb-true (k + 1) b z in
        let i = ih (k + 1) b (omega arith) h r in
        rw (← e) (omega arith)
    go false y false z =
        let w = ltb-false k a y in
        let v = ltb-false (k + 1) b z in
        let e : k ≡ a = omega arith in
        let d : k + 1 ≡ b = omega arith in
        rw (← e, ← d) l

rises : (f : ℕ → Participant) (k n a b : ℕ) → T (ascending (tab f k n)) → k ≤ a → a < b → b < k + n → (f a).index < (f b).index
rises f k zero a b h p q r = absurd (omega arith)
rises f k (suc zero) a b h p q r = absurd (omega arith)
rises f k (suc (suc n)) a b h p q r =
    let first = ltb→lt (f k).index (f (k + 1)).index (and_left (ltb (f k).index (f (k + 1)).index) (ascending (tab f (k + 1) (suc n))) h) in
    let rest = and_right (ltb (f k).index (f (k + 1)).index) (ascending (tab f (k + 1) (suc n))) h in
    up_from (λ j. (f j).index) k (k + suc (suc n)) a b (λ c d u v w. rises f (k + 1) (suc n) c d rest u v (omega arith)) first p q r

pub apart : (s : Held) → T (ascending (rows_of s)) → Apart s.enclaves s.count
apart s a i j l m z = let r = rises (row_at s) 0 s.count i j a (omega arith) l (omega arith) in omega arith

elsewhere : (s : Held) (i j : ℕ) → T (ascending (rows_of s)) → i < s.count → j < s.count → (j ≡ i → ⊥)
    → get_or s.enclaves j 0 ≡ get_or s.enclaves i 0 → ⊥
elsewhere s i j a l m n z = go (ltb i j) refl (ltb j i) refl
  where
    go : (u : Bool) → ltb i j ≡ u → (v : Bool) → ltb j i ≡ v → ⊥
    go true y v x = apart s a i j (ltb-true i j y) m (sym z)
    go false y true x = apart s a j i (ltb-true j i x) l z
    go false y false x = let p = ltb-false i j y in let q = ltb-false j i x in n (omega arith)

seated-at : (s : Held) (e i : ℕ) → T (ascending (rows_of s)) → i < s.count → get_or s.enclaves i 0 ≡ e → Seated s e i
seated-at s e i a l v = record {
  within = l;
  here = eq-eqb (get_or s.enclaves i 0) e v;
  others = λ j m n. ne_eqb (get_or s.enclaves j 0) e (λ z. elsewhere s i j a l m n (z ∙ sym v));
}

pub first-seated : (s : Held) → T (ascending (rows_of s)) → 0 < s.count → Seated s (get_or s.enclaves 0 0) 0
first-seated s a l = seated-at s (get_or s.enclaves 0 0) 0 a l refl

-- ---- the place that the walk finds

spot : (h : ℕ → Bool) (k n i : ℕ) → i ≡ place_from h k n → i < k + n → h i ≡ true
unfolding place_from
spot h k zero i q l = absurd (omega arith)
spot h k (suc n) i q l = go (λ r. spot h (k + 1) n i r (omega arith)) (h k) refl q
  where
    go : (i ≡ place_from h (k + 1) n → h i ≡ true) → (b : Bool) → h k ≡ b → i ≡ cond b k (place_from h (k + 1) n) → h i ≡ true
    go ih true y r = subst (λ j. h j ≡ true) (sym r) y
    go ih false y r = ih r

pub seated : (s : Held) (e i : ℕ) → T (ascending (rows_of s)) → i ≡ place_from (λ j. eqb (get_or s.enclaves j 0) e) 0 s.count → i < s.count → Seated s e i
seated s e i a q l =
    seated-at s e i a l (eqb-true (get_or s.enclaves i 0) e (spot (λ j. eqb (get_or s.enclaves j 0) e) 0 s.count i q (omega arith)))

nowhere : (f : ℕ → Participant) (e k n : ℕ) → k + n ≤ place_from (λ j. eqb (f j).index e) k n → find e (tab f k n) ≡ None
unfolding place_from
nowhere f e k zero q = refl
nowhere f e k (suc n) q = go (nowhere f e (k + 1) n) (eqb (f k).index e) q
  where
    rest : ℕ
    rest = place_from (λ j. eqb (f j).index e) (k + 1) n

    go : (k + 1 + n ≤ rest → find e (tab f (k + 1) n) ≡ None) → (b : Bool) → k + suc n ≤ cond b k rest → cond b (Some (f k)) (find e (tab f (k + 1) n)) ≡ None
    go ih true r = absurd (omega arith)
    go ih false r = ih (omega arith)

pub unknown : (s : Held) (e i : ℕ) → i ≡ place_from (λ j. eqb (get_or s.enclaves j 0) e) 0 s.count → s.count ≤ i → find e (rows_of s) ≡ None
unknown s e i q l = nowhere (row_at s) e 0 s.count (omega arith)

found_from : (f : ℕ → Participant) (e i k n : ℕ) → k ≤ i → i < k + n → eqb (f i).index e ≡ true
    → ((j : ℕ) → j < k + n → (j ≡ i → ⊥) → eqb (f j).index e ≡ false) → find e (tab f k n) ≡ Some (f i)
found_from f e i k zero p q h o = absurd (omega arith)
found_from f e i k (suc n) p q h o = go (λ l. found_from f e i (k + 1) n l (omega arith) h (λ j u v. o j (omega arith) v)) (ltb k i) refl
  where
    go : (k + 1 ≤ i → find e (tab f (k + 1) n) ≡ Some (f i)) → (b : Bool) → ltb k i ≡ b
        → cond (eqb (f k).index e) (Some (f k)) (find e (tab f (k + 1) n)) ≡ Some (f i)
    go ih true y = let l = ltb-true k i y in rw (o k (omega arith) (λ z. omega arith)) (ih (omega arith))
    go ih false y =
        let l = ltb-false k i y in
        let m : i ≡ k = omega arith in
        let w : eqb (f k).index e ≡ true = subst (λ j. eqb (f j).index e ≡ true) m h in
        rw (w, m) refl

pub found : (s : Held) (e i : ℕ) → Seated s e i → find e (rows_of s) ≡ Some (row_at s i)
found s e i d = found_from (row_at s) e i 0 s.count (omega arith) (let l = d.within in omega arith) d.here (λ j u v. d.others j (omega arith) v)

-- an index is known where it is found
abbrev is_found : Option Participant → Bool
is_found None = false
is_found (Some p) = true

knows-found : (e : ℕ) (ps : List Participant) → knows e ps ≡ is_found (find e ps)
knows-found e [] = refl
knows-found e (p ∷ ps) = go (eqb p.index e) (knows-found e ps)
  where
    go : (b : Bool) → knows e ps ≡ is_found (find e ps) → (b || knows e ps) ≡ is_found (cond b (Some p) (find e ps))
    go true h = refl
    go false h = h

pub known : (s : Held) (e i : ℕ) → Seated s e i → knows e (rows_of s) ≡ true
known s e i d = knows-found e (rows_of s) ∙ ap is_found (found s e i d)

pub unknown-knows : (s : Held) (e i : ℕ) → i ≡ place_from (λ j. eqb (get_or s.enclaves j 0) e) 0 s.count → s.count ≤ i → knows e (rows_of s) ≡ false
unknown-knows s e i q l = knows-found e (rows_of s) ∙ ap is_found (unknown s e i q l)

-- ---- the place found, or none

module _ (s : Held) (e : ℕ) where
  pub place-some : {i : ℕ} → Some i ≡ place_in s e → (i ≡ place_from (λ j. eqb (get_or s.enclaves j 0) e) 0 s.count) × (i < s.count)
  place-some {i} h = go (place_from (λ j. eqb (get_or s.enclaves j 0) e) 0 s.count) h
    where
      within : (p : ℕ) (b : Bool) → ltb p s.count ≡ b → Some i ≡ cond b (Some p) None → (i ≡ p) × (i < s.count)
      within p true l k = let q : i ≡ p = cc in let m = ltb-true p s.count l in (q, omega arith)
      within p false l k = cc

      go : (p : ℕ) → Some i ≡ placed p s.count → (i ≡ p) × (i < s.count)
      go p k = within p (ltb p s.count) refl k

  place-none : None ≡ place_in s e → s.count ≤ place_from (λ j. eqb (get_or s.enclaves j 0) e) 0 s.count
  place-none h = go (place_from (λ j. eqb (get_or s.enclaves j 0) e) 0 s.count) h
    where
      beyond : (p : ℕ) (b : Bool) → ltb p s.count ≡ b → None ≡ cond b (Some p) None → s.count ≤ p
      beyond p true l k = cc
      beyond p false l k = ltb-false p s.count l

      go : (p : ℕ) → None ≡ placed p s.count → s.count ≤ p
      go p k = beyond p (ltb p s.count) refl k

  pub seated-in : {i : ℕ} → T (ascending (rows_of s)) → Some i ≡ place_in s e → Seated s e i
  seated-in {i} a h = let p = place-some h in seated s e i a p.0 p.1

  pub found-nowhere : None ≡ place_in s e → find e (rows_of s) ≡ None
  found-nowhere h = unknown s e (place_from (λ j. eqb (get_or s.enclaves j 0) e) 0 s.count) refl (place-none h)

  pub nobody : None ≡ place_in s e → knows e (rows_of s) ≡ false
  nobody h = unknown-knows s e (place_from (λ j. eqb (get_or s.enclaves j 0) e) 0 s.count) refl (place-none h)

-- ---- a tag's cell

not-below : (a b : ℤ) → T (le_z a b) → lt_z b a ≡ false
not-below a b h = go (lt_z b a) refl
  where
    go : (x : Bool) → lt_z b a ≡ x → x ≡ false
    go true e = clash_ℤ {a = b} {b = a} (lt_z_yes (subst T (sym e) tt)) (le_z_yes h)
    go false e = refl

pub proper-present : (t : Tag) → T (is_proper t) → is_absent t ≡ false
unfolding proper_time
proper-present t h =
    let n = t.nanoseconds in
    let inside = and_left (within_second n) (not (opposite_signs t.seconds n)) h in
    not-below never.nanoseconds n (and_left (le_z never.nanoseconds n) (le_z n forever.nanoseconds) inside)

pub same_tag : (a b : Tag) → T (a ≡ₜ b) → a ≡ b
same_tag a b h = ≤ₜ-anti a b (and_left (a ≤ₜ b) (b ≤ₜ a) h) (and_right (a ≤ₜ b) (b ≤ₜ a) h)

pub cell-optional : (t : Tag) → T (is_neat t) → cell_of (optional_of t) ≡ t
cell-optional t h = go (is_absent t) h
  where
    go : (b : Bool) → T (not b || t ≡ₜ absent) → cell_of (cond b None (Some t)) ≡ t
    go true k = sym (same_tag t absent k)
    go false k = refl

pub optional-cell : (m : Option Tag) → T (proper_if_present m) → optional_of (cell_of m) ≡ m
optional-cell None h = refl
optional-cell (Some t) h = rw (proper-present t h) refl

-- every optional tag's cell is neat, if a present one is proper
pub neat-cell : (m : Option Tag) → T (proper_if_present m) → T (is_neat (cell_of m))
neat-cell None h = and_intro (absent ≤ₜ absent) (absent ≤ₜ absent) (≤ₜ-refl absent) (≤ₜ-refl absent)
neat-cell (Some t) h = rw (proper-present t h) tt

-- a cell is one of a proper tag or the mark
pub cell-split : (t : Tag) → is_cell t ≡ (proper_if_present (optional_of t) && is_neat t)
cell-split t = go (is_absent t) (is_proper t) (t ≡ₜ absent) refl (λ e. proper-present t (subst T (sym e) tt)) mark
  where
    mark : (t ≡ₜ absent) ≡ true → is_absent t ≡ true
    mark e = ap is_absent (same_tag t absent (subst T (sym e) tt))

    go : (a p m : Bool) → is_proper t ≡ p → (p ≡ true → a ≡ false) → (m ≡ true → a ≡ true) → (p || m) ≡ (proper_if_present (cond a None (Some t)) && (not a || m))
    go true true m e f g = cc (f refl)
    go true false m e f g = refl
    go false true m e f g = rw e refl
    go false false true e f g = cc (g refl)
    go false false false e f g = rw e refl

-- ---- one cell set

-- at place k of a column of n
pub cell-set-same : {A : Type 0} (l : List A) (n k : ℕ) (a d : A) → length l ≡ n → k < n → get_or (set l k a) k d ≡ a
cell-set-same l n k a d e h = get_or-set_same l k a d (omega arith)

-- a tag at place k of the columns of tags
module _ (ss ns : List ℤ) (ms : List ℕ) (k : ℕ) (t : Tag) where
  pub tag-set-same : length ss ≡ 96 → length ns ≡ 96 → length ms ≡ 96 → k < 96
      → tag_in (set ss k t.seconds) (set ns k t.nanoseconds) (set ms k t.microstep) k ≡ t
  tag-set-same a b c h =
      rw
      (cell-set-same ss 96 k t.seconds (pos 0) a h, cell-set-same ns 96 k t.nanoseconds (pos 0) b h, cell-set-same ms 96 k t.microstep 0 c h)
      refl

  pub tag-set-other : (j : ℕ) → (j ≡ k → ⊥) → tag_in (set ss k t.seconds) (set ns k t.nanoseconds) (set ms k t.microstep) j ≡ tag_in ss ns ms j
  tag-set-other j h =
      rw (get_or-set_other ss k j t.seconds (pos 0) h, get_or-set_other ns k j t.nanoseconds (pos 0) h, get_or-set_other ms k j t.microstep 0 h) refl

  -- what holds of the tag set and of the tag that stood there holds of the one that stands there
  pub tag-set-cases : (P : Tag → Type 0) → length ss ≡ 96 → length ns ≡ 96 → length ms ≡ 96 → (j : ℕ) → j < 96 → P t → P (tag_in ss ns ms j)
      → P (tag_in (set ss k t.seconds) (set ns k t.nanoseconds) (set ms k t.microstep) j)
  tag-set-cases P a b c j h new old = go (eqb j k) refl
    where
      go : (x : Bool) → eqb j k ≡ x → P (tag_in (set ss k t.seconds) (set ns k t.nanoseconds) (set ms k t.microstep) j)
      go true e = let m = eqb-true j k e in rw m (subst P (sym (tag-set-same a b c (omega arith))) new)
      go false e = subst P (sym (tag-set-other j (eqb-false j k e))) old

-- ---- the cells of one participant rebuilt

module _ (s : Held) (i : ℕ) (p : Parts) where
  -- the columns of tags with the candidate set
  abbrev seconds_then : List ℤ
  seconds_then = set s.seconds i p.row.candidate.seconds

  abbrev nanoseconds_then : List ℤ
  nanoseconds_then = set s.nanoseconds i p.row.candidate.nanoseconds

  abbrev microsteps_then : List ℕ
  microsteps_then = set s.microsteps i p.row.candidate.microstep

module _ (s : Held) (i : ℕ) (p : Parts) (o : List ℕ) (g : Gate) where
  then-sized : Sized s → (length (seconds_then s i p) ≡ 96) × (length (nanoseconds_then s i p) ≡ 96) × (length (microsteps_then s i p) ≡ 96)
  then-sized z =
      let t = p.row.candidate in
      let a = length-set s.seconds i t.seconds in
      let b = length-set s.nanoseconds i t.nanoseconds in
      let c = length-set s.microsteps i t.microstep in
      (a ∙ z.seconds, b ∙ z.nanoseconds, c ∙ z.microsteps)

  -- and then the completed tag, which leaves every other place
  then-other : (k : ℕ) → (k ≡ 32 + i → ⊥) → tag_at (rebuilt s i p o g) k ≡ tag_in (seconds_then s i p) (nanoseconds_then s i p) (microsteps_then s i p) k
  then-other k h = tag-set-other (seconds_then s i p) (nanoseconds_then s i p) (microsteps_then s i p) (32 + i) p.row.completed k h

  pub rebuilt-candidate : Sized s → i < 32 → tag_at (rebuilt s i p o g) i ≡ p.row.candidate
  rebuilt-candidate z h =
      then-other i (λ e. omega arith) ∙
      tag-set-same s.seconds s.nanoseconds s.microsteps i p.row.candidate z.seconds z.nanoseconds z.microsteps (omega arith)

  pub rebuilt-completed : Sized s → i < 32 → tag_at (rebuilt s i p o g) (32 + i) ≡ p.row.completed
  rebuilt-completed z h =
      tag-set-same (seconds_then s i p) (nanoseconds_then s i p) (microsteps_then s i p) (32 + i) p.row.completed
      (then-sized z).0 (then-sized z).1 (then-sized z).2 (omega arith)

  pub rebuilt-tag-other : (k : ℕ) → (k ≡ i → ⊥) → (k ≡ 32 + i → ⊥) → tag_at (rebuilt s i p o g) k ≡ tag_at s k
  rebuilt-tag-other k a b = then-other k b ∙ tag-set-other s.seconds s.nanoseconds s.microsteps i p.row.candidate k a

  -- the same of the tags rebuilt, wherever i is
  pub rebuilt-tag-cases : (P : Tag → Type 0) → Sized s → (k : ℕ) → k < 96 → P p.row.candidate → P p.row.completed → P (tag_at s k)
      → P (tag_at (rebuilt s i p o g) k)
  rebuilt-tag-cases P z k h a b old =
      tag-set-cases (seconds_then s i p) (nanoseconds_then s i p) (microsteps_then s i p) (32 + i) p.row.completed P
      (then-sized z).0 (then-sized z).1 (then-sized z).2 k h b
      (tag-set-cases s.seconds s.nanoseconds s.microsteps i p.row.candidate P z.seconds z.nanoseconds z.microsteps k h a old)

-- the participant at place j, by its cells
row_by : (s : Held) (i : ℕ) (p : Parts) (j : ℕ) (w : Row) → let r = rebuilt s i p s.observation s.gate in
    tag_at r j ≡ w.candidate → tag_at r (32 + j) ≡ w.completed → tag_at r (64 + j) ≡ tag_at s (64 + j) → get_or r.published j false ≡ w.published
    → get_or r.acknowledged j false ≡ w.acknowledged → get_or r.completion_observed j 0 ≡ w.completion_observed → row_at r j ≡ row_put w (row_at s j)
row_by s i p j w a b c d e f = λ k. record {
  index = get_or s.enclaves j 0;
  candidate = optional_of (a k);
  completed = optional_of (b k);
  published = d k;
  completion_observed = number_if (e k) (f k);
  observation = observation_of (get_or s.observation j 0);
  granted = optional_of s.gate.granted;
  started = optional_of (c k);
}

module _ (s : Held) (i : ℕ) (p : Parts) (z : Sized s) (h : i < 32) where
  row-rebuilt-same : row_at (rebuilt s i p s.observation s.gate) i ≡ row_put p.row (row_at s i)
  row-rebuilt-same =
      row_by s i p i p.row (rebuilt-candidate s i p s.observation s.gate z h) (rebuilt-completed s i p s.observation s.gate z h)
      (rebuilt-tag-other s i p s.observation s.gate (64 + i) (λ e. omega arith) (λ e. omega arith))
      (cell-set-same s.published 32 i p.row.published false z.published h)
      (cell-set-same s.acknowledged 32 i p.row.acknowledged false z.acknowledged h)
      (cell-set-same s.completion_observed 32 i p.row.completion_observed 0 z.observed h)

  row-rebuilt-other : (j : ℕ) → j < 32 → (j ≡ i → ⊥) → row_at (rebuilt s i p s.observation s.gate) j ≡ row_at s j
  row-rebuilt-other j l n =
      row_by s i p j (row_of s j) (rebuilt-tag-other s i p s.observation s.gate j n (λ e. omega arith))
      (rebuilt-tag-other s i p s.observation s.gate (32 + j) (λ e. omega arith) (λ e. n (omega arith)))
      (rebuilt-tag-other s i p s.observation s.gate (64 + j) (λ e. omega arith) (λ e. omega arith))
      (get_or-set_other s.published i j p.row.published false n)
      (get_or-set_other s.acknowledged i j p.row.acknowledged false n)
      (get_or-set_other s.completion_observed i j p.row.completion_observed 0 n)

pub rows-rebuilt : (s : Held) (e i : ℕ) (p : Parts) → Sized s → s.count ≤ 32 → Seated s e i
    → rows_of (rebuilt s i p s.observation s.gate) ≡ map (at e (row_put p.row)) (rows_of s)
rows-rebuilt s e i p z n d =
    let w = d.within in
    let h : i < 32 = omega arith in
    only_row s (rebuilt s i p s.observation s.gate) e i (row_put p.row) d refl (row-rebuilt-same s i p z h)
    (λ j l. row-rebuilt-other s i p z h j (omega arith))

-- ---- the observations cleared, the gate changed

pub cleared-within : (n : ℕ) (l : List ℕ) (j : ℕ) → j < n → get_or (cleared n l) j 0 ≡ 0
cleared-within n l j h =
    get_or-append (replicate n 0) (drop n l) 0 j (rw (length-replicate {A = ℕ} n 0) h) ∙ get_or-replicate n j 0 0 h

pub rows-cleared : (s : Held) (i : ℕ) (p : Parts) → Sized s → s.count ≤ 32
    → rows_of (rebuilt s i p (cleared s.count s.observation) s.gate) ≡ map forget (rows_of (rebuilt s i p s.observation s.gate))
rows-cleared s i p z n =
    every-row (rebuilt s i p s.observation s.gate) (rebuilt s i p (cleared s.count s.observation) s.gate) forget refl
    (λ j h. rw (cleared-within s.count s.observation j h) refl)

pub rows-gate : (s : Held) (g : Gate) → g.granted ≡ s.gate.granted → rows_of (with_gate g s) ≡ rows_of s
rows-gate s g e = same_rows s (with_gate g s) refl (λ j h. rw e refl)
