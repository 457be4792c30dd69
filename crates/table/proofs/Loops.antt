-- One turn of each loop of this crate, on plain values. Going up from 0 to n, at place i: the answer for all places is that for those from i on.
-- Going down from n: what is in hand is the answer for the places from i on. Assumes nothing.
use Rattle.std.specs.Prelude.{None, Option, Some}
use mathlib.Core.Path.{◌≡◌, refl, sym, ap, ◌∙◌, subst}
use mathlib.Core.Bool.{Bool, true, false, not, cond, ◌&&◌, ◌||◌, and-false, or-true}
use mathlib.Core.List.{List}
use Prim.Native.Nat.{ℕ, zero, suc, ◌+◌, ◌-◌, ◌≤◌, ◌<◌}
use native.Mathlib.Numerals.{add-one}
use native.Mathlib.Omega.{arith}
use borrow.Author.Tests.{not-true, not-false, eq-eqb, ne_eqb, lt-ltb, le-ltb, ltb-false}
use lib.Dec.{T, eqb, ltb}
use lib.ListN.{get_or}
use Rattle.std.specs.Option.{unwrap_or}
use Rattle.tags.specs.Tags.{◌≤ₜ◌, ◌<ₜ◌, is_present, is_below, lesser_of, greater_of, lesser_present, greater_present, lesser_of_both}
use Rattle.tags.proofs.Order.{≤ₜ-trans, ≤ₜ-total, greater-le-left, lesser-left, lesser-right, greater-comm, greater-assoc}
use Rattle.rules.specs.Model.{Tag}
use Rattle.state.specs.declared.FederateCoordinationState.{FederateCoordinationState as Held}
use Rattle.state.specs.Cells.{absent, is_absent, optional_of, cell_of}
use Rattle.state.specs.View.{tag_at}
use Rattle.state.specs.Walk.{all_of, any_of, place_from, least_from, greatest_from}
use Rattle.state.specs.Parts.{Apart, placed}
use Rattle.table.specs.declared.Scanned.{Scanned}
use Rattle.table.specs.declared.Scanned.TheVariants.{Blocked, Waiting, Answered}

-- ---- any walk over the places from i on

module _ {A : Type 0} (walk : ℕ → ℕ → A) (n : ℕ) where
  start : walk 0 n ≡ walk 0 (n - 0)
  start = ap (walk 0) (omega arith)

  more : (i : ℕ) → i < n → walk i (n - i) ≡ walk i (suc (n - (i + 1)))
  more i h = ap (walk i) (omega arith)

  done : (i : ℕ) → n ≤ i → walk i (n - i) ≡ walk i 0
  done i h = ap (walk i) (omega arith)

  back : (i : ℕ) → 0 < i → i ≤ n → walk (i - 1) (n - (i - 1)) ≡ walk (i - 1) (suc (n - i))
  back i h k = ap (walk (i - 1)) (omega arith)

  whole : (i : ℕ) → i ≤ 0 → walk i (n - i) ≡ walk 0 n
  whole i h = let e : i ≡ 0 = omega arith in rw (e, ← start) refl

  -- what holds of the places from j on, and of them with each earlier one put before them, holds of all
  downward : (P : A → Type 0) (j : ℕ) → j ≤ n → ((k : ℕ) → k < j → P (walk (k + 1) (n - (k + 1))) → P (walk k (suc (n - (k + 1)))))
      → P (walk j (n - j)) → P (walk 0 n)
  downward P zero h s p = subst P (sym start) p
  downward P (suc j) h s p =
      downward P j (omega arith) (λ k l. s k (omega arith)) (subst P (sym (more j (omega arith))) (s j (omega arith) (rw add-one p)))

-- ---- up: the first place

pub place-start : (f : ℕ → Bool) (n : ℕ) → place_from f 0 n ≡ place_from f 0 (n - 0)
place-start f = start (place_from f)

module _ (f : ℕ → Bool) (n i z : ℕ) where
  pub place-turn : z ≡ place_from f i (n - i) → i < n → f i ≡ false → z ≡ place_from f (i + 1) (n - (i + 1))
  unfolding place_from
  place-turn p h t = p ∙ more (place_from f) n i h ∙ rw t refl

  pub place_found : z ≡ place_from f i (n - i) → i < n → f i ≡ true → i ≡ z
  unfolding place_from
  place_found p h t = sym (p ∙ more (place_from f) n i h ∙ rw t refl)

  pub place-done : z ≡ place_from f i (n - i) → n ≤ i → i ≡ z
  unfolding place_from
  place-done p h = sym (p ∙ done (place_from f) n i h)

place-below : (f : ℕ → Bool) (k n : ℕ) → place_from f k n ≤ k + n
unfolding place_from
place-below f k zero = omega arith
place-below f k (suc n) = go (f k) (place-below f (k + 1) n)
  where
    go : (b : Bool) → place_from f (k + 1) n ≤ k + 1 + n → cond b k (place_from f (k + 1) n) ≤ k + suc n
    go true h = omega arith
    go false h = omega arith

-- the place, or the count where there is none
pub place-or-count : (f : ℕ → Bool) (n : ℕ) → unwrap_or (placed (place_from f 0 n) n) n ≡ place_from f 0 n
place-or-count f n = go (ltb (place_from f 0 n) n) refl
  where
    go : (b : Bool) → ltb (place_from f 0 n) n ≡ b → unwrap_or (cond b (Some (place_from f 0 n)) None) n ≡ place_from f 0 n
    go true e = refl
    go false e = let a = ltb-false (place_from f 0 n) n e in let b = place-below f 0 n in omega arith

-- the place in hand is the first, since no other holds the same number
pub place-only : (es : List ℕ) (n e g : ℕ) → Apart es n → g < n → get_or es g 0 ≡ e → g ≡ place_from (λ j. eqb (get_or es j 0) e) 0 n
unfolding place_from
place-only es n e g d h t =
    downward (place_from holds) n (λ j. g ≡ j) g (omega arith) (λ k l p. rw (ne_eqb (get_or es k 0) e (λ z. d k g l h (z ∙ sym t))) p)
    (sym (more (place_from holds) n g h ∙ rw (eq-eqb (get_or es g 0) e t) refl))
  where
    holds : ℕ → Bool
    holds j = eqb (get_or es j 0) e

pub ruleset seeks = (place-start, place-turn, place_found, place-done, eq-eqb, ne_eqb)

-- ---- down: the cell in hand means a fold of those present

-- the cells of the completed tags
abbrev pub completed_at : Held → ℕ → Tag
completed_at s j = tag_at s (32 + j)

pub data Means : Tag → Option Tag → Type 0 where
  missing : Means absent None
  present : {t : Tag} → is_absent t ≡ false → Means t (Some t)

means-cell : {t : Tag} {m : Option Tag} → Means t m → t ≡ cell_of m
means-cell missing = refl
means-cell (present e) = refl

-- a fold that picks one of any two present
abbrev Walk : Type 0
Walk = (ℕ → Option Tag) → ℕ → ℕ → Option Tag

pub record Folds (pick : Tag → Tag → Tag) (join : Option Tag → Option Tag → Option Tag) (from : Walk) : Type 0 where
  pub first : (m : Option Tag) → join None m ≡ m
  pub only : (a : Tag) → join (Some a) None ≡ Some a
  pub both : (a b : Tag) → join (Some a) (Some b) ≡ Some (pick a b)
  pub kept : (a b : Tag) → is_absent a ≡ false → is_absent b ≡ false → is_absent (pick a b) ≡ false
  pub none : (f : ℕ → Option Tag) (k : ℕ) → from f k 0 ≡ None
  pub next : (f : ℕ → Option Tag) (k n : ℕ) → from f k (suc n) ≡ join (f k) (from f (k + 1) n)

either-kept : (x : Bool) (a b : Tag) → is_absent a ≡ false → is_absent b ≡ false → is_absent (cond x a b) ≡ false
either-kept true a b p q = p
either-kept false a b p q = q

pub least : Folds lesser_of lesser_present least_from
unfolding least_from
least =
    record {
      first = λ m. refl;
      only = λ a. refl;
      both = λ a b. refl;
      kept = λ a b p q. either-kept (a ≤ₜ b) a b p q;
      none = λ f k. refl;
      next = λ f k n. refl;
    }

pub greatest : Folds greater_of greater_present greatest_from
unfolding greatest_from
greatest =
    record {
      first = λ m. refl;
      only = λ a. refl;
      both = λ a b. refl;
      kept = λ a b p q. either-kept (a ≤ₜ b) b a q p;
      none = λ f k. refl;
      next = λ f k n. refl;
    }

module _ {pick : Tag → Tag → Tag} {join : Option Tag → Option Tag → Option Tag} {from : Walk} (w : Folds pick join from) where
  means-join : (c acc : Tag) (m : Option Tag) → Means acc m
      → Means (cond (is_absent c) acc (cond (is_absent acc) c (pick c acc))) (join (optional_of c) m)
  means-join c acc m h = go (is_absent c) refl h
    where
      go : {acc : Tag} {m : Option Tag} (x : Bool) → is_absent c ≡ x → Means acc m
          → Means (cond x acc (cond (is_absent acc) c (pick c acc))) (join (cond x None (Some c)) m)
      go {acc} {m} true e h = rw (w.first m) h
      go false e missing = rw (w.only c) (present e)
      go {acc} false e (present d) = rw (d, w.both c acc) (present (w.kept c acc e d))

  module _ (f : ℕ → Tag) (n : ℕ) where
    abbrev over : ℕ → ℕ → Option Tag
    over = from (λ j. optional_of (f j))

    pub fold_start : Means absent (over n (n - n))
    fold_start = rw (done over n n (omega arith), w.none) missing

    pub fold-back : (i : ℕ) (acc c r : Tag) → 0 < i → i ≤ n → Means acc (over i (n - i)) → c ≡ f (i - 1)
        → r ≡ cond (is_absent c) acc (cond (is_absent acc) c (pick c acc)) → Means r (over (i - 1) (n - (i - 1)))
    fold-back i acc c r h k p e q = let b : i - 1 + 1 ≡ i = omega arith in rw (q, back over n i h k, w.next, b, ← e) (means-join c acc _ p)

-- ---- down: all

module _ (f : ℕ → Bool) (n : ℕ) where
  pub every-start : all_of f n (n - n) ≡ true
  unfolding all_of
  every-start = done (all_of f) n n (omega arith)

  module _ (i : ℕ) (h : 0 < i) (k : i ≤ n) where
    pub every_back : {w s : Bool} → all_of f i (n - i) ≡ w → f (i - 1) ≡ s → all_of f (i - 1) (n - (i - 1)) ≡ (s && w)
    unfolding all_of
    every_back p t = let b : i - 1 + 1 ≡ i = omega arith in back (all_of f) n i h k ∙ rw (t, b, p) refl

    -- one place lacks it
    pub every-lacks : f (i - 1) ≡ false → all_of f 0 n ≡ false
    unfolding all_of
    every-lacks t =
        downward (all_of f) n (λ x. x ≡ false) (i - 1) (omega arith) (λ k l p. rw p (and-false (f k))) (back (all_of f) n i h k ∙ rw t refl)

-- whether a cell that was read has a tag
module _ (d : Tag) {c : Tag} {r : Bool} (e : c ≡ d) (q : r ≡ is_absent c) where
  pub has-tag : r ≡ false → is_present (optional_of d) ≡ true
  has-tag t = rw (← e, ← q, t) refl

  pub lacks-tag : r ≡ true → is_present (optional_of d) ≡ false
  lacks-tag t = rw (← e, ← q, t) refl

-- ---- down: the scan

-- whether a row blocks and whether it has answered, by what the code tests of it: it lags, it holds back, it has observed
module _ {l lags : Bool} (holds observed : Bool) (e : l ≡ lags) where
  pub row-ahead : l ≡ false → ((lags && holds) ≡ false) × ((not lags || observed) ≡ true)
  row-ahead t = rw (← e, t) (refl, refl)

  pub row-behind : {h o : Bool} (s : Bool) → l ≡ true → h ≡ holds → h ≡ false → o ≡ observed → o ≡ s
      → ((lags && holds) ≡ false) × ((not lags || observed) ≡ s)
  row-behind s t f u g v = rw (← e, t, ← f, u, ← g, v) (refl, refl)

pub row-blocks : {l lags h holds : Bool} → l ≡ lags → l ≡ true → h ≡ holds → h ≡ true → (lags && holds) ≡ true
row-blocks e t f u = rw (← e, t, ← f, u) refl

-- none of the places from i on blocks, and w says whether all of them have answered
abbrev pub Passed : (ℕ → Bool) → (ℕ → Bool) → ℕ → ℕ → Bool → Type 0
Passed b a n i w = (any_of b i (n - i) ≡ false) × (all_of a i (n - i) ≡ w)

module _ (b a : ℕ → Bool) (n : ℕ) where
  abbrev outcome : Scanned
  outcome = cond (any_of b 0 n) Blocked (cond (all_of a 0 n) Answered Waiting)

  pub scan-start : Passed b a n n true
  unfolding any_of
  scan-start = (done (any_of b) n n (omega arith), every-start a n)

  module _ (i : ℕ) (h : 0 < i) (k : i ≤ n) where
    pub scan-blocked : b (i - 1) ≡ true → Blocked ≡ outcome
    unfolding any_of
    scan-blocked t =
        sym (rw (downward (any_of b) n (λ x. x ≡ true) (i - 1) (omega arith) (λ k l p. rw p (or-true (b k))) (back (any_of b) n i h k ∙ rw t refl)) refl)

    pub scan-turn : (w s : Bool) → Passed b a n i w → (b (i - 1) ≡ false) × (a (i - 1) ≡ s) → Passed b a n (i - 1) (s && w)
    unfolding any_of
    scan-turn w s p t =
        let e : i - 1 + 1 ≡ i = omega arith in
        (back (any_of b) n i h k ∙ rw (t.0, e, p.0) refl, every_back a n i h k p.1 t.1)

-- ---- up: the greatest tag under the horizon

greater-swap : (a b c : Option Tag) → greater_present (greater_present a b) c ≡ greater_present b (greater_present a c)
greater-swap None b c = refl
greater-swap (Some a) None c = refl
greater-swap (Some a) (Some b) None = ap Some (greater-comm a b)
greater-swap (Some a) (Some b) (Some c) = ap Some (ap (λ t. greater_of t c) (greater-comm a b) ∙ greater-assoc b a c)

module _ (f : ℕ → Tag) (n : ℕ) (h : Tag) where
  abbrev upper : ℕ → ℕ → Option Tag
  upper = greatest_from (λ j. optional_of (f j))

  -- acc is the greatest of the places before i, none of which has reached h
  pub record Ahead (i : ℕ) (acc : Tag) : Type 0 where
    pub most : Option Tag
    pub means : Means acc most
    pub below : T (is_below most h)
    pub rest : lesser_of_both (upper 0 n) (Some h) ≡ lesser_of_both (greater_present most (upper i (n - i))) (Some h)

  pub front-start : Ahead 0 absent
  front-start = record { most = None; means = missing; below = tt; rest = ap (λ m. lesser_of_both m (Some h)) (start upper n) }

  below_both : (m k : Option Tag) → T (is_below m h) → T (is_below k h) → T (is_below (greater_present m k) h)
  below_both None k p q = q
  below_both (Some a) None p q = p
  below_both (Some a) (Some b) p q = go (a ≤ₜ b)
    where
      go : (x : Bool) → T (cond x b a <ₜ h)
      go true = q
      go false = p

  below-is : (m : Option Tag) → T (is_below m h) → lesser_of_both (greater_present m None) (Some h) ≡ m
  below-is None p = refl
  below-is (Some a) p = ap Some (lesser-left a h (≤ₜ-total h a p))

  reached-is : (a : Tag) (m : Option Tag) → T (h ≤ₜ a) → lesser_of_both (greater_present (Some a) m) (Some h) ≡ Some h
  reached-is a None k = ap Some (lesser-right a h k)
  reached-is a (Some b) k = ap Some (lesser-right (greater_of a b) h (≤ₜ-trans h a (greater_of a b) k (greater-le-left a b)))

  settled : (c m k : Option Tag) → is_below c h ≡ false → lesser_of_both (greater_present (greater_present c m) k) (Some h) ≡ Some h
  settled None m k e = absurd (subst T e tt)
  settled (Some a) m k e = go m
    where
      past : T (h ≤ₜ a)
      past = subst T (sym (not-false (h ≤ₜ a) e)) tt

      go : (m : Option Tag) → lesser_of_both (greater_present (greater_present (Some a) m) k) (Some h) ≡ Some h
      go None = reached-is a k past
      go (Some b) = reached-is (greater_of a b) k (≤ₜ-trans h a (greater_of a b) past (greater-le-left a b))

  module _ (i : ℕ) (acc : Tag) (p : Ahead i acc) where
    pub front-done : n ≤ i → is_absent h ≡ false → acc ≡ cell_of (lesser_of_both (upper 0 n) (optional_of h))
    front-done k e = rw (e, p.rest, done upper n i k, greatest.none, below-is p.most p.below) (means-cell p.means)

    module _ (c : Tag) (x : Bool) (k : i < n) (e : c ≡ f i) (q : x ≡ is_below (optional_of c) h) where
      turned : lesser_of_both (upper 0 n) (Some h) ≡ lesser_of_both (greater_present (greater_present (optional_of c) p.most) (upper (i + 1) (n - (i + 1)))) (Some h)
      turned =
          p.rest ∙ ap (λ m. lesser_of_both (greater_present p.most m) (Some h)) (more upper n i k ∙ rw (greatest.next, ← e) refl)
          ∙ ap (λ m. lesser_of_both m (Some h)) (sym (greater-swap (optional_of c) p.most (upper (i + 1) (n - (i + 1)))))

      pub front-reached : not x ≡ true → is_absent h ≡ false → h ≡ cell_of (lesser_of_both (upper 0 n) (optional_of h))
      front-reached t a = rw (a, turned, settled (optional_of c) p.most (upper (i + 1) (n - (i + 1))) (sym q ∙ not-true x t)) refl

      pub front-turn : not x ≡ false → (r : Tag) → r ≡ cond (is_absent c) acc (cond (is_absent acc) c (greater_of c acc)) → Ahead (i + 1) r
      front-turn t r d = record {
        most = greater_present (optional_of c) p.most;
        means = rw d (means-join greatest c acc p.most p.means);
        below = below_both (optional_of c) p.most (subst T (sym (not-false x t) ∙ q) tt) p.below;
        rest = turned;
      }
