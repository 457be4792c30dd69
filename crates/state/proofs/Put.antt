-- The join of the two layers: a state that holds m, and past the count what s has, is `put s m`; so `view` and this leave one possible result. By
-- columns, place by place, and by the small parts there and back. Assumes nothing.
use mathlib.Core.Path.{◌≡◌, refl, sym, ap, ap₂, ◌∙◌, subst, subst₂}
use mathlib.Core.Bool.{Bool, true, false, cond}
use mathlib.Core.List.{List, [], ◌∷◌, map}
use Prim.Native.Nat.{ℕ, zero, suc, ◌+◌, ◌-◌, ◌≤◌, ◌<◌}
use native.Mathlib.Omega.{arith}
use lib.Dec.{T}
use lib.IntN.{pos}
use lib.ListN.{length, get_or, set, replicate, drop, length-set, length-map, length-append, length-drop, length-replicate}
use lib.Seq.{get_or-set_other, get_or-append-add, get_or-drop, ext_get_or}
use Rattle.std.specs.Option.{is_some, unwrap_or}
use Rattle.tags.specs.Tags.{proper_if_present}
use Rattle.rules.specs.Model.{Tag, Participant, State}
use Rattle.rules.specs.Demands.{Each}
use Rattle.rules.specs.Calls.{proper_publication, proper_inputs, proper_acquisition, proper_participant, is_sound}
use Rattle.rules.proofs.Lists.{each_map}
use Rattle.rules.proofs.Sound.{participant-parts, sound-proper-participants, sound-proper-horizon, sound-proper-frontier, sound-proper-probe, sound-proper-input-horizon, sound-proper-publication, sound-proper-inputs, sound-proper-acquisition}
use Rattle.state.specs.declared.FederateCoordinationState.{FederateCoordinationState as Held}
use Rattle.state.specs.declared.Gate.{Gate}
use Rattle.state.specs.declared.Parts.{Parts}
use Rattle.state.specs.Walk.{tab}
use Rattle.state.specs.Cells.{optional_of, cell_of, is_neat, is_zero_unless, number_if, observation_of}
use Rattle.state.specs.View.{tag_at, row_at, rows_of, view, represents, over, over_tags, granted_of, observation_cell, put}
use Rattle.state.specs.Parts.{Sized, rebuilt, cleared}
use Rattle.state.proofs.Rows.{tab-same, length-rows, get_or-tab, length-tab, map-tab, cell-optional, optional-cell, neat-cell}
use Rattle.state.proofs.Neat.{NeatPlace, place-parts, place-whole, neat-place, neat-gate, neat-parts, represents-of, coordination-parts, coordination-whole, completion-parts, completion-whole, gate-parts, gate-whole}
use Rattle.state.proofs.Columns.{Kind, OfCandidate, OfCompleted, OfStarted, place, tag_of, place-injective, over-length, over-within, over-outside, over-is, three-length, three-within, three-past, three-is, over-over, three-three}
use Rattle.state.proofs.Round.{policy-number, number-policy, cell-observation, observation-cell, flag-number, value-number, number-back, flag-number, value-number, number-back, inputs-back, stored_back, coordination-held, completion-held, gate-held, coordination-back, policy-below, observation-below, number-neat, number-neat, coordination-neat, first-neat, last-neat, both-neat, stored-neat, revision-neat}

-- ---- the same past the count

-- the place of a participant's cell in a column of one cell each
abbrev pub plain : Unit {0} → ℕ → ℕ
plain u j = j

-- column r is of column l's length, and past the first n of 32 participants has its cells; `at` is their places
pub record Past {A K : Type 0} (at : K → ℕ → ℕ) (d : A) (n : ℕ) (l r : List A) : Type 0 where
  pub long : length r ≡ length l
  pub cells : (k : K) (j : ℕ) → n ≤ j → j < 32 → get_or r (at k j) d ≡ get_or l (at k j) d

pub record Beyond (s r : Held) : Type 0 where
  pub count : r.count ≡ s.count
  pub enclaves : Past plain 0 s.count s.enclaves r.enclaves
  pub published : Past plain false s.count s.published r.published
  pub observation : Past plain 0 s.count s.observation r.observation
  pub acknowledged : Past plain false s.count s.acknowledged r.acknowledged
  pub observed : Past plain 0 s.count s.completion_observed r.completion_observed
  pub seconds : Past place (pos 0) s.count s.seconds r.seconds
  pub nanoseconds : Past place (pos 0) s.count s.nanoseconds r.nanoseconds
  pub microsteps : Past place 0 s.count s.microsteps r.microsteps

module _ {A K : Type 0} (at : K → ℕ → ℕ) (d : A) where
  pub past_same : (n : ℕ) (l r : List A) → r ≡ l → Past at d n l r
  past_same n l r e = record { long = ap length e; cells = λ k j p q. ap (λ (x : List A). get_or x (at k j) d) e }

  pub past-trans : (n m : ℕ) (l r t : List A) → m ≡ n → Past at d n l r → Past at d m r t → Past at d n l t
  past-trans n m l r t e h k = record { long = k.long ∙ h.long; cells = λ x j p q. k.cells x j (omega arith) q ∙ h.cells x j p q }

-- of two states with the same columns
pub beyond-columns : (s r : Held) → r.count ≡ s.count → r.enclaves ≡ s.enclaves → r.published ≡ s.published → r.observation ≡ s.observation
    → r.acknowledged ≡ s.acknowledged → r.completion_observed ≡ s.completion_observed → r.seconds ≡ s.seconds → r.nanoseconds ≡ s.nanoseconds
    → r.microsteps ≡ s.microsteps → Beyond s r
beyond-columns s r n a b c d e f g h = record {
  count = n;
  enclaves = past_same plain 0 s.count s.enclaves r.enclaves a;
  published = past_same plain false s.count s.published r.published b;
  observation = past_same plain 0 s.count s.observation r.observation c;
  acknowledged = past_same plain false s.count s.acknowledged r.acknowledged d;
  observed = past_same plain 0 s.count s.completion_observed r.completion_observed e;
  seconds = past_same place (pos 0) s.count s.seconds r.seconds f;
  nanoseconds = past_same place (pos 0) s.count s.nanoseconds r.nanoseconds g;
  microsteps = past_same place 0 s.count s.microsteps r.microsteps h;
}

pub beyond-refl : (s : Held) → Beyond s s
beyond-refl s = beyond-columns s s refl refl refl refl refl refl refl refl refl

pub beyond-trans : (s t r : Held) → Beyond s t → Beyond t r → Beyond s r
beyond-trans s t r h k = record {
  count = k.count ∙ h.count;
  enclaves = past-trans plain 0 s.count t.count s.enclaves t.enclaves r.enclaves h.count h.enclaves k.enclaves;
  published = past-trans plain false s.count t.count s.published t.published r.published h.count h.published k.published;
  observation = past-trans plain 0 s.count t.count s.observation t.observation r.observation h.count h.observation k.observation;
  acknowledged = past-trans plain false s.count t.count s.acknowledged t.acknowledged r.acknowledged h.count h.acknowledged k.acknowledged;
  observed = past-trans plain 0 s.count t.count s.completion_observed t.completion_observed r.completion_observed h.count h.observed k.observed;
  seconds = past-trans place (pos 0) s.count t.count s.seconds t.seconds r.seconds h.count h.seconds k.seconds;
  nanoseconds = past-trans place (pos 0) s.count t.count s.nanoseconds t.nanoseconds r.nanoseconds h.count h.nanoseconds k.nanoseconds;
  microsteps = past-trans place 0 s.count t.count s.microsteps t.microsteps r.microsteps h.count h.microsteps k.microsteps;
}

pub beyond-sized : (s r : Held) → Beyond s r → Sized s → Sized r
beyond-sized s r b z = record {
  enclaves = b.enclaves.long ∙ z.enclaves;
  published = b.published.long ∙ z.published;
  observation = b.observation.long ∙ z.observation;
  acknowledged = b.acknowledged.long ∙ z.acknowledged;
  observed = b.observed.long ∙ z.observed;
  seconds = b.seconds.long ∙ z.seconds;
  nanoseconds = b.nanoseconds.long ∙ z.nanoseconds;
  microsteps = b.microsteps.long ∙ z.microsteps;
}

-- ---- a state rebuilt at a place within the count

module _ {A : Type 0} (d : A) (n i : ℕ) (h : i < n) where
  pub past-set : (l : List A) (a : A) → Past plain d n l (set l i a)
  past-set l a = record { long = length-set l i a; cells = λ u j p q. get_or-set_other l i j a d (λ e. omega arith) }

  -- a tag of any kind
  pub past-set-tag : (κ : Kind) (l : List A) (a : A) → Past place d n l (set l (place κ i) a)
  past-set-tag κ l a = record {
    long = length-set l (place κ i) a;
    cells = λ μ j p q. get_or-set_other l (place κ i) (place μ j) a d (λ e. let m = place-injective μ κ j i q (omega arith) e in omega arith);
  }

  -- the candidate and the completed tag, as `rebuilt` has it
  past-set-tags : (l : List A) (a b : A) → Past place d n l (set (set l i a) (32 + i) b)
  past-set-tags l a b = past-trans place d n n l (set l i a) (set (set l i a) (32 + i) b) refl (past-set-tag OfCandidate l a) (past-set-tag OfCompleted (set l i a) b)

pub past-cleared : (n : ℕ) (l : List ℕ) → n ≤ length l → Past plain 0 n l (cleared n l)
past-cleared n l h = record {
  long = length-append (replicate n 0) (drop n l) ∙ (let a = length-replicate {A = ℕ} n 0 in let b = length-drop n l in omega arith);
  cells = λ u j p q. subst (λ k. get_or (cleared n l) k 0 ≡ get_or l k 0) (let w : n + (j - n) ≡ j = omega arith in w) (tail (j - n));
}
  where
    tail : (k : ℕ) → get_or (cleared n l) (n + k) 0 ≡ get_or l (n + k) 0
    tail k =
        subst (λ m. get_or (cleared n l) (m + k) 0 ≡ get_or (drop n l) k 0) (length-replicate n 0) (get_or-append-add (replicate n 0) (drop n l) k 0) ∙
        get_or-drop n l k 0

-- with any observations that are the same past the count
beyond-rebuilt-by : (s : Held) (i : ℕ) (p : Parts) (o : List ℕ) (g : Gate) → i < s.count → Past plain 0 s.count s.observation o → Beyond s (rebuilt s i p o g)
beyond-rebuilt-by s i p o g h k = let n = s.count in let w = p.row in record {
  count = refl;
  enclaves = past_same plain 0 n s.enclaves s.enclaves refl;
  published = past-set false n i h s.published w.published;
  observation = k;
  acknowledged = past-set false n i h s.acknowledged w.acknowledged;
  observed = past-set 0 n i h s.completion_observed w.completion_observed;
  seconds = past-set-tags (pos 0) n i h s.seconds w.candidate.seconds w.completed.seconds;
  nanoseconds = past-set-tags (pos 0) n i h s.nanoseconds w.candidate.nanoseconds w.completed.nanoseconds;
  microsteps = past-set-tags 0 n i h s.microsteps w.candidate.microstep w.completed.microstep;
}

-- with the observations kept or cleared, as `halfway` has it
pub beyond-rebuilt : (s : Held) (i : ℕ) (p : Parts) (forgets : Bool) (g : Gate) → Sized s → s.count ≤ 32 → i < s.count
    → Beyond s (rebuilt s i p (cond forgets (cleared s.count s.observation) s.observation) g)
beyond-rebuilt s i p true g z few h =
    beyond-rebuilt-by s i p (cleared s.count s.observation) g h (past-cleared s.count s.observation (let e = z.observation in omega arith))
beyond-rebuilt s i p false g z few h = beyond-rebuilt-by s i p s.observation g h (past_same plain 0 s.count s.observation s.observation refl)

-- ---- what a state shows tells its cells

module _ (r : Held) (h : T (represents r)) where
  neat-kind : (κ : Kind) (j : ℕ) → j < r.count → T (is_neat (tag_at r (place κ j)))
  neat-kind OfCandidate j l = (place-parts r j (neat-place r h j l)).candidate
  neat-kind OfCompleted j l = (place-parts r j (neat-place r h j l)).completed
  neat-kind OfStarted j l = (place-parts r j (neat-place r h j l)).started

  tag-shown : (κ : Kind) (j : ℕ) → tag_of κ (row_at r j) ≡ optional_of (tag_at r (place κ j))
  tag-shown OfCandidate j = refl
  tag-shown OfCompleted j = refl
  tag-shown OfStarted j = refl

  tag-told : (κ : Kind) (j : ℕ) → j < r.count → cell_of (tag_of κ (row_at r j)) ≡ tag_at r (place κ j)
  tag-told κ j l = ap cell_of (tag-shown κ j) ∙ cell-optional (tag_at r (place κ j)) (neat-kind κ j l)

  part-told : {A : Type 0} (part : Tag → A) (κ : Kind) (j : ℕ) → j < r.count → part (cell_of (tag_of κ (row_at r j))) ≡ part (tag_at r (place κ j))
  part-told part κ j l = ap part (tag-told κ j l)

  observation-told : (j : ℕ) → j < r.count → observation_cell (row_at r j).observation ≡ get_or r.observation j 0
  observation-told j l = cell-observation (get_or r.observation j 0) (place-parts r j (neat-place r h j l)).observation

  flag-told : (j : ℕ) → is_some (row_at r j).completion_observed ≡ get_or r.acknowledged j false
  flag-told j = flag-number (get_or r.acknowledged j false) (get_or r.completion_observed j 0)

  value-told : (j : ℕ) → j < r.count → unwrap_or (row_at r j).completion_observed 0 ≡ get_or r.completion_observed j 0
  value-told j l = value-number (get_or r.acknowledged j false) (get_or r.completion_observed j 0) (place-parts r j (neat-place r h j l)).observed

  granted-told : (n : ℕ) → 1 ≤ n → granted_of (tab (row_at r) 0 n) ≡ optional_of r.gate.granted
  granted-told zero l = absurd (omega arith)
  granted-told (suc n) l = refl

  gate-told : (s : Held) → 1 ≤ r.count → (put s (view r)).gate ≡ r.gate
  unfolding put
  gate-told s l = rw (granted-told r.count l) (gate-held r.gate (gate-parts r.gate (neat-gate r h)))

-- the cells that a part of each participant gives
module _ {A : Type 0} (d : A) (r : Held) (g : Participant → A) where
  cells-length : length (map g (rows_of r)) ≡ r.count
  cells-length = length-map (rows_of r) g ∙ length-rows r

  cells_at : (j : ℕ) → j < r.count → get_or (map g (rows_of r)) j d ≡ g (row_at r j)
  cells_at j h = ap (λ (x : List A). get_or x j d) (map-tab g (row_at r) 0 r.count) ∙ get_or-tab (λ i. g (row_at r i)) d r.count j h

-- ---- the state that holds what r shows, over s, is r

module _ (s r : Held) (z : Sized s) (few : s.count ≤ 32) (b : Beyond s r) where
  -- a column k of r over column l of s
  column-held : {A : Type 0} (d : A) (l k : List A) (g : Participant → A) → length l ≡ 32 → Past plain d s.count l k
      → ((j : ℕ) → j < r.count → g (row_at r j) ≡ get_or k j d) → k ≡ over l 0 (map g (rows_of r))
  column-held d l k g e p h =
      let n = b.count in
      let w = cells-length d r g in
      over-is d l k (map g (rows_of r)) (omega arith) p.long (λ j m. sym (cells_at d r g j (omega arith) ∙ h j (omega arith)))
      (λ j m q. p.cells tt j (omega arith) (omega arith))

  -- the same of a column of tags
  column-held-tags : {A : Type 0} (d : A) (l k : List A) (part : Tag → A) → length l ≡ 96 → Past place d s.count l k
      → ((κ : Kind) (j : ℕ) → j < r.count → part (cell_of (tag_of κ (row_at r j))) ≡ get_or k (place κ j) d) → k ≡ over_tags part l (rows_of r)
  column-held-tags {A} d l k part e p h =
      let n = b.count in
      three-is l (λ κ. map (g κ) (rows_of r)) s.count (λ κ. cells-length d r (g κ) ∙ n) few e d k (p.long ∙ e)
      (λ κ j m. sym (cells_at d r (g κ) j (omega arith) ∙ h κ j (omega arith))) p.cells
    where
      g : Kind → Participant → A
      g κ q = part (cell_of (tag_of κ q))

  held : 1 ≤ s.count → T (represents r) → r ≡ put s (view r)
  unfolding put
  held one h =
      let v = neat-parts r h in
      let enclaves = column-held 0 s.enclaves r.enclaves (λ p. p.index) z.enclaves b.enclaves (λ j l. refl) in
      let published = column-held false s.published r.published (λ p. p.published) z.published b.published (λ j l. refl) in
      let observation = column-held 0 s.observation r.observation (λ p. observation_cell p.observation) z.observation b.observation (observation-told r h) in
      let flag = column-held false s.acknowledged r.acknowledged (λ p. is_some p.completion_observed) z.acknowledged b.acknowledged (λ j l. flag-told r h j) in
      let value = column-held 0 s.completion_observed r.completion_observed (λ p. unwrap_or p.completion_observed 0) z.observed b.observed (value-told r h) in
      let seconds = column-held-tags (pos 0) s.seconds r.seconds (λ t. t.seconds) z.seconds b.seconds (part-told r h (λ t. t.seconds)) in
      let nanoseconds = column-held-tags (pos 0) s.nanoseconds r.nanoseconds (λ t. t.nanoseconds) z.nanoseconds b.nanoseconds (part-told r h (λ t. t.nanoseconds)) in
      let microsteps = column-held-tags 0 s.microsteps r.microsteps (λ t. t.microstep) z.microsteps b.microsteps (part-told r h (λ t. t.microstep)) in
      λ k. record {
        count = b.count k;
        enclaves = enclaves k;
        published = published k;
        observation = observation k;
        acknowledged = flag k;
        completion_observed = value k;
        seconds = seconds k;
        nanoseconds = nanoseconds k;
        microsteps = microsteps k;
        coordination = sym (coordination-held r (coordination-parts r.coordination v.coordination)) k;
        completion = sym (completion-held r.completion (completion-parts r.completion v.completion)) k;
        gate = sym (gate-told r h s (let n = b.count in omega arith)) k;
        grant_horizon = sym (cell-optional r.grant_horizon v.horizon) k;
        failed = sym (flag-number r.failed r.first_failure) k;
        first_failure = sym (value-number r.failed r.first_failure v.failure) k;
        lifecycle = sym (policy-number r.lifecycle v.policy) k;
      }

pub holds-is-put : (s r : Held) (m : State) → Sized s → 1 ≤ s.count → s.count ≤ 32 → Beyond s r → T (represents r) → view r ≡ m → r ≡ put s m
holds-is-put s r m z one few b h e = held s r z few b one h ∙ ap (put s) e

pub put_view : (s : Held) → Sized s → 1 ≤ s.count → s.count ≤ 32 → T (represents s) → put s (view s) ≡ s
put_view s z one few h = sym (holds-is-put s s (view s) z one few (beyond-refl s) h refl)

pub one-possible-result : (s r q : Held) → Sized s → 1 ≤ s.count → s.count ≤ 32 → Beyond s r → Beyond s q → T (represents r) → T (represents q)
    → view r ≡ view q → r ≡ q
one-possible-result s r q z one few b c h k e = holds-is-put s r (view q) z one few b h e ∙ sym (holds-is-put s q (view q) z one few c k refl)

-- ---- a state put is shown again

-- m fit to be held: its tags proper if present, and one tag granted to all
pub record Fit (m : State) : Type 0 where
  pub tags : (κ : Kind) → Each (λ p. T (proper_if_present (tag_of κ p))) m.participants
  pub granted : T (proper_if_present (granted_of m.participants))
  pub together : Each (λ p. p.granted ≡ granted_of m.participants) m.participants
  pub horizon : T (proper_if_present m.grant_horizon)
  pub frontier : T (proper_if_present m.completed_frontier)
  pub probe : T (proper_if_present m.completion_probe)
  pub input_horizon : T (proper_if_present m.input_horizon)
  pub publication : T (proper_publication m.pending_publication)
  pub inputs : T (proper_inputs m.pending_inputs)
  pub acquisition : T (proper_acquisition m.input_acquisition)

each_at : {A : Type 0} (P : A → Type 0) (xs : List A) (d : A) (j : ℕ) → Each P xs → j < length xs → P (get_or xs j d)
each_at P [] d j e h = absurd (omega arith)
each_at P (x ∷ xs) d zero e h = e.0
each_at P (x ∷ xs) d (suc j) e h = each_at P xs d j e.1 (omega arith)

get_d_map : {A B : Type 0} (g : A → B) (xs : List A) (a : A) (d : B) (j : ℕ) → j < length xs → get_or (map g xs) j d ≡ g (get_or xs j a)
get_d_map g [] a d j h = absurd (omega arith)
get_d_map g (x ∷ xs) a d zero h = refl
get_d_map g (x ∷ xs) a d (suc j) h = get_d_map g xs a d j (omega arith)

tab-get_or : {A : Type 0} (xs : List A) (a : A) (n : ℕ) → length xs ≡ n → tab (λ j. get_or xs j a) 0 n ≡ xs
tab-get_or xs a n e =
    let w = length-tab (λ j. get_or xs j a) 0 n in
    ext_get_or a (tab (λ j. get_or xs j a) 0 n) xs (w ∙ sym e) (λ j h. get_or-tab (λ j. get_or xs j a) a n j (omega arith))

module _ (s : Held) (m : State) (z : Sized s) (same : length m.participants ≡ s.count) (few : s.count ≤ 32) (a : Participant) where
  -- participant j of m, and its cells in the columns
  abbrev nth : ℕ → Participant
  nth j = get_or m.participants j a

  column-put : {A : Type 0} (d : A) (l : List A) (g : Participant → A) → length l ≡ 32 → (j : ℕ) → j < s.count
      → get_or (over l 0 (map g m.participants)) j d ≡ g (nth j)
  column-put d l g e j h =
      let w = length-map m.participants g in
      over-within l 0 (map g m.participants) (omega arith) d j j (omega arith) (omega arith) ∙ get_d_map g m.participants a d j (omega arith)

  column-put-tags : {A : Type 0} (d : A) (l : List A) (part : Tag → A) → length l ≡ 96 → (κ : Kind) (j : ℕ) → j < s.count
      → get_or (over_tags part l m.participants) (place κ j) d ≡ part (cell_of (tag_of κ (nth j)))
  column-put-tags {A} d l part e κ j h =
      three-within l (λ κ. map (g κ) m.participants) s.count (λ κ. length-map m.participants (g κ) ∙ same) few e d κ j h ∙
      get_d_map (g κ) m.participants a d j (omega arith)
    where
      g : Kind → Participant → A
      g κ p = part (cell_of (tag_of κ p))

  tag-put : (κ : Kind) (j : ℕ) → j < s.count → tag_at (put s m) (place κ j) ≡ cell_of (tag_of κ (nth j))
  unfolding put
  tag-put κ j h =
      let x = column-put-tags (pos 0) s.seconds (λ t. t.seconds) z.seconds κ j h in
      let y = column-put-tags (pos 0) s.nanoseconds (λ t. t.nanoseconds) z.nanoseconds κ j h in
      let w = column-put-tags 0 s.microsteps (λ t. t.microstep) z.microsteps κ j h in
      λ k. record { seconds = x k; nanoseconds = y k; microstep = w k }

  module _ (f : Fit m) where
    tag_back : (κ : Kind) (j : ℕ) → j < s.count → optional_of (tag_at (put s m) (place κ j)) ≡ tag_of κ (nth j)
    tag_back κ j h =
        ap optional_of (tag-put κ j h) ∙
        optional-cell (tag_of κ (nth j)) (each_at (λ p. T (proper_if_present (tag_of κ p))) m.participants a j (f.tags κ) (omega arith))

    row_put : (j : ℕ) → j < s.count → row_at (put s m) j ≡ nth j
    unfolding put
    row_put j h =
        let index = column-put 0 s.enclaves (λ p. p.index) z.enclaves j h in
        let published = column-put false s.published (λ p. p.published) z.published j h in
        let flag = column-put false s.acknowledged (λ p. is_some p.completion_observed) z.acknowledged j h in
        let value = column-put 0 s.completion_observed (λ p. unwrap_or p.completion_observed 0) z.observed j h in
        let observed = ap₂ number_if flag value ∙ number-back (nth j).completion_observed in
        let cell = column-put 0 s.observation (λ p. observation_cell p.observation) z.observation j h in
        let observation = ap observation_of cell ∙ observation-cell (nth j).observation in
        let together = each_at (λ p. p.granted ≡ granted_of m.participants) m.participants a j f.together (omega arith) in
        let granted = optional-cell (granted_of m.participants) f.granted ∙ sym together in
        λ k. record {
          index = index k;
          candidate = tag_back OfCandidate j h k;
          completed = tag_back OfCompleted j h k;
          published = published k;
          completion_observed = observed k;
          observation = observation k;
          granted = granted k;
          started = tag_back OfStarted j h k;
        }

    rows-put : rows_of (put s m) ≡ m.participants
    unfolding put
    rows-put = tab-same (row_at (put s m)) nth 0 s.count (λ j p q. row_put j (omega arith)) ∙ tab-get_or m.participants a s.count same

pub view-put : (s : Held) (m : State) → Sized s → length m.participants ≡ s.count → s.count ≤ 32 → Fit m → view (put s m) ≡ m
unfolding put
view-put s m z same few f =
    let rows = rows-put s m z same few (row_at s 0) f in
    let c = coordination-back m.pending_publication m f.publication in
    λ k. record {
      participants = rows k;
      lifecycle = number-policy m.lifecycle k;
      phase = c.phase k;
      revision = c.revision k;
      idle_authorization = c.authorization k;
      pending_publication = c.publication k;
      grant_horizon = optional-cell m.grant_horizon f.horizon k;
      completed_frontier = optional-cell m.completed_frontier f.frontier k;
      pending_inputs = inputs-back m.pending_inputs f.inputs k;
      completion_generation = m.completion_generation;
      completion_probe = optional-cell m.completion_probe f.probe k;
      first_failure = number-back m.first_failure k;
      input_horizon = optional-cell m.input_horizon f.input_horizon k;
      input_acquisition = stored_back m.input_acquisition f.acquisition k;
    }

-- ---- put again, and past the count

module _ (n : ℕ) (ps qs : List Participant) (x : length ps ≡ n) (y : length qs ≡ n) (few : n ≤ 32) where
  column_again : {A : Type 0} (d : A) (l : List A) (g : Participant → A) → length l ≡ 32 → over (over l 0 (map g ps)) 0 (map g qs) ≡ over l 0 (map g qs)
  column_again d l g e = let u = length-map ps g in let w = length-map qs g in over-over d l (map g ps) (map g qs) (omega arith) (omega arith)

  column-again-tags : {A : Type 0} (d : A) (l : List A) (part : Tag → A) → length l ≡ 96 → over_tags part (over_tags part l ps) qs ≡ over_tags part l qs
  column-again-tags d l part e =
      three-three d l (λ κ. map (λ p. part (cell_of (tag_of κ p))) ps) (λ κ. map (λ p. part (cell_of (tag_of κ p))) qs) n
      (λ κ. length-map ps (λ p. part (cell_of (tag_of κ p))) ∙ x) (λ κ. length-map qs (λ p. part (cell_of (tag_of κ p))) ∙ y) few e

pub put-put : (s : Held) (m n : State) → Sized s → length m.participants ≡ s.count → length n.participants ≡ s.count → s.count ≤ 32
    → put (put s m) n ≡ put s n
unfolding put
put-put s m n z x y few =
    let ps = m.participants in
    let qs = n.participants in
    let c = s.count in
    let enclaves = column_again c ps qs x y few 0 s.enclaves (λ p. p.index) z.enclaves in
    let published = column_again c ps qs x y few false s.published (λ p. p.published) z.published in
    let observation = column_again c ps qs x y few 0 s.observation (λ p. observation_cell p.observation) z.observation in
    let acknowledged = column_again c ps qs x y few false s.acknowledged (λ p. is_some p.completion_observed) z.acknowledged in
    let observed = column_again c ps qs x y few 0 s.completion_observed (λ p. unwrap_or p.completion_observed 0) z.observed in
    let seconds = column-again-tags c ps qs x y few (pos 0) s.seconds (λ t. t.seconds) z.seconds in
    let nanoseconds = column-again-tags c ps qs x y few (pos 0) s.nanoseconds (λ t. t.nanoseconds) z.nanoseconds in
    let microsteps = column-again-tags c ps qs x y few 0 s.microsteps (λ t. t.microstep) z.microsteps in
    λ k. record {
      count = s.count;
      enclaves = enclaves k;
      published = published k;
      observation = observation k;
      acknowledged = acknowledged k;
      completion_observed = observed k;
      seconds = seconds k;
      nanoseconds = nanoseconds k;
      microsteps = microsteps k;
      coordination = (put s n).coordination;
      completion = (put s n).completion;
      gate = (put s n).gate;
      grant_horizon = (put s n).grant_horizon;
      failed = (put s n).failed;
      first_failure = (put s n).first_failure;
      lifecycle = (put s n).lifecycle;
    }

module _ (n : ℕ) (ps : List Participant) (same : length ps ≡ n) (few : n ≤ 32) where
  past-over : {A : Type 0} (d : A) (l : List A) (g : Participant → A) → length l ≡ 32 → Past plain d n l (over l 0 (map g ps))
  past-over d l g e =
      let w = length-map ps g in
      record { long = over-length l 0 (map g ps) (omega arith); cells = λ u j p q. over-outside l 0 (map g ps) (omega arith) d j (λ i x y. omega arith) }

  past-over-tags : {A : Type 0} (d : A) (l : List A) (part : Tag → A) → length l ≡ 96 → Past place d n l (over_tags part l ps)
  past-over-tags {A} d l part e = record { long = three-length l v n each few e ∙ sym e; cells = three-past l v n each few e d }
    where
      v : Kind → List A
      v κ = map (λ p. part (cell_of (tag_of κ p))) ps

      each : (κ : Kind) → length (v κ) ≡ n
      each κ = length-map ps (λ p. part (cell_of (tag_of κ p))) ∙ same

pub beyond-put : (s : Held) (m : State) → Sized s → length m.participants ≡ s.count → s.count ≤ 32 → Beyond s (put s m)
unfolding put
beyond-put s m z same few = let n = s.count in let ps = m.participants in record {
  count = refl;
  enclaves = past-over n ps same few 0 s.enclaves (λ p. p.index) z.enclaves;
  published = past-over n ps same few false s.published (λ p. p.published) z.published;
  observation = past-over n ps same few 0 s.observation (λ p. observation_cell p.observation) z.observation;
  acknowledged = past-over n ps same few false s.acknowledged (λ p. is_some p.completion_observed) z.acknowledged;
  observed = past-over n ps same few 0 s.completion_observed (λ p. unwrap_or p.completion_observed 0) z.observed;
  seconds = past-over-tags n ps same few (pos 0) s.seconds (λ t. t.seconds) z.seconds;
  nanoseconds = past-over-tags n ps same few (pos 0) s.nanoseconds (λ t. t.nanoseconds) z.nanoseconds;
  microsteps = past-over-tags n ps same few 0 s.microsteps (λ t. t.microstep) z.microsteps;
}

-- ---- a state put holds one of document 01

module _ (s : Held) (m : State) (z : Sized s) (same : length m.participants ≡ s.count) (few : s.count ≤ 32) (f : Fit m) where
  -- participant j of m
  abbrev of : ℕ → Participant
  of j = get_or m.participants j (row_at s 0)

  neat-put-tag : (κ : Kind) (j : ℕ) → j < s.count → T (is_neat (tag_at (put s m) (place κ j)))
  neat-put-tag κ j h =
      subst (λ t. T (is_neat t)) (sym (tag-put s m z same few (row_at s 0) κ j h))
      (neat-cell (tag_of κ (of j)) (each_at (λ p. T (proper_if_present (tag_of κ p))) m.participants (row_at s 0) j (f.tags κ) (omega arith)))

  neat-put-place : (j : ℕ) → j < s.count → NeatPlace (put s m) j
  unfolding put
  neat-put-place j h =
      let flag = column-put s m z same few (row_at s 0) false s.acknowledged (λ p. is_some p.completion_observed) z.acknowledged j h in
      let value = column-put s m z same few (row_at s 0) 0 s.completion_observed (λ p. unwrap_or p.completion_observed 0) z.observed j h in
      let cell = column-put s m z same few (row_at s 0) 0 s.observation (λ p. observation_cell p.observation) z.observation j h in
      record {
        candidate = neat-put-tag OfCandidate j h;
        completed = neat-put-tag OfCompleted j h;
        started = neat-put-tag OfStarted j h;
        observed = subst₂ (λ b n. T (is_zero_unless b n)) (sym flag) (sym value) (number-neat (of j).completion_observed);
        observation = subst (λ n. n ≤ 3) (sym cell) (observation-below (of j).observation);
      }

  pub represents-put : T (represents (put s m))
  unfolding put
  represents-put = represents-of (put s m) (record {
    places = λ j h. place-whole (put s m) j (neat-put-place j h);
    coordination = coordination-whole (put s m).coordination (coordination-neat m.pending_publication m f.publication);
    completion = completion-whole (put s m).completion (record {
      frontier = neat-cell m.completed_frontier f.frontier;
      probe = neat-cell m.completion_probe f.probe;
      first = first-neat m.pending_inputs f.inputs;
      last = last-neat m.pending_inputs f.inputs;
      both = both-neat m.pending_inputs f.inputs;
    });
    gate = gate-whole (put s m).gate (record {
      input_horizon = neat-cell m.input_horizon f.input_horizon;
      granted = neat-cell (granted_of m.participants) f.granted;
      stored = stored-neat m.input_acquisition f.acquisition;
      revision = revision-neat m.input_acquisition f.acquisition;
    });
    horizon = neat-cell m.grant_horizon f.horizon;
    failure = number-neat m.first_failure;
    policy = policy-below m.lifecycle;
  })

-- ---- what is fit to be held: a sound state with one tag granted to all, as that which a state shows is

granted-proper : (ps : List Participant) → Each (λ p. T (proper_participant p)) ps → T (proper_if_present (granted_of ps))
granted-proper [] h = tt
granted-proper (p ∷ ps) h = (participant-parts p h.0).granted

proper-kind : (κ : Kind) (p : Participant) → T (proper_participant p) → T (proper_if_present (tag_of κ p))
proper-kind OfCandidate p h = (participant-parts p h).candidate
proper-kind OfCompleted p h = (participant-parts p h).completed
proper-kind OfStarted p h = (participant-parts p h).started

pub fit-sound : (m : State) → T (is_sound m) → Each (λ p. p.granted ≡ granted_of m.participants) m.participants → Fit m
fit-sound m h together = record {
  tags = λ κ. each_map (λ p. T (proper_participant p)) (λ p. T (proper_if_present (tag_of κ p))) (proper-kind κ) m.participants (sound-proper-participants m h);
  granted = granted-proper m.participants (sound-proper-participants m h);
  together = together;
  horizon = sound-proper-horizon m h;
  frontier = sound-proper-frontier m h;
  probe = sound-proper-probe m h;
  input_horizon = sound-proper-input-horizon m h;
  publication = sound-proper-publication m h;
  inputs = sound-proper-inputs m h;
  acquisition = sound-proper-acquisition m h;
}

together-from : (s : Held) (k n : ℕ) → Each (λ p. p.granted ≡ optional_of s.gate.granted) (tab (row_at s) k n)
together-from s k zero = tt
together-from s k (suc n) = (refl, together-from s (k + 1) n)

pub rows-together : (s : Held) → Each (λ p. p.granted ≡ granted_of (rows_of s)) (rows_of s)
rows-together s = go s.count
  where
    go : (n : ℕ) → Each (λ p. p.granted ≡ granted_of (tab (row_at s) 0 n)) (tab (row_at s) 0 n)
    go zero = tt
    go (suc n) = together-from s 0 (suc n)
