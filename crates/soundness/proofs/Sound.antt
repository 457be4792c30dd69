-- The tests on the pieces are together what 27 asks: that the numbers hold a state of document 01 (`represents`), and that it is sound. Each piece's test
-- is its two halves, one of each; then only the order of the tests differs. Assumes nothing.
use mathlib.Core.Path.{◌≡◌, refl, sym, ◌∙◌}
use mathlib.Core.Bool.{Bool, true, false, not, cond, ◌&&◌, and-true, and-false, and_self, and_assoc, and_comm}
use Prim.Native.Nat.{ℕ, zero, suc, ◌+◌, ◌<◌}
use native.Mathlib.Omega.{arith}
use lib.Dec.{leb, ltb, eqb, leb-suc-suc}
use lib.ListN.{get_or}
use borrow.Author.Tests.{ltb-true, leb-true, lt-ltb, le-ltb, le-leb}
use Rattle.tags.specs.Tags.{◌≡ₜ◌, is_proper, proper_if_present}
use Rattle.rules.specs.Model.{Tag}
use Rattle.rules.specs.Walk.{all}
use Rattle.rules.specs.Calls.{ascending, proper_participant, proper_publication, proper_inputs, proper_acquisition, is_sound}
use Rattle.state.specs.declared.FederateCoordinationState.{FederateCoordinationState as Held}
use Rattle.state.specs.declared.Coordination.{Coordination}
use Rattle.state.specs.declared.Completion.{Completion}
use Rattle.state.specs.declared.Gate.{Gate}
use Rattle.state.specs.Walk.{tab, all_of}
use Rattle.state.specs.Cells.{absent, is_absent, optional_of, is_neat, is_cell, is_zero_unless, publication_if, inputs_of, stored_of}
use Rattle.state.specs.View.{tag_at, row_at, rows_of, view, neat_at, neat_coordination, neat_completion, neat_gate, represents}
use Rattle.state.proofs.Rows.{all-rows, all_same, length-rows, cell-split}
use Rattle.soundness.specs.Sound.{rises, sound_at, sound_coordination, sound_inputs, sound_completion, sound_acquisition, sound_gate, sound_parts, sound_places}
use Rattle.soundness.proofs.Cells.{Told, mark, hidden, proper, improper, told}

-- ---- conjunctions in another order: `simp sorted`

and-left-comm : (a b c : Bool) → (a && (b && c)) ≡ (b && (a && c))
and-left-comm true b c = refl
and-left-comm false true c = refl
and-left-comm false false c = refl

ruleset sorted = (and_assoc, and_comm, and-left-comm)

abbrev proper-if : Tag → Bool
proper-if t = proper_if_present (optional_of t)

-- ---- the small parts

two_cells : (a b : Tag) → (is_cell a && is_cell b) ≡ ((is_neat a && is_neat b) && (proper-if a && proper-if b))
two_cells a b = rw (cell-split a, cell-split b) (simp sorted)

publication-is : (b : Bool) (r : ℕ) (n h : Tag)
    → cond b (is_cell n && is_cell h) (eqb r 0 && (n ≡ₜ absent && h ≡ₜ absent)) ≡
    (cond b (is_neat n && is_neat h) (eqb r 0 && n ≡ₜ absent && h ≡ₜ absent) && proper_publication (publication_if b r n h))
publication-is true r n h = two_cells n h
publication-is false r n h = sym (and-true (eqb r 0 && n ≡ₜ absent && h ≡ₜ absent) ∙ and_assoc (eqb r 0) (n ≡ₜ absent) (h ≡ₜ absent))

coordination-is : (c : Coordination)
    → sound_coordination c ≡
    (neat_coordination c && proper_publication (publication_if c.pending c.pending_revision c.pending_next_event c.pending_grant_horizon))
coordination-is c =
    rw (publication-is c.pending c.pending_revision c.pending_next_event c.pending_grant_horizon)
    (simp and_assoc)

inputs-is : (a b : Tag)
    → sound_inputs a b ≡
    (is_neat a && is_neat b && cond (is_absent a) (is_absent b) (not (is_absent b)) && proper_inputs (inputs_of a b))
inputs-is a b = go _ _ _ _ _ _ refl refl refl refl refl refl (told a) (told b)
  where
    go : (x y z u v w : Bool) → is_absent a ≡ x → (a ≡ₜ absent) ≡ y → is_proper a ≡ z → is_absent b ≡ u → (b ≡ₜ absent) ≡ v → is_proper b ≡ w
        → Told x y z → Told u v w
        → sound_inputs a b ≡ (is_neat a && is_neat b && cond (is_absent a) (is_absent b) (not (is_absent b)) && proper_inputs (inputs_of a b))
    go x y z u v w d e f g h k mark mark = simp (d, e, f, g, h, k)
    go x y z u v w d e f g h k mark hidden = simp (d, e, f, g, h, k)
    go x y z u v w d e f g h k mark proper = simp (d, e, f, g, h, k)
    go x y z u v w d e f g h k mark improper = simp (d, e, f, g, h, k)
    go x y z u v w d e f g h k hidden q = simp (d, e, f)
    go x y z u v w d e f g h k proper mark = simp (d, e, f, g, h, k)
    go x y z u v w d e f g h k proper hidden = simp (d, e, f, g, h, k)
    go x y z u v w d e f g h k proper proper = simp (d, e, f, g, h, k)
    go x y z u v w d e f g h k proper improper = simp (d, e, f, g, h, k)
    go x y z u v w d e f g h k improper q = simp (d, e, f, and-false)

acquisition-is : (r : ℕ) (t : Tag)
    → sound_acquisition r t ≡ (is_neat t && is_zero_unless (not (is_absent t)) r && proper_acquisition (stored_of r t))
acquisition-is r t = go _ _ _ refl refl refl (told t)
  where
    go : (x y z : Bool) → is_absent t ≡ x → (t ≡ₜ absent) ≡ y → is_proper t ≡ z → Told x y z
        → sound_acquisition r t ≡ (is_neat t && is_zero_unless (not (is_absent t)) r && proper_acquisition (stored_of r t))
    go x y z d e f mark = simp (d, e, f, and-true)
    go x y z d e f hidden = simp (d, e, f)
    go x y z d e f proper = simp (d, e, f)
    go x y z d e f improper = simp (d, e, f)

completion-is : (k : Completion)
    → sound_completion k ≡
    (neat_completion k && proper-if k.completed_frontier && proper-if k.completion_probe &&
    proper_inputs (inputs_of k.first_input k.last_input))
completion-is k =
    rw (two_cells k.completed_frontier k.completion_probe, inputs-is k.first_input k.last_input) (simp sorted)

gate-is : (g : Gate)
    → sound_gate g ≡
    (neat_gate g && proper-if g.input_horizon && proper-if g.granted && proper_acquisition (stored_of g.stored_revision g.stored_granted))
gate-is g =
    rw (two_cells g.granted g.input_horizon, acquisition-is g.stored_revision g.stored_granted) (simp sorted)

-- ---- the places

all-and : (p q : ℕ → Bool) (k n : ℕ) → all_of (λ j. p j && q j) k n ≡ (all_of p k n && all_of q k n)
unfolding all_of
all-and p q k zero = refl
all-and p q k (suc n) = rw (all-and p q (k + 1) n) (simp sorted)

-- one test for all is one test
all_one : (b : Bool) (k n : ℕ) → 0 < n → all_of (λ j. b) k n ≡ b
unfolding all_of
all_one b k zero h = absurd (omega arith)
all_one b k (suc zero) h = and-true b
all_one b k (suc (suc n)) h = rw (all_one b (k + 1) (suc n) (omega arith)) (and_self b)

-- each index below the next and the last below 4,096 is: they ascend, and each is at most 4,095
module _ (s : Held) where
  abbrev index : ℕ → ℕ
  index j = get_or s.enclaves j 0

  abbrev low : ℕ → Bool
  low j = leb (index j) 4095

  bounded : (a b : Bool) (x y : ℕ) → (ltb x y && (a && (leb y 4095 && b))) ≡ ((ltb x y && a) && (leb x 4095 && (leb y 4095 && b)))
  bounded a b x y = go (ltb x y) (leb y 4095) refl refl
    where
      go : (l m : Bool) → ltb x y ≡ l → leb y 4095 ≡ m → (l && (a && (m && b))) ≡ ((l && a) && (leb x 4095 && (m && b)))
      go true true e f = rw (le-leb x 4095 (omega (arith, ltb-true x y e, leb-true y 4095 f))) refl
      go true false e f = simp and-false
      go false m e f = refl

  rises-is : (k n : ℕ) → k + n ≡ s.count
      → all_of (rises s) k n ≡ (ascending (tab (row_at s) k n) && all_of low k n)
  unfolding all_of
  rises-is k zero e = refl
  rises-is k (suc zero) e = rw (le-ltb (k + 1) s.count (omega arith), leb-suc-suc (index k) 4095) refl
  rises-is k (suc (suc n)) e =
      rw (lt-ltb (k + 1) s.count (omega arith), rises-is (k + 1) (suc n) (omega arith))
      (bounded (ascending (tab (row_at s) (k + 1) (suc n))) (all_of low (k + 1 + 1) n) (index k) (index (k + 1)))

  -- one place: what it holds, and its three tags
  place-tags : ℕ → Bool
  place-tags j = proper-if (tag_at s j) && proper-if (tag_at s (32 + j)) && proper-if (tag_at s (64 + j))

  place_is : (j : ℕ) → sound_at s j ≡ (neat_at s j && place-tags j)
  unfolding place-tags
  place_is j = rw (cell-split (tag_at s j), cell-split (tag_at s (32 + j)), cell-split (tag_at s (64 + j))) (simp sorted)

  participant-is : (j : ℕ) → proper_participant (row_at s j) ≡ ((low j && place-tags j) && proper-if s.gate.granted)
  unfolding place-tags
  participant-is j = parted (low j) (proper-if (tag_at s j)) (proper-if (tag_at s (32 + j))) (proper-if s.gate.granted) (proper-if (tag_at s (64 + j)))
    where
      parted : (i a b g c : Bool) → (i && a && b && g && c) ≡ ((i && (a && b && c)) && g)
      parted i a b g c = simp sorted

  -- all places
  places-are : sound_places s ≡ ((ascending (rows_of s) && all_of low 0 s.count) && (all_of (neat_at s) 0 s.count && all_of place-tags 0 s.count))
  places-are =
      let n = s.count in
      rw (
        all-and (rises s) (sound_at s) 0 n,
        rises-is 0 n (omega arith),
        all_same (sound_at s) (λ j. neat_at s j && place-tags j) 0 n (λ j p q. place_is j),
        all-and (neat_at s) place-tags 0 n,
      )
      refl

  participants-are : 0 < s.count
      → all proper_participant (rows_of s) ≡ ((all_of low 0 s.count && all_of place-tags 0 s.count) && proper-if s.gate.granted)
  participants-are h =
      let n = s.count in
      let granted = proper-if s.gate.granted in
      rw (
        all-rows s proper_participant,
        all_same (λ j. proper_participant (row_at s j)) (λ j. (low j && place-tags j) && granted) 0 n (λ j p q. participant-is j),
        all-and (λ j. low j && place-tags j) (λ j. granted) 0 n,
        all-and low place-tags 0 n,
        all_one granted 0 n h,
      )
      refl

-- ---- the whole, in the order of the code

-- at most 32; coordination, completion, gate and rest with their tags; the indices ascend and are low, the places are neat and their tags proper
ordered : (m c c₁ k k₁ k₂ k₃ g g₁ g₂ g₃ l h₁ h f a i p q : Bool)
    → ((m && ((c && c₁) && ((k && k₁ && k₂ && k₃) && ((g && g₁ && g₂ && g₃) && (l && ((h₁ && h) && f)))))) && ((a && i) && (p && q))) ≡
    ((p && c && k && g && h && f && l) && (m && a && ((i && q) && g₂) && h₁ && k₁ && k₂ && g₁ && c₁ && k₃ && g₃))
ordered m c c₁ k k₁ k₂ k₃ g g₁ g₂ g₃ l h₁ h f a i p q = simp sorted

sound-held : (s : Held) → (sound_parts s && sound_places s) ≡ (represents s && is_sound (view s))
unfolding represents is_sound
sound-held s = go (ltb 0 s.count) refl
  where
    go : (z : Bool) → ltb 0 s.count ≡ z → (sound_parts s && sound_places s) ≡ (represents s && is_sound (view s))
    go false e = simp (length-rows s, e, and-false)
    go true e =
        let c = s.coordination in
        let k = s.completion in
        let g = s.gate in
        let h = s.grant_horizon in
        rw (length-rows s, e, coordination-is c, completion-is k, gate-is g, cell-split h, places-are s, participants-are s (ltb-true 0 s.count e))
        (ordered (leb s.count 32) (neat_coordination c)
        (proper_publication (publication_if c.pending c.pending_revision c.pending_next_event c.pending_grant_horizon)) (neat_completion k)
        (proper-if k.completed_frontier) (proper-if k.completion_probe) (proper_inputs (inputs_of k.first_input k.last_input)) (neat_gate g)
        (proper-if g.input_horizon) (proper-if g.granted) (proper_acquisition (stored_of g.stored_revision g.stored_granted))
        (leb s.lifecycle 2) (proper-if h) (is_neat h) (is_zero_unless s.failed s.first_failure) (ascending (rows_of s)) (all_of (low s) 0 s.count)
        (all_of (neat_at s) 0 s.count) (all_of (place-tags s) 0 s.count))

-- by the tests of the parts and of the places
pub sound-by : (s : Held) {a b : Bool} → a ≡ sound_parts s → b ≡ sound_places s → (a && b) ≡ (represents s && is_sound (view s))
sound-by s p q = rw (p, q) (sound-held s)
