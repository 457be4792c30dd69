-- Which values hold a state of document 01, taken into named parts and put together again: by the conjuncts of `represents`, and of each place
-- within the count. A rebuilt state holds one if its new parts do, cell by cell. Assumes nothing.
use Rattle.std.specs.Prelude.{None}
use mathlib.Core.Path.{◌≡◌, refl, sym, subst₂}
use mathlib.Core.Logic.Iff
use mathlib.Core.Logic.{◌↔◌}
use mathlib.Core.Bool.{Bool, true, false, not, cond, ◌&&◌}
use mathlib.Core.List.{List}
use Prim.Native.Nat.{ℕ, zero, suc, ◌+◌, ◌≤◌, ◌<◌}
use native.Mathlib.Omega.{arith}
use lib.Dec.{T, eqb, leb, leb→le, le→leb}
use lib.ListN.{length, get_or, set}
use lib.Seq.{get_or-set_other}
use borrow.Author.Tests.{eqb-true, eqb-false}
use Rattle.tags.specs.Tags.{◌≡ₜ◌}
use Rattle.rules.specs.Model.{Tag}
use Rattle.rules.specs.Calls.{is_sound}
use Rattle.rules.proofs.Lists.{and_left, and_right}
use Rattle.rules.proofs.Invariants.{and_intro}
use Rattle.rules.proofs.Sound.{sound-number}
use Rattle.state.specs.declared.FederateCoordinationState.{FederateCoordinationState as Held}
use Rattle.state.specs.declared.Coordination.{Coordination}
use Rattle.state.specs.declared.Completion.{Completion}
use Rattle.state.specs.declared.Gate.{Gate}
use Rattle.state.specs.declared.Parts.{Parts}
use Rattle.state.specs.Walk.{all_of}
use Rattle.state.specs.Cells.{absent, is_absent, is_neat, is_zero_unless}
use Rattle.state.specs.View.{tag_at, view, neat_at, neat_coordination, neat_completion, neat_gate, represents}
use Rattle.state.specs.Parts.{Sized, rebuilt, cleared, without_pending, with_coordination, with_completion, with_gate}
use Rattle.state.specs.Decides.{neat_row, neat_parts}
use Rattle.state.proofs.Rows.{length-rows, cell-set-same, cleared-within, rebuilt-tag-cases, neat-cell}

pub and_parts : (a b : Bool) → T (a && b) ↔ (T a × T b)
and_parts a b = (λ h. (and_left a b h, and_right a b h), λ h. and_intro a b h.0 h.1)

-- ---- a test at every place

pub all-at : (q : ℕ → Bool) (k n j : ℕ) → T (all_of q k n) → k ≤ j → j < k + n → T (q j)
unfolding all_of
all-at q k zero j h l m = absurd (omega arith)
all-at q k (suc n) j h l m = go (λ z. all-at q (k + 1) n j (and_right (q k) (all_of q (k + 1) n) h) z (omega arith)) (eqb j k) refl
  where
    go : (k + 1 ≤ j → T (q j)) → (b : Bool) → eqb j k ≡ b → T (q j)
    go ih true e = rw (eqb-true j k e) (and_left (q k) (all_of q (k + 1) n) h)
    go ih false e = let d = eqb-false j k e in ih (omega arith)

pub all-if : (q : ℕ → Bool) (k n : ℕ) → ((j : ℕ) → k ≤ j → j < k + n → T (q j)) → T (all_of q k n)
unfolding all_of
all-if q k zero h = tt
all-if q k (suc n) h = and_intro (q k) (all_of q (k + 1) n) (h k (omega arith) (omega arith)) (all-if q (k + 1) n (λ j l m. h j (omega arith) (omega arith)))

-- ---- the parts of a place, of each small part, and of the whole

pub record NeatPlace (s : Held) (j : ℕ) : Type 0 where
  pub candidate : T (is_neat (tag_at s j))
  pub completed : T (is_neat (tag_at s (32 + j)))
  pub started : T (is_neat (tag_at s (64 + j)))
  pub observed : T (is_zero_unless (get_or s.acknowledged j false) (get_or s.completion_observed j 0))
  pub observation : get_or s.observation j 0 ≤ 3

pub place-parts : (s : Held) (j : ℕ) → T (neat_at s j) → NeatPlace s j
place-parts s j h =
    let r = simp and_parts at h in
    let o = leb→le (get_or s.observation j 0) 3 r.1 in
    record { candidate = r.0.0.0.0; completed = r.0.0.0.1; started = r.0.0.1; observed = r.0.1; observation = o }

pub place-whole : (s : Held) (j : ℕ) → NeatPlace s j → T (neat_at s j)
place-whole s j v = simp and_parts ((((v.candidate, v.completed), v.started), v.observed), le→leb (get_or s.observation j 0) 3 v.observation)

-- the cells of a pending publication, as `neat_coordination` has them
abbrev pub neat_pending : Bool → ℕ → Tag → Tag → Bool
neat_pending b r next horizon = cond b (is_neat next && is_neat horizon) (eqb r 0 && next ≡ₜ absent && horizon ≡ₜ absent)

pub record NeatCoordination (c : Coordination) : Type 0 where
  pub phase : c.phase ≤ 6
  pub authorization : T (is_zero_unless c.authorized c.idle_authorization)
  pub publication : T (neat_pending c.pending c.pending_revision c.pending_next_event c.pending_grant_horizon)

pub coordination-parts : (c : Coordination) → T (neat_coordination c) → NeatCoordination c
coordination-parts c h = let r = simp and_parts at h in record { phase = leb→le c.phase 6 r.0.0; authorization = r.0.1; publication = r.1 }

pub coordination-whole : (c : Coordination) → NeatCoordination c → T (neat_coordination c)
coordination-whole c v = simp and_parts ((le→leb c.phase 6 v.phase, v.authorization), v.publication)

pub no-publication : T (absent ≡ₜ absent && absent ≡ₜ absent)
no-publication = let m : T (absent ≡ₜ absent) = neat-cell None tt in and_intro (absent ≡ₜ absent) (absent ≡ₜ absent) m m

pub neat-without-pending : (c : Coordination) (k : ℕ) → k ≤ 6 → T (neat_coordination c) → T (neat_coordination (without_pending k c))
neat-without-pending c k h n =
    coordination-whole (without_pending k c) (record { phase = h; authorization = (coordination-parts c n).authorization; publication = no-publication })

pub record NeatCompletion (c : Completion) : Type 0 where
  pub frontier : T (is_neat c.completed_frontier)
  pub probe : T (is_neat c.completion_probe)
  pub first : T (is_neat c.first_input)
  pub last : T (is_neat c.last_input)
  pub both : T (cond (is_absent c.first_input) (is_absent c.last_input) (not (is_absent c.last_input)))

pub completion-parts : (c : Completion) → T (neat_completion c) → NeatCompletion c
completion-parts c h =
    let r = simp and_parts at h in
    record { frontier = r.0.0.0.0; probe = r.0.0.0.1; first = r.0.0.1; last = r.0.1; both = r.1 }

pub completion-whole : (c : Completion) → NeatCompletion c → T (neat_completion c)
completion-whole c v = simp and_parts ((((v.frontier, v.probe), v.first), v.last), v.both)

pub record NeatGate (g : Gate) : Type 0 where
  pub input_horizon : T (is_neat g.input_horizon)
  pub granted : T (is_neat g.granted)
  pub stored : T (is_neat g.stored_granted)
  pub revision : T (is_zero_unless (not (is_absent g.stored_granted)) g.stored_revision)

pub gate-parts : (g : Gate) → T (neat_gate g) → NeatGate g
gate-parts g h = let r = simp and_parts at h in record { input_horizon = r.0.0.0; granted = r.0.0.1; stored = r.0.1; revision = r.1 }

pub gate-whole : (g : Gate) → NeatGate g → T (neat_gate g)
gate-whole g v = simp and_parts (((v.input_horizon, v.granted), v.stored), v.revision)

pub record Neat (s : Held) : Type 0 where
  pub places : (j : ℕ) → j < s.count → T (neat_at s j)
  pub coordination : T (neat_coordination s.coordination)
  pub completion : T (neat_completion s.completion)
  pub gate : T (neat_gate s.gate)
  pub horizon : T (is_neat s.grant_horizon)
  pub failure : T (is_zero_unless s.failed s.first_failure)
  pub policy : s.lifecycle ≤ 2

pub four-parts : (a b c d : Bool) → T (a && b && c && d) ↔ (((T a × T b) × T c) × T d)
four-parts a b c d = simp and_parts Iff.rfl

seven-parts : (a b c d e f g : Bool) → T (a && b && c && d && e && f && g) ↔ ((((((T a × T b) × T c) × T d) × T e) × T f) × T g)
seven-parts a b c d e f g = simp and_parts Iff.rfl

whole_parts : (s : Held) → T (represents s) ↔
    ((((((T (all_of (neat_at s) 0 s.count) × T (neat_coordination s.coordination)) × T (neat_completion s.completion)) × T (neat_gate s.gate)) ×
    T (is_neat s.grant_horizon)) × T (is_zero_unless s.failed s.first_failure)) × T (leb s.lifecycle 2))
unfolding represents
whole_parts s =
    seven-parts (all_of (neat_at s) 0 s.count) (neat_coordination s.coordination) (neat_completion s.completion) (neat_gate s.gate)
    (is_neat s.grant_horizon) (is_zero_unless s.failed s.first_failure) (leb s.lifecycle 2)

pub neat-parts : (s : Held) → T (represents s) → Neat s
neat-parts s h =
    let r = (whole_parts s).0 h in
    record {
      places = λ j l. all-at (neat_at s) 0 s.count j r.0.0.0.0.0.0 (omega arith) (omega arith);
      coordination = r.0.0.0.0.0.1;
      completion = r.0.0.0.0.1;
      gate = r.0.0.0.1;
      horizon = r.0.0.1;
      failure = r.0.1;
      policy = leb→le s.lifecycle 2 r.1;
    }

pub represents-of : (s : Held) → Neat s → T (represents s)
represents-of s v =
    (whole_parts s).1
    let places = all-if (neat_at s) 0 s.count (λ j l m. v.places j (omega arith)) in
    ((((((places, v.coordination), v.completion), v.gate), v.horizon), v.failure), le→leb s.lifecycle 2 v.policy)

-- ---- each conjunct, out of it

module _ (s : Held) (h : T (represents s)) where
  pub neat-place : (j : ℕ) → j < s.count → T (neat_at s j)
  neat-place j l = (neat-parts s h).places j l

  pub neat-coordination : T (neat_coordination s.coordination)
  neat-coordination = (neat-parts s h).coordination

  pub neat-completion : T (neat_completion s.completion)
  neat-completion = (neat-parts s h).completion

  pub neat-gate : T (neat_gate s.gate)
  neat-gate = (neat-parts s h).gate

  pub neat-horizon : T (is_neat s.grant_horizon)
  neat-horizon = (neat-parts s h).horizon

  pub neat-failure : T (is_zero_unless s.failed s.first_failure)
  neat-failure = (neat-parts s h).failure

  pub policy-bound : s.lifecycle ≤ 2
  policy-bound = (neat-parts s h).policy

  pub phase-bound : s.coordination.phase ≤ 6
  phase-bound = (coordination-parts s.coordination neat-coordination).phase

-- ---- how many participants a sound state shows

pub count-bounds : (s : Held) → T (is_sound (view s)) → (1 ≤ s.count) × (s.count ≤ 32)
count-bounds s h = rw (length-rows s) at (sound-number (view s) h)

-- ---- one small part replaced

module _ (s : Held) (h : T (represents s)) where
  pub neat-with-coordination : (c : Coordination) → T (neat_coordination c) → T (represents (with_coordination c s))
  neat-with-coordination c k =
      let v = neat-parts s h in
      represents-of (with_coordination c s) (record {
        places = v.places;
        coordination = k;
        completion = v.completion;
        gate = v.gate;
        horizon = v.horizon;
        failure = v.failure;
        policy = v.policy;
      })

  pub neat-with-completion : (c : Completion) → T (neat_completion c) → T (represents (with_completion c s))
  neat-with-completion c k =
      let v = neat-parts s h in
      represents-of (with_completion c s) (record {
        places = v.places;
        coordination = v.coordination;
        completion = k;
        gate = v.gate;
        horizon = v.horizon;
        failure = v.failure;
        policy = v.policy;
      })

  pub neat-with-gate : (g : Gate) → T (neat_gate g) → T (represents (with_gate g s))
  neat-with-gate g k =
      let v = neat-parts s h in
      represents-of (with_gate g s) (record {
        places = v.places;
        coordination = v.coordination;
        completion = v.completion;
        gate = k;
        horizon = v.horizon;
        failure = v.failure;
        policy = v.policy;
      })

-- ---- a state rebuilt

-- a flag and its number set, at one place of two columns
flag-set-cases : (P : Bool → ℕ → Type 0) (bs : List Bool) (ns : List ℕ) (k j : ℕ) (b : Bool) (n : ℕ) → length bs ≡ 32 → length ns ≡ 32 → j < 32 → P b n
    → P (get_or bs j false) (get_or ns j 0) → P (get_or (set bs k b) j false) (get_or (set ns k n) j 0)
flag-set-cases P bs ns k j b n x y h new old = go (eqb j k) refl
  where
    go : (z : Bool) → eqb j k ≡ z → P (get_or (set bs k b) j false) (get_or (set ns k n) j 0)
    go true e =
        let m = eqb-true j k e in
        rw m (subst₂ P (sym (cell-set-same bs 32 k b false x (omega arith))) (sym (cell-set-same ns 32 k n 0 y (omega arith))) new)
    go false e =
        let m = eqb-false j k e in
        subst₂ P (sym (get_or-set_other bs k j b false m)) (sym (get_or-set_other ns k j n 0 m)) old

module _ (s : Held) (i : ℕ) (p : Parts) (o : List ℕ) (g : Gate) (z : Sized s) (few : s.count ≤ 32) where
  rebuilt-place : T (neat_row p.row) → ((j : ℕ) → j < s.count → get_or o j 0 ≤ 3) → (j : ℕ) → j < s.count → NeatPlace s j → NeatPlace (rebuilt s i p o g) j
  rebuilt-place w c j l v = record {
    candidate = tag j (omega arith) v.candidate;
    completed = tag (32 + j) (omega arith) v.completed;
    started = tag (64 + j) (omega arith) v.started;
    observed = flag j (omega arith) v.observed;
    observation = c j l;
  }
    where
      r : (T (is_neat p.row.candidate) × T (is_neat p.row.completed)) × T (is_zero_unless p.row.acknowledged p.row.completion_observed)
      r = simp and_parts at w

      flag : (j : ℕ) → j < 32 → T (is_zero_unless (get_or s.acknowledged j false) (get_or s.completion_observed j 0))
          → T (is_zero_unless (get_or (rebuilt s i p o g).acknowledged j false) (get_or (rebuilt s i p o g).completion_observed j 0))
      flag j h old =
          flag-set-cases (λ b n. T (is_zero_unless b n)) s.acknowledged s.completion_observed i j p.row.acknowledged p.row.completion_observed
          z.acknowledged z.observed h r.1 old

      tag : (k : ℕ) → k < 96 → T (is_neat (tag_at s k)) → T (is_neat (tag_at (rebuilt s i p o g) k))
      tag k h old = rebuilt-tag-cases s i p o g (λ t. T (is_neat t)) z k h r.0.0 r.0.1 old

  -- with any observations that are in the enum within the count
  neat-rebuilt-by : T (represents s) → T (neat_parts p) → T (neat_gate g) → ((j : ℕ) → j < s.count → get_or o j 0 ≤ 3) → T (represents (rebuilt s i p o g))
  neat-rebuilt-by h q w c =
      let v = neat-parts s h in
      let failure = is_zero_unless p.failed p.first_failure in
      let r = (four-parts (neat_row p.row) (neat_coordination p.coordination) (neat_completion p.completion) failure).0 q in
      represents-of (rebuilt s i p o g) (record {
        places = λ j l. place-whole (rebuilt s i p o g) j (rebuilt-place r.0.0.0 c j l (place-parts s j (v.places j l)));
        coordination = r.0.0.1;
        completion = r.0.1;
        gate = w;
        horizon = v.horizon;
        failure = r.1;
        policy = v.policy;
      })

-- with the observations kept or cleared, as `halfway` has it
pub neat-rebuilt : (s : Held) (i : ℕ) (p : Parts) (forgets : Bool) (g : Gate) → Sized s → s.count ≤ 32 → T (represents s) → T (neat_parts p) → T (neat_gate g)
    → T (represents (rebuilt s i p (cond forgets (cleared s.count s.observation) s.observation) g))
neat-rebuilt s i p true g z few h q w =
    neat-rebuilt-by s i p (cleared s.count s.observation) g z few h q w (λ j l. rw (cleared-within s.count s.observation j l) (omega arith))
neat-rebuilt s i p false g z few h q w = neat-rebuilt-by s i p s.observation g z few h q w (λ j l. (place-parts s j (neat-place s h j l)).observation)
