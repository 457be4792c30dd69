-- What `publish` decides is Publish's rule, return by return. The code compares cells where the rules compare optional tags, which is the same for a neat
-- cell and a proper tag; a revision's clearing of observations commutes with the store. Assumes nothing.
use Rattle.std.specs.Prelude.{None, Option, Some}
use mathlib.Core.Path.{◌≡◌, refl, sym, ap, ◌∙◌, subst}
use mathlib.Core.Bool.{Bool, true, false, not, cond, ◌||◌}
use mathlib.Core.List.{List, [], ◌∷◌, map}
use Prim.Native.Nat.{ℕ}
use lib.Dec.{T, eqb}
use borrow.Author.Tests.{ne_eqb}
use Rattle.tags.specs.Tags.{◌≤ₜ◌, ◌≡ₜ◌, proper_if_present, same_optional}
use Rattle.tags.proofs.Order.{≤ₜ-anti}
use Rattle.rules.specs.Model.{Participant, State, Tag}
use Rattle.rules.specs.Set.{with_candidate, with_participants, with_published}
use Rattle.rules.specs.Walk.{at, emit, only}
use Rattle.rules.specs.Publication.{enlist, forget, publish_by, publish_of, repeated, revise_of, store}
use Rattle.rules.proofs.Lists.{and_left, and_right}
use Rattle.state.specs.declared.FederateCoordinationState.{FederateCoordinationState as Held}
use Rattle.state.specs.declared.Coordination.{Coordination}
use Rattle.state.specs.declared.Completion.{Completion}
use Rattle.state.specs.declared.Parts.{Parts}
use Rattle.state.specs.declared.Decided.{Decided}
use Rattle.state.specs.declared.Notice.{Notice}
use Rattle.state.specs.declared.Next.TheVariants.{Announces}
use Rattle.state.specs.Cells.{absent, cell_of, is_absent, is_neat, optional_of, phase_of}
use Rattle.state.specs.View.{neat_completion, neat_coordination, row_at, rows_of, tag_at, view}
use Rattle.state.specs.Parts.{Seated, parts_of}
use Rattle.state.specs.Decides.{Decides, Good, conclusion, halfway, neat_parts, said_of}
use Rattle.state.proofs.Rows.{found, neat-cell, optional-cell, proper-present}
use Rattle.state.proofs.Neat.{neat-place, place-parts}
use Rattle.publication.specs.Revise.{revised_of, unprobed_of}
use Rattle.state.proofs.Halves.{Goes, active-is, decides-by, goes-nothing, rows-forgotten, rows-only, saying, stopped-is, view-kept}
use Rattle.publication.proofs.Neat.{neat-revised, neat-unprobed, parts-of, parts_whole, row_of, row-whole}

-- ---- a candidate unchanged

same_tag : (a b : Tag) → T (a ≡ₜ b) → a ≡ b
same_tag a b h = ≤ₜ-anti a b (and_left (a ≤ₜ b) (b ≤ₜ a) h) (and_right (a ≤ₜ b) (b ≤ₜ a) h)

-- two tags of which one is absent and the other is not
apart : (a b : Tag) → (is_absent a ≡ is_absent b → ◌≡◌ {A = ℕ} 0 1) → (a ≡ₜ b) ≡ false
apart a b h = go (a ≡ₜ b) refl
  where
    go : (x : Bool) → (a ≡ₜ b) ≡ x → x ≡ false
    go true e = let z = h (ap is_absent (same_tag a b (subst T (sym e) tt))) in cc
    go false e = refl

same-absent : (b : Tag) → is_absent b ≡ true → T (is_neat b) → b ≡ absent
same-absent b e h = go (is_absent b) e h
  where
    go : (x : Bool) → x ≡ true → T (not x || b ≡ₜ absent) → b ≡ absent
    go true e h = same_tag b absent h
    go false e h = cc

absent-same : (absent ≡ₜ absent) ≡ true
unfolding ◌≤ₜ◌
absent-same = refl

same-cell : (a : Tag) (m : Option Tag) → T (is_neat a) → T (proper_if_present m) → same_optional (optional_of a) m ≡ (a ≡ₜ cell_of m)
same-cell a m h k = go (is_absent a) refl m k
  where
    go : (x : Bool) → is_absent a ≡ x → (m : Option Tag) → T (proper_if_present m) → same_optional (cond x None (Some a)) m ≡ (a ≡ₜ cell_of m)
    go true e None k = rw (same-absent a e h) (sym absent-same)
    go true e (Some t) k = sym (apart a t (λ z. cc (proper-present t k)))
    go false e None k = sym (apart a absent (λ z. cc))
    go false e (Some t) k = refl

-- ---- the candidate stored

-- the enclave published with this candidate, and these small parts
abbrev listed : Parts → Tag → Coordination → Completion → Parts
listed p t c k = record p { row = record p.row { published = true; candidate = t }; coordination = c; completion = k }

stored_row : (m : Option Tag) → T (proper_if_present m) → (p : Participant) → with_candidate (optional_of (cell_of m)) (with_published true p) ≡ store m p
stored_row m h p = ap (λ (c : Option Tag). with_candidate c (with_published true p)) (optional-cell m h)

store-forget : (e : ℕ) (m : Option Tag) (ps : List Participant) → map (at e (store m)) (map forget ps) ≡ map forget (map (at e (store m)) ps)
store-forget e m [] = refl
store-forget e m (p ∷ ps) = rw (first (eqb p.index e), store-forget e m ps) refl
  where
    first : (b : Bool) → cond b (store m (forget p)) (forget p) ≡ forget (cond b (store m p) p)
    first true = refl
    first false = refl

-- ---- each return, in a state that has the parts

-- the tests that the code made on the parts: running, and the candidate's cell against the given one
abbrev Runs : Parts → Type 0
Runs p = p.coordination.phase ≡ 6 → ⊥

abbrev alike : Option Tag → Parts → Bool
alike m p = p.row.candidate ≡ₜ cell_of m

abbrev first : Option Tag → Parts → Decided
first m p = record { parts = listed p (cell_of m) p.coordination p.completion; forgets = false; next = Announces false }

abbrev changed : Option Tag → Parts → Decided
changed m p = record {
  parts = listed p (cell_of m) (revised_of p.coordination) (unprobed_of p.completion);
  forgets = true;
  next = Announces (not (eqb p.coordination.phase 0));
}

-- k is what the parts repeat
abbrev Repeats : Option Notice → ℕ → Parts → Type 0
Repeats k e p = repeated (phase_of p.coordination.phase) p.coordination.revision ≡ said_of k e p.coordination.revision

enlist-is : (e : ℕ) (m : Option Tag) (resume : Bool) (v : State) → enlist e m resume v ≡ conclusion e (Announces resume) (only e (store m) v)
unfolding enlist conclusion
enlist-is e m resume v = refl

module _ (m : Option Tag) (e : ℕ) (s : Held) (i : ℕ) (g : Good s) (d : Seated s e i) where
  stopped-step : s.coordination.phase ≡ 6 → Goes (publish_of e m) e (saying None) s i
  unfolding publish_of
  stopped-step h = goes-nothing (publish_of e m) e s i g d (rw (stopped-is s g.neat ∙ ap (λ n. eqb n 6) h) refl)

  running-step : Runs (parts_of s i) → publish_of e m (view s) ≡ publish_by e m (view s) (Some (row_at s i))
  unfolding publish_of
  running-step h = rw (stopped-is s g.neat ∙ ne_eqb s.coordination.phase 6 h, found s e i d) refl

module _ (m : Option Tag) (e : ℕ) (s : Held) (i : ℕ) (g : Good s) (d : Seated s e i) (proper : T (proper_if_present m)) (runs : Runs (parts_of s i)) where
  asked-same : same_optional (optional_of (tag_at s i)) m ≡ alike m (parts_of s i)
  asked-same = same-cell (tag_at s i) m (place-parts s i (neat-place s g.neat i d.within)).candidate proper

  again-step : alike m (parts_of s i) ≡ true → (parts_of s i).row.published ≡ true → (k : Option Notice) → Repeats k e (parts_of s i) → Goes (publish_of e m) e (saying k) s i
  unfolding publish_by conclusion
  again-step same was k says =
      running-step m e s i g d runs ∙ repeats ∙ ap (λ (z : State). emit (said_of k e z.revision) z) (sym (view-kept s e i g d))
    where
      repeats : publish_by e m (view s) (Some (row_at s i)) ≡ emit (said_of k e s.coordination.revision) (view s)
      repeats = rw (asked-same ∙ same, was, says) refl

  first_step : alike m (parts_of s i) ≡ true → (parts_of s i).row.published ≡ false → Goes (publish_of e m) e (first m) s i
  unfolding publish_by
  first_step same was =
      let rows = rows-only s e i (first m (parts_of s i)).parts g d (store m) (stored_row m proper (row_at s i)) in
      running-step m e s i g d runs ∙
      rw (asked-same ∙ same, was)
      (enlist-is e m false (view s) ∙ ap (λ (ps : List Participant). conclusion e (Announces false) (with_participants ps (view s))) (sym rows))

  changed-step : alike m (parts_of s i) ≡ false → Goes (publish_of e m) e (changed m) s i
  unfolding publish_by revise_of
  changed-step differs =
      let t = halfway s i (changed m (parts_of s i)) in
      let resumes = not (eqb s.coordination.phase 0) in
      let rows = rows-forgotten s e i (changed m (parts_of s i)).parts g d (store m) (stored_row m proper (row_at s i)) ∙ sym (store-forget e m (rows_of s)) in
      running-step m e s i g d runs ∙
      rw (asked-same ∙ differs, active-is s g.neat)
      (enlist-is e m resumes (revise_of (view s)) ∙ ap (λ (ps : List Participant). conclusion e (Announces resumes) (with_participants ps (view t))) (sym rows))

-- ---- each return, of the parts

pub publish-stopped : (p : Parts) (m : Option Tag) → p.coordination.phase ≡ 6 → (e : ℕ) → T (proper_if_present m) → Decides (publish_of e m) e p (saying None p)
publish-stopped p m h e proper = decides-by (publish_of e m) e (λ z. z.coordination.phase ≡ 6) (saying None) (stopped-step m e) p h

module _ (p : Parts) (m : Option Tag) (t : Tag) (x : Bool) (runs : Runs p) (cell : t ≡ cell_of m) (asked : x ≡ (p.row.candidate ≡ₜ t)) where
  made : (b : Bool) → x ≡ b → alike m p ≡ b
  made b h = rw (← cell) (sym asked ∙ h)

  pub publish-again : x ≡ true → p.row.published ≡ true → (k : Option Notice) → ((e v : ℕ) → repeated (phase_of p.coordination.phase) v ≡ said_of k e v)
      → (e : ℕ) → T (proper_if_present m) → Decides (publish_of e m) e p (saying k p)
  publish-again same was k says e proper =
      decides-by (publish_of e m) e (λ z. Runs z × (alike m z ≡ true) × (z.row.published ≡ true) × Repeats k e z) (saying k)
      (λ s i g d q. again-step m e s i g d proper q.0 q.1 q.2 k q.3) p (runs, made true same, was, says e p.coordination.revision)

  pub publish-first : x ≡ true → p.row.published ≡ false → (e : ℕ) → T (proper_if_present m)
      → Decides (publish_of e m) e p (record { parts = listed p t p.coordination p.completion; forgets = false; next = Announces false })
  publish-first same was e proper =
      rw cell
      (decides-by (publish_of e m) e (λ z. Runs z × (alike m z ≡ true) × (z.row.published ≡ false)) (first m)
      (λ s i g d q. first_step m e s i g d proper q.0 q.1 q.2) p (runs, made true same, was))

  pub publish-changed : x ≡ false → (y : Bool) → y ≡ not (eqb p.coordination.phase 0)
      → (c : Coordination) → c ≡ revised_of p.coordination → (k : Completion) → k ≡ unprobed_of p.completion
      → (e : ℕ) → T (proper_if_present m) → Decides (publish_of e m) e p (record { parts = listed p t c k; forgets = true; next = Announces y })
  publish-changed differs y resumes c u k v e proper =
      rw (cell, resumes, u, v)
      (decides-by (publish_of e m) e (λ z. Runs z × (alike m z ≡ false)) (changed m)
      (λ s i g d q. changed-step m e s i g d proper q.0 q.1) p (runs, made false differs))

-- ---- the parts stay neat

neat-listed : (p : Parts) (m : Option Tag) (c : Coordination) (k : Completion) → T (proper_if_present m) → T (neat_parts p)
    → T (neat_coordination c) → T (neat_completion k) → T (neat_parts (listed p (cell_of m) c k))
neat-listed p m c k proper h a b =
    let v = parts-of p h in
    let w = row_of p.row v.row in
    let next = listed p (cell_of m) c k in
    let row = row-whole next.row (record { candidate = neat-cell m proper; completed = w.completed; observed = w.observed }) in
    parts_whole next (record { row = row; coordination = a; completion = b; failure = v.failure })

module _ (p : Parts) (m : Option Tag) (t : Tag) (cell : t ≡ cell_of m) (proper : T (proper_if_present m)) (h : T (neat_parts p)) where
  pub neat-first : T (neat_parts (listed p t p.coordination p.completion))
  neat-first = let v = parts-of p h in rw cell (neat-listed p m p.coordination p.completion proper h v.coordination v.completion)

  pub neat-changed : (c : Coordination) → c ≡ revised_of p.coordination → (k : Completion) → k ≡ unprobed_of p.completion → T (neat_parts (listed p t c k))
  neat-changed c u k w =
      let after = neat-unprobed p.completion (parts-of p h).completion in
      rw (cell, u, w) (neat-listed p m (revised_of p.coordination) (unprobed_of p.completion) proper h (neat-revised p.coordination) after)
