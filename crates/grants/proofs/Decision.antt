-- What `acquire` decides is the rule, in its three ways: outdated, nothing new, grants. The stored acquisition is a change of the gate; the participants
-- change place by place; the tags set are proper, so that their cells hold them. Assumes nothing.
use Rattle.std.specs.Prelude.{None, Option, Some}
use mathlib.Core.Path.{◌≡◌, refl, sym, ap, ◌∙◌, subst}
use mathlib.Core.Bool.{Bool, true, false, not, cond, ◌&&◌, ◌||◌}
use mathlib.Core.List.{List, ◌∷◌, map}
use Prim.Native.Nat.{ℕ, ◌<◌}
use lib.Dec.{T, eqb}
use Rattle.tags.specs.Tags.{is_proper, is_present, capped_by}
use Rattle.rules.specs.Model.{Tag, Stored, AdvanceHorizon}
use Rattle.rules.specs.Set.{with_participants, with_pending_publication, with_grant_horizon, with_input_acquisition}
use Rattle.rules.specs.Walk.{emit, outdated}
use Rattle.rules.specs.Acquisition.{is_newer, stored, is_grantable, grants, granted_up_to, raised_horizon, not_above, nothing_new, is_pending, grant_of, acquire_capped, acquisition_of}
use Rattle.rules.proofs.Frame.{if-true}
use Rattle.rules.proofs.Sound.{capped-proper, sound-proper-horizon, sound-proper-input-horizon, grant-keeps-sound}
use Rattle.state.specs.declared.FederateCoordinationState.{FederateCoordinationState as Held}
use Rattle.state.specs.declared.Coordination.{Coordination}
use Rattle.state.specs.declared.Gate.{Gate}
use Rattle.state.specs.Cells.{is_absent, is_zero_unless, optional_of, stored_of, publication_if}
use Rattle.state.specs.View.{view, row_at, rows_of, neat_gate}
use Rattle.state.specs.Parts.{without_pending, with_gate}
use Rattle.state.specs.Decides.{Good}
use Rattle.state.proofs.Rows.{proper-present, neat-cell, each_rows, every-row}
use Rattle.state.proofs.Neat.{gate-parts, gate-whole, neat-coordination, neat-gate, neat-without-pending, phase-bound}
use Rattle.state.proofs.Round.{phase-number}
use Rattle.grants.specs.declared.Granted.{Granted}
use Rattle.grants.specs.declared.Acquired.{Acquired}
use Rattle.grants.specs.Acquire.{is_stale, storing, brings_nothing, granting, grants_of, granted_in, Unpublished, Grants, Acquires}

-- ---- the gate and the capped tag

abbrev worth : ℕ → Tag → Gate → Bool
worth r t g = is_present (optional_of g.input_horizon) && is_newer r t (stored_of g.stored_revision g.stored_granted)

abbrev pub kept : ℕ → Tag → Gate → Gate
kept r t g = cond (worth r t g) (storing r t g) g

abbrev pub reach_of : Gate → Tag → Tag
reach_of g t = capped_by (optional_of g.input_horizon) t

-- ---- what the code answers

abbrev pub stayed : Gate → Acquired
stayed k = record { gate = k; granted = None }

abbrev pub moved : Gate → Granted → Acquired
moved k g = record { gate = k; granted = Some g }

-- ---- the tests are the rule's

pending-is : (b : Bool) (r : ℕ) (n h : Tag) → is_pending (publication_if b r n h) ≡ b
pending-is true r n h = refl
pending-is false r n h = refl

module _ (r : ℕ) (t : Tag) (p : T (is_proper t)) (s : Held) (good : Good s) where
  outdated-is : outdated r (view s) ≡ is_stale r s.coordination
  outdated-is = ap (λ n. eqb n 6 || not (eqb r s.coordination.revision)) (phase-number s.coordination.phase (phase-bound s good.neat))

  stored_is : stored r t (view s) ≡ view (with_gate (kept r t s.gate) s)
  stored_is = go (worth r t s.gate)
    where
      go : (b : Bool) → cond b (with_input_acquisition (Stored r t) (view s)) (view s) ≡ view (with_gate (cond b (storing r t s.gate) s.gate) s)
      go true = rw (proper-present t p) refl
      go false = refl

  reach-proper : T (is_proper (reach_of s.gate t))
  reach-proper = capped-proper (optional_of s.gate.input_horizon) t (sound-proper-input-horizon (view s) good.sound) p

  raised-proper : T (is_proper (raised_horizon (optional_of s.grant_horizon) (reach_of s.gate t)))
  unfolding grant_of
  raised-proper = let u = reach_of s.gate t in sound-proper-horizon (grant_of u (view s)).state (grant-keeps-sound u (view s) good.sound reach-proper)

  kept-neat : T (neat_gate (kept r t s.gate))
  kept-neat = if-true (λ (g : Gate). T (neat_gate g)) (worth r t s.gate) (λ u. new) (λ u. neat-gate s good.neat)
    where
      new : T (neat_gate (storing r t s.gate))
      new =
          let v = gate-parts s.gate (neat-gate s good.neat) in
          let revision : T (is_zero_unless (not (is_absent t)) r) = rw (proper-present t p) tt in
          gate-whole (storing r t s.gate) (record { input_horizon = v.input_horizon; granted = v.granted; stored = neat-cell (Some t) p; revision = revision })

  -- ---- outdated

  pub stays-outdated : is_stale r s.coordination ≡ true → Acquires r t s (stayed s.gate)
  unfolding acquisition_of
  stays-outdated y = record { tidy = neat-gate s good.neat; stays = λ z. rw (outdated-is ∙ y) refl; moves = λ g z. cc }

  -- ---- running and of this revision: the rule from the gate with the acquisition stored

  module _ (y : is_stale r s.coordination ≡ false) where
    -- the state with the acquisition stored
    abbrev held : Held
    held = with_gate (kept r t s.gate) s

    abbrev reach : Tag
    reach = reach_of s.gate t

    goes_on : acquisition_of r t (view s) ≡ acquire_capped reach (view held)
    unfolding acquisition_of
    goes_on = rw (outdated-is ∙ y) (ap (acquire_capped reach) stored_is)

    nothing_is : nothing_new reach (view held) ≡ brings_nothing reach s
    nothing_is =
        let c = s.coordination in
        ap (λ b. not b && not_above reach (optional_of s.grant_horizon))
        (pending-is c.pending c.pending_revision c.pending_next_event c.pending_grant_horizon)

    stays_put : brings_nothing reach s ≡ true → Acquires r t s (stayed (kept r t s.gate))
    unfolding acquire_capped
    stays_put n = record { tidy = kept-neat; stays = λ z. goes_on ∙ rw (nothing_is ∙ n) refl; moves = λ g z. cc }

    -- ---- grants

    abbrev opened : Gate
    opened = granting reach (kept r t s.gate)

    abbrev granted : Granted
    granted = record { tag = reach; horizon = raised_horizon (optional_of s.grant_horizon) reach; coordination = without_pending s.coordination.phase s.coordination }

    module _ (qs : List Bool) (u : Unpublished s reach qs) where
      row-granted : (j : ℕ) → j < s.count → row_at (granted_in s opened granted qs) j ≡ granted_up_to reach (row_at held j)
      row-granted j h =
          let e = u.within j h in
          let f : optional_of reach ≡ Some reach = rw (proper-present reach reach-proper) refl in
          λ k. record (row_at s j) { published = e k; granted = f k }

      rows-granted : rows_of (granted_in s opened granted qs) ≡ map (granted_up_to reach) (rows_of held)
      rows-granted = every-row held (granted_in s opened granted qs) (granted_up_to reach) refl row-granted

      grant-is : grant_of reach (view held) ≡ emit (AdvanceHorizon granted.horizon ∷ grants_of s reach s.count) (view (granted_in s opened granted qs))
      unfolding grant_of
      grant-is =
          let present : optional_of granted.horizon ≡ Some granted.horizon = rw (proper-present granted.horizon raised-proper) refl in
          let actions = each_rows held (is_grantable reach) (grants reach) in
          λ k. emit (AdvanceHorizon granted.horizon ∷ actions k)
          (with_grant_horizon (sym present k) (with_pending_publication None (with_participants (sym rows-granted k) (view held))))

    moves-on : brings_nothing reach s ≡ false → Acquires r t s (moved opened granted)
    unfolding acquire_capped
    moves-on n = record {
      tidy = open-neat;
      stays = λ z. cc;
      moves = λ g z. subst (Grants r t s opened) (same z) (record {
        neat = neat-without-pending s.coordination s.coordination.phase (phase-bound s good.neat) (neat-coordination s good.neat);
        cell = neat-cell (Some granted.horizon) raised-proper;
        moves = λ qs u. goes_on ∙ rw (nothing_is ∙ n) (grant-is qs u);
      });
    }
      where
        same : {a b : Granted} → ◌≡◌ {A = Option Granted} (Some a) (Some b) → a ≡ b
        same e = cc

        open-neat : T (neat_gate opened)
        open-neat =
            let v = gate-parts (kept r t s.gate) kept-neat in
            let now = neat-cell (Some reach) reach-proper in
            gate-whole opened (record { input_horizon = v.input_horizon; granted = now; stored = v.stored; revision = v.revision })

    -- ---- by what the code has found

    module _ (k : Gate) (kept-is : k ≡ kept r t s.gate) (u : Tag) (capped : u ≡ reach) where
      brings-is : {b : Bool} → brings_nothing u s ≡ b → brings_nothing reach s ≡ b
      brings-is n = ap (λ v. brings_nothing v s) (sym capped) ∙ n

      pub answers-nothing : brings_nothing u s ≡ true → Acquires r t s (stayed k)
      answers-nothing n = rw kept-is (stays_put (brings-is n))

      pub answers-grants : brings_nothing u s ≡ false → (h : Tag) → h ≡ raised_horizon (optional_of s.grant_horizon) u
          → (d : Coordination) → d ≡ without_pending s.coordination.phase s.coordination → Acquires r t s (moved (granting u k) (record { tag = u; horizon = h; coordination = d }))
      answers-grants n h raised d unpending = let m = brings-is n in rw (unpending, raised, kept-is, capped) (moves-on m)
