-- `CallKeepsTogether`, `OpeningIsTogether` and `CallKeepsEnclaves`: every rule changes the participants by maps that keep each index and either keep
-- each granted tag or grant one tag to all; so what such maps keep of a list of participants, every call keeps. Assumes nothing.
use Rattle.std.specs.Prelude.{None, Some, Option}
use mathlib.Core.Path.{◌≡◌, refl, ap₂, ◌∙◌}
use mathlib.Core.Bool.{Bool, false, not}
use mathlib.Core.List.{List, [], ◌∷◌, map}
use Prim.Native.Nat.{ℕ}
use lib.Dec.{eqb}
use Rattle.tags.specs.Tags.{is_at_or_below, capped_by, is_below, same_optional}
use Rattle.rules.specs.Acquisition.{acquire_capped, acquisition_of, grant_of, granted_up_to, nothing_new, progress_by, publication_sent_of, same_publication, sent_under, stored, worth_storing}
use Rattle.rules.specs.Calls.{call, facts, is_taken, own_step, take_step}
use Rattle.rules.specs.Completion.{advance_of, advance_to, all_answered, answers_probe, complete_all, complete_by, complete_tag_of, finish, front_of, is_held, least_completed, noted, observed_of, probe_for}
use Rattle.rules.specs.Demands.{CallKeepsEnclaves, CallKeepsTogether, OpeningIsTogether, Together, enclaves_of}
use Rattle.rules.specs.Gate.{begin_tag_of, begun, input_publishing_of, may_begin, noticed}
use Rattle.rules.specs.Model.{Active, Call, Counts, Given, HasParked, Ignored, NoneStored, Observation, OptionalAcquisition, Participant, Probed, Rechecked, Refused, State, Step, Stored, Tag, Verdict, acquire, active, begin, complete, done, failed, horizon, idle, input, late, observe, observed, progress, publish, sent, stop, stopped}
use Rattle.rules.specs.Observation.{agreed, all_observed, awaits, idle_confirmation_of, lacks_authorization, observation_of, observe_by, observed_already, observes, tally, unheard, verdict_of}
use Rattle.rules.specs.Opening.{opened}
use Rattle.rules.specs.Publication.{activate_of, all_published, announce, deactivated, enlist, forget, publish_by, publish_of, revise_of, store, unpublish}
use Rattle.rules.specs.Set.{with_completed, with_completion_observed, with_started}
use Rattle.rules.specs.Stop.{fail_of, stop_of}
use Rattle.rules.specs.Walk.{at, every, find, is, is_stopped, only, outdated}
use Rattle.rules.proofs.Frame.{if-true}
use Rattle.rules.proofs.Invariants.{each_of, each-onto, seated-each}

-- a change of participants that keeps each index and each granted tag
abbrev Keeps : (Participant → Participant) → Type 0
Keeps f = (p : Participant) → ((f p).index ≡ p.index) × ((f p).granted ≡ p.granted)

-- one that keeps each index and grants t to all
abbrev Grants : Option Tag → (Participant → Participant) → Type 0
Grants t f = (p : Participant) → ((f p).index ≡ p.index) × ((f p).granted ≡ t)

keeps-at : (e : ℕ) (f : Participant → Participant) → Keeps f → Keeps (at e f)
keeps-at e f k p = if-true (λ (q : Participant). (q.index ≡ p.index) × (q.granted ≡ p.granted)) (eqb p.index e) (λ u. k p) (λ u. (refl, refl))

-- ---- what both kinds of changes keep, every rule keeps

module _ (P : List Participant → Type 0)
    (same : (f : Participant → Participant) → Keeps f → (ps : List Participant) → P ps → P (map f ps))
    (grant : (t : Option Tag) (f : Participant → Participant) → Grants t f → (ps : List Participant) → P ps → P (map f ps)) where
  abbrev Left : Step → Type 0
  Left o = P o.state.participants

  one : (e : ℕ) (f : Participant → Participant) → Keeps f → (ps : List Participant) → P ps → P (map (at e f) ps)
  one e f k = same (at e f) (keeps-at e f k)

  after-revise : (s : State) → P s.participants → P (revise_of s).participants
  unfolding revise_of
  after-revise s h = same forget (λ p. (refl, refl)) s.participants h

  after-active : (e : ℕ) (s : State) → P s.participants → Left (activate_of e s)
  unfolding activate_of
  after-active e s h = if-true Left (is_stopped s) (λ u. calm) (λ u. after-revise (deactivated e s) calm)
    where
      calm : P (deactivated e s).participants
      calm = one e unpublish (λ p. (refl, refl)) s.participants h

  after_stop : (s : State) → P s.participants → Left (stop_of s)
  unfolding stop_of
  after_stop s h = if-true Left (is_stopped s) (λ u. h) (λ u. h)

  after-failed : (e : Option ℕ) (s : State) → P s.participants → Left (fail_of e s)
  unfolding fail_of
  after-failed e s h = if-true Left (is_stopped s) (λ u. h) (λ u. h)

  after-enlist : (e : ℕ) (c : Option Tag) (b : Bool) (s : State) → P s.participants → Left (enlist e c b s)
  unfolding enlist announce
  after-enlist e c b s h = if-true Left (all_published (only e (store c) s)) (λ u. w) (λ u. w)
    where
      w : P (only e (store c) s).participants
      w = one e (store c) (λ p. (refl, refl)) s.participants h

  after-publish : (e : ℕ) (c : Option Tag) (s : State) → P s.participants → Left (publish_of e c s)
  unfolding publish_of publish_by
  after-publish e c s h = if-true Left (is_stopped s) (λ u. h) (λ u. go (find e s.participants))
    where
      go : (o : Option Participant) → Left (publish_by e c s o)
      go None = h
      go (Some p) =
          if-true Left (same_optional p.candidate c) (λ u. if-true Left p.published (λ w. h) (λ w. after-enlist e c false s h))
          (λ u. after-enlist e c (not (is Active s)) (revise_of s) (after-revise s h))

  after-complete : (e : ℕ) (t : Tag) (n : Bool) (s : State) → P s.participants → Left (complete_tag_of e t n s)
  unfolding complete_tag_of complete_by complete_all finish
  after-complete e t n s h = if-true Left (is_stopped s) (λ u. h) (λ u. go (find e s.participants))
    where
      w : P (noted e t n s).participants
      w = one e (with_completed (Some t)) (λ p. (refl, refl)) s.participants h

      all_have : (m : Option Tag) → Left (complete_all m (noted e t n s))
      all_have None = w
      all_have (Some m) = if-true Left (is_below s.completed_frontier m) (λ u. w) (λ u. w)

      go : (o : Option Participant) → Left (complete_by e t n s o)
      go None = h
      go (Some p) = if-true Left (is_below p.completed t) (λ u. all_have (least_completed (noted e t n s).participants)) (λ u. h)

  after-observed : (e g : ℕ) (s : State) → P s.participants → Left (observed_of e g s)
  unfolding observed_of
  after-observed e g s h = if-true Left (answers_probe g s) (λ u. one e (with_completion_observed (Some g)) (λ p. (refl, refl)) s.participants h) (λ u. h)

  after-advance : (s : State) → P s.participants → Left (advance_of s)
  unfolding advance_of advance_to finish probe_for
  after-advance s h = if-true Left (is_stopped s) (λ u. h) (λ u. go (front_of s))
    where
      go : (m : Option Tag) → Left (advance_to m s)
      go None = h
      go (Some f) =
          if-true Left (is_held f s) (λ u. h)
          (λ u. if-true Left (same_optional s.completion_probe (Some f)) (λ w. if-true Left (all_answered f s) (λ x. h) (λ x. h)) (λ w. h))

  after-acquire : (r : ℕ) (t : Tag) (s : State) → P s.participants → Left (acquisition_of r t s)
  unfolding acquisition_of acquire_capped grant_of
  after-acquire r t s h = if-true Left (outdated r s) (λ u. h) (λ u. go (stored r t s) (if-true (λ (m : State). P m.participants) (worth_storing r t s) (λ w. h) (λ w. h)))
    where
      k : Tag
      k = capped_by s.input_horizon t

      go : (m : State) → P m.participants → Left (acquire_capped k m)
      go m w = if-true Left (nothing_new k m) (λ u. w) (λ u. grant (Some k) (granted_up_to k) (λ p. (refl, refl)) m.participants w)

  after-sent : (r : ℕ) (n m : Option Tag) (s : State) → P s.participants → Left (publication_sent_of r n m s)
  unfolding publication_sent_of sent_under
  after-sent r n m s h = if-true Left (same_publication s.pending_publication r n m) (λ u. go s.grant_horizon) (λ u. h)
    where
      go : (k : Option Tag) → Left (sent_under k r n s)
      go None = h
      go (Some t) = if-true Left (is_at_or_below n t) (λ u. after-acquire r t s h) (λ u. h)

  after-progress : (a : OptionalAcquisition) (s : State) → P s.participants → Left (progress_by a s)
  unfolding progress_by
  after-progress NoneStored s h = h
  after-progress (Stored r t) s h = after-acquire r t s h

  after-agreed : (o : Observation) (s : State) → P s.participants → Left (agreed o s)
  unfolding agreed
  after-agreed Probed s h = h
  after-agreed HasParked s h = h
  after-agreed Rechecked s h = if-true Left (lacks_authorization s) (λ u. h) (λ u. after_stop s h)

  after-observe : (e r : ℕ) (o : Observation) (s : State) → P s.participants → Left (observation_of e r o s)
  unfolding observation_of observe_by tally
  after-observe e r o s h = if-true Left (unheard r s) (λ u. h) (λ u. by (verdict_of s.phase o))
    where
      t : State
      t = only e (observes o) s

      w : P t.participants
      w = one e (observes o) (λ p. (refl, refl)) s.participants h

      by : (v : Verdict) → Left (observe_by v e o s)
      by Counts =
          if-true Left (observed_already e o s) (λ u. h)
          (λ u. if-true Left (all_observed o t) (λ x. after-agreed o (every forget t) (same forget (λ p. (refl, refl)) t.participants w)) (λ x. w))
      by Ignored = h
      by Refused = h

  after-idle : (r : ℕ) (s : State) → P s.participants → Left (idle_confirmation_of r s)
  unfolding idle_confirmation_of
  after-idle r s h = if-true Left (awaits r s) (λ u. h) (λ u. h)

  after-begin : (e : ℕ) (t : Tag) (s : State) → P s.participants → Left (begin_tag_of e t s)
  unfolding begin_tag_of
  after-begin e t s h = if-true Left (may_begin s.input_horizon e t s) (λ u. go s.input_horizon) (λ u. h)
    where
      go : (m : Option Tag) → P (begun m e t s).participants
      go None = h
      go (Some c) = one e (with_started (Some t)) (λ p. (refl, refl)) s.participants h

  after-input : (es : List ℕ) (s : State) → P s.participants → Left (input_publishing_of es s)
  unfolding input_publishing_of
  after-input es s h = grant None (noticed es) (λ p. (refl, refl)) (revise_of s).participants (after-revise s h)

  after-own : (c : Call) (s : State) → P s.participants → Left (own_step c s)
  unfolding own_step
  after-own (active e) s h = after-active e s h
  after-own (publish e c) s h = after-publish e c s h
  after-own (complete e t n) s h = after-complete e t n s h
  after-own (observed e g) s h = after-observed e g s h
  after-own (stopped e) s h = after_stop s h
  after-own (failed e) s h = after-failed e s h
  after-own (acquire r t) s h = after-acquire r t s h
  after-own (sent r n m) s h = after-sent r n m s h
  after-own (observe e r o) s h = after-observe e r o s h
  after-own (idle r) s h = after-idle r s h
  after-own stop s h = after_stop s h
  after-own progress s h = after-progress s.input_acquisition s h
  after-own (horizon t) s h = h
  after-own (begin e t) s h = after-begin e t s h
  after-own (late e t) s h = h
  after-own (done e t) s h = h
  after-own (input es) s h = after-input es s h

  after_call : (g : Given) (s : State) → P s.participants → Left (call g s).step
  unfolding call take_step
  after_call g s h =
      if-true Left (is_taken g s)
      (λ u. if-true Left (facts g.what).message (λ w. after-advance (own_step g.what s).state own) (λ w. own)) (λ u. h)
    where
      own : Left (own_step g.what s)
      own = after-own g.what s h

-- ---- one tag is granted to all

same-together : (f : Participant → Participant) → Keeps f → (ps : List Participant) → Together ps → Together (map f ps)
same-together f k ps h = record { tag = h.tag; all = each-onto (λ p. p.granted ≡ h.tag) (λ p. p.granted ≡ h.tag) f (λ p e. (k p).1 ∙ e) ps h.all }

grant-together : (t : Option Tag) (f : Participant → Participant) → Grants t f → (ps : List Participant) → Together ps → Together (map f ps)
grant-together t f k ps h = record { tag = t; all = each-onto (λ p. p.granted ≡ h.tag) (λ p. p.granted ≡ t) f (λ p e. (k p).1) ps h.all }

pub call-keeps-together : CallKeepsTogether
call-keeps-together g s h = after_call Together same-together grant-together g s h

pub opening-is-together : OpeningIsTogether
unfolding opened
opening-is-together o = record { tag = None; all = seated-each (λ p. p.granted ≡ None) o.enclaves (each_of (λ e. refl) o.enclaves) }

-- ---- no call changes who takes part

indices-map : (f : Participant → Participant) → ((p : Participant) → (f p).index ≡ p.index) → (ps : List Participant)
    → map (λ p. p.index) (map f ps) ≡ map (λ p. p.index) ps
indices-map f h [] = refl
indices-map f h (p ∷ ps) = ap₂ {C = List ℕ} (λ (x : ℕ) (y : List ℕ). x ∷ y) (h p) (indices-map f h ps)

pub call-keeps-enclaves : CallKeepsEnclaves
call-keeps-enclaves g s =
    after_call (λ ps. map (λ p. p.index) ps ≡ enclaves_of s) (λ f k ps h. indices-map f (λ p. (k p).0) ps ∙ h)
    (λ t f k ps h. indices-map f (λ p. (k p).0) ps ∙ h) g s refl
