-- No state reached from an opening is refused 27. `is_sound` is taken into named parts and put together again after each rule: a rule changes the
-- participants by a map that keeps each index and sets tags that were given proper, are absent, or are one of two proper ones. Assumes nothing.
use Rattle.std.specs.Prelude.{None, Some, Option}
use Rattle.records.specs.declared.FederatePublication.{FederatePublication}
use mathlib.Core.Path.{◌≡◌, refl, ap, ◌∙◌, subst, ap₂}
use mathlib.Core.Logic.{◌↔◌}
use mathlib.Core.Bool.{Bool, true, false, not, cond, ◌&&◌}
use mathlib.Core.List.{List, [], ◌∷◌, map}
use native.Mathlib.Omega.{arith}
use Prim.Native.Nat.{ℕ, suc, ◌≤◌}
use lib.Dec.{T, leb, ltb, eqb, leb→le, le→leb, ltb→lt, lt→ltb, nltb→le, eqb_refl, T_not}
use lib.ListN.{length, length-map}
use Rattle.tags.specs.Tags.{◌≤ₜ◌, is_at_or_below, capped_by, greater_of, greater_present, is_below, is_present, is_proper, lesser_of, lesser_of_both, lesser_present, proper_if_present, same_optional}
use Rattle.rules.specs.Acquisition.{acquire_capped, acquisition_of, grant_of, granted_up_to, nothing_new, progress_by, publication_sent_of, raised_horizon, same_publication, sent_under, stored, worth_storing}
use Rattle.rules.specs.Calls.{all_proper, ascending, call, facts, is_sound, is_taken, own_step, proper_acquisition, proper_inputs, proper_participant, proper_publication, run_calls, take_step}
use Rattle.rules.specs.Completion.{advance_of, advance_to, all_answered, answers_probe, complete_all, complete_by, complete_tag_of, finish, front_of, inputs_left, is_held, least_completed, noted, observed_of, probe_for, widened}
use Rattle.rules.specs.Demands.{CallKeepsSound, Each, Opening, OpeningIsSound, start, state_after}
use Rattle.rules.specs.Gate.{begin_tag_of, begun, input_publishing_of, may_begin, noticed}
use Rattle.rules.specs.Model.{Active, Call, Counts, Given, HasParked, Ignored, Inputs, NoInputs, NoneStored, Observation, OptionalAcquisition, OptionalInputs, Participant, Probed, Rechecked, Refused, State, Step, Stored, Tag, Verdict, acquire, active, begin, complete, done, failed, horizon, idle, input, late, observe, observed, progress, publish, sent, stop, stopped}
use Rattle.rules.specs.Observation.{agreed, all_observed, awaits, idle_confirmation_of, lacks_authorization, observation_of, observe_by, observed_already, observes, tally, unheard, verdict_of}
use Rattle.rules.specs.Opening.{fresh, insert, opened, opening_refusal, opening_walk, seated}
use Rattle.rules.specs.Publication.{activate_of, all_published, announce, deactivated, enlist, forget, least_candidate, publication_of, publish_by, publish_of, revise_of, store, unpublish}
use Rattle.rules.specs.Set.{with_candidate, with_completed, with_completion_observed, with_completion_probe, with_granted, with_input_horizon, with_started}
use Rattle.rules.specs.Stop.{fail_of, stop_of}
use Rattle.rules.specs.Walk.{all, among, at, every, find, greatest_of, is, is_stopped, least_of, only, outdated}
use Rattle.rules.proofs.Frame.{if-true}
use Rattle.rules.proofs.Increase.{or_left}
use Rattle.rules.proofs.Invariants.{all_of, and_intro, each-onto, seated-each}
use Rattle.rules.proofs.Lists.{all-each, and_left, and_right, each_map, or_right}
use Rattle.rules.proofs.Refusal.{taken-passed}

abbrev Proper : Option Tag → Type 0
Proper m = T (proper_if_present m)

and_parts : (a b : Bool) → T (a && b) ↔ (T a × T b)
and_parts a b = (λ h. (and_left a b h, and_right a b h), λ h. and_intro a b h.0 h.1)

-- ---- the parts of a sound state

-- of the participants
record Seating (ps : List Participant) : Type 0 where
  filled : T (ltb 0 (length ps))
  few : T (leb (length ps) 32)
  ascends : T (ascending ps)
  proper : Each (λ p. T (proper_participant p)) ps

-- of the whole, over the fields that it speaks of alone: so it is the same at two states that differ in others
record SoundParts (ps : List Participant) (h f b c : Option Tag) (p : Option FederatePublication) (i : OptionalInputs) (a : OptionalAcquisition) : Type 0 where
  seats : Seating ps
  horizon : Proper h
  frontier : Proper f
  probe : Proper b
  input_horizon : Proper c
  publication : T (proper_publication p)
  inputs : T (proper_inputs i)
  acquisition : T (proper_acquisition a)

abbrev Sound : State → Type 0
Sound s =
    SoundParts s.participants s.grant_horizon s.completed_frontier s.completion_probe s.input_horizon
    s.pending_publication s.pending_inputs s.input_acquisition

sound-parts : (s : State) → T (is_sound s) → Sound s
unfolding is_sound
sound-parts s h =
    let r = simp and_parts at h in
    let q = r.0.0.0.0.0.0.0 in
    record {
      seats = record { filled = q.0.0.0; few = q.0.0.1; ascends = q.0.1; proper = all-each proper_participant s.participants q.1 };
      horizon = r.0.0.0.0.0.0.1;
      frontier = r.0.0.0.0.0.1;
      probe = r.0.0.0.0.1;
      input_horizon = r.0.0.0.1;
      publication = r.0.0.1;
      inputs = r.0.1;
      acquisition = r.1;
    }

sound-whole : (s : State) → Sound s → T (is_sound s)
unfolding is_sound
sound-whole s v =
    let q = v.seats in
    let each-proper = all_of proper_participant s.participants q.proper in
    simp and_parts
    ((((((((((q.filled, q.few), q.ascends), each-proper), v.horizon), v.frontier), v.probe), v.input_horizon), v.publication), v.inputs), v.acquisition)

-- one part set anew
module _ {ps : List Participant} {h f b c : Option Tag} {p : Option FederatePublication} {i : OptionalInputs} {a : OptionalAcquisition} where
  with-seats : {x : List Participant} → Seating x → SoundParts ps h f b c p i a → SoundParts x h f b c p i a
  with-seats k v = record { seats = k; horizon = v.horizon; frontier = v.frontier; probe = v.probe; input_horizon = v.input_horizon; publication = v.publication; inputs = v.inputs; acquisition = v.acquisition }

  with-horizon : {x : Option Tag} → Proper x → SoundParts ps h f b c p i a → SoundParts ps x f b c p i a
  with-horizon k v = record { seats = v.seats; horizon = k; frontier = v.frontier; probe = v.probe; input_horizon = v.input_horizon; publication = v.publication; inputs = v.inputs; acquisition = v.acquisition }

  with-frontier : {x : Option Tag} → Proper x → SoundParts ps h f b c p i a → SoundParts ps h x b c p i a
  with-frontier k v = record { seats = v.seats; horizon = v.horizon; frontier = k; probe = v.probe; input_horizon = v.input_horizon; publication = v.publication; inputs = v.inputs; acquisition = v.acquisition }

  with-probe : {x : Option Tag} → Proper x → SoundParts ps h f b c p i a → SoundParts ps h f x c p i a
  with-probe k v = record { seats = v.seats; horizon = v.horizon; frontier = v.frontier; probe = k; input_horizon = v.input_horizon; publication = v.publication; inputs = v.inputs; acquisition = v.acquisition }

  with-input-horizon : {x : Option Tag} → Proper x → SoundParts ps h f b c p i a → SoundParts ps h f b x p i a
  with-input-horizon k v = record { seats = v.seats; horizon = v.horizon; frontier = v.frontier; probe = v.probe; input_horizon = k; publication = v.publication; inputs = v.inputs; acquisition = v.acquisition }

  with-publication : {x : Option FederatePublication} → T (proper_publication x) → SoundParts ps h f b c p i a → SoundParts ps h f b c x i a
  with-publication k v = record { seats = v.seats; horizon = v.horizon; frontier = v.frontier; probe = v.probe; input_horizon = v.input_horizon; publication = k; inputs = v.inputs; acquisition = v.acquisition }

  with-inputs : {x : OptionalInputs} → T (proper_inputs x) → SoundParts ps h f b c p i a → SoundParts ps h f b c p x a
  with-inputs k v = record { seats = v.seats; horizon = v.horizon; frontier = v.frontier; probe = v.probe; input_horizon = v.input_horizon; publication = v.publication; inputs = k; acquisition = v.acquisition }

  with-acquisition : {x : OptionalAcquisition} → T (proper_acquisition x) → SoundParts ps h f b c p i a → SoundParts ps h f b c p i x
  with-acquisition k v = record { seats = v.seats; horizon = v.horizon; frontier = v.frontier; probe = v.probe; input_horizon = v.input_horizon; publication = v.publication; inputs = v.inputs; acquisition = k }

-- ---- each conjunct of 27, out of it

pub sound-number : (s : State) → T (is_sound s) → (1 ≤ length s.participants) × (length s.participants ≤ 32)
sound-number s h =
    (ltb→lt 0 (length s.participants) (sound-parts s h).seats.filled, leb→le (length s.participants) 32 (sound-parts s h).seats.few)

pub sound-ascending : (s : State) → T (is_sound s) → T (ascending s.participants)
sound-ascending s h = (sound-parts s h).seats.ascends

pub sound-proper-participants : (s : State) → T (is_sound s) → Each (λ p. T (proper_participant p)) s.participants
sound-proper-participants s h = (sound-parts s h).seats.proper

pub sound-proper-horizon : (s : State) → T (is_sound s) → T (proper_if_present s.grant_horizon)
sound-proper-horizon s h = (sound-parts s h).horizon

pub sound-proper-frontier : (s : State) → T (is_sound s) → T (proper_if_present s.completed_frontier)
sound-proper-frontier s h = (sound-parts s h).frontier

pub sound-proper-probe : (s : State) → T (is_sound s) → T (proper_if_present s.completion_probe)
sound-proper-probe s h = (sound-parts s h).probe

pub sound-proper-input-horizon : (s : State) → T (is_sound s) → T (proper_if_present s.input_horizon)
sound-proper-input-horizon s h = (sound-parts s h).input_horizon

pub sound-proper-publication : (s : State) → T (is_sound s) → T (proper_publication s.pending_publication)
sound-proper-publication s h = (sound-parts s h).publication

pub sound-proper-inputs : (s : State) → T (is_sound s) → T (proper_inputs s.pending_inputs)
sound-proper-inputs s h = (sound-parts s h).inputs

pub sound-proper-acquisition : (s : State) → T (is_sound s) → T (proper_acquisition s.input_acquisition)
sound-proper-acquisition s h = (sound-parts s h).acquisition

-- ---- a participant

pub record ParticipantParts (p : Participant) : Type 0 where
  pub place : T (leb p.index 4095)
  pub candidate : T (proper_if_present p.candidate)
  pub completed : T (proper_if_present p.completed)
  pub granted : T (proper_if_present p.granted)
  pub started : T (proper_if_present p.started)

pub participant-parts : (p : Participant) → T (proper_participant p) → ParticipantParts p
participant-parts p h =
    let r = simp and_parts at h in
    record { place = r.0.0.0.0; candidate = r.0.0.0.1; completed = r.0.0.1; granted = r.0.1; started = r.1 }

participant-whole : (p : Participant) → ParticipantParts p → T (proper_participant p)
participant-whole p v = simp and_parts ((((v.place, v.candidate), v.completed), v.granted), v.started)

pub sound-proper-candidates : (s : State) → T (is_sound s) → Each (λ p. T (proper_if_present p.candidate)) s.participants
sound-proper-candidates s h =
    each_map (λ p. T (proper_participant p)) (λ p. Proper p.candidate) (λ p k. (participant-parts p k).candidate) s.participants (sound-proper-participants s h)

pub sound-proper-completed : (s : State) → T (is_sound s) → Each (λ p. T (proper_if_present p.completed)) s.participants
sound-proper-completed s h =
    each_map (λ p. T (proper_participant p)) (λ p. Proper p.completed) (λ p k. (participant-parts p k).completed) s.participants (sound-proper-participants s h)

-- a change of a participant that leaves its index, and a proper one proper
abbrev Keeps : (Participant → Participant) → Type 0
Keeps f = (p : Participant) → ((f p).index ≡ p.index) × (T (proper_participant p) → T (proper_participant (f p)))

-- one that sets no tag
keeps-tags : Keeps (λ p. p)
keeps-tags p = (refl, λ h. h)

keeps-parts : (f : Participant → Participant) → ((p : Participant) → (f p).index ≡ p.index) → ((p : Participant) → ParticipantParts p → ParticipantParts (f p)) → Keeps f
keeps-parts f i k p = (i p, λ h. participant-whole (f p) (k p (participant-parts p h)))

keeps-candidate : (c : Option Tag) → Proper c → Keeps (with_candidate c)
keeps-candidate c k =
    keeps-parts (with_candidate c) (λ p. refl)
    (λ p r. record { place = r.place; candidate = k; completed = r.completed; granted = r.granted; started = r.started })

keeps-completed : (c : Option Tag) → Proper c → Keeps (with_completed c)
keeps-completed c k =
    keeps-parts (with_completed c) (λ p. refl)
    (λ p r. record { place = r.place; candidate = r.candidate; completed = k; granted = r.granted; started = r.started })

keeps-granted : (c : Option Tag) → Proper c → Keeps (with_granted c)
keeps-granted c k =
    keeps-parts (with_granted c) (λ p. refl)
    (λ p r. record { place = r.place; candidate = r.candidate; completed = r.completed; granted = k; started = r.started })

keeps-started : (c : Option Tag) → Proper c → Keeps (with_started c)
keeps-started c k =
    keeps-parts (with_started c) (λ p. refl)
    (λ p r. record { place = r.place; candidate = r.candidate; completed = r.completed; granted = r.granted; started = k })

keeps-at : (e : ℕ) (f : Participant → Participant) → Keeps f → Keeps (at e f)
keeps-at e f k p =
    if-true (λ (q : Participant). (q.index ≡ p.index) × (T (proper_participant p) → T (proper_participant q))) (eqb p.index e)
    (λ u. k p) (λ u. keeps-tags p)

-- ---- all of them

ascending-map : (f : Participant → Participant) → Keeps f → (ps : List Participant) → ascending (map f ps) ≡ ascending ps
ascending-map f k [] = refl
ascending-map f k (p ∷ []) = refl
ascending-map f k (p ∷ q ∷ ps) = ap₂ ◌&&◌ (ap₂ ltb (k p).0 (k q).0) (ascending-map f k (q ∷ ps))

seats-map : (f : Participant → Participant) → Keeps f → (ps : List Participant) → Seating ps → Seating (map f ps)
seats-map f k ps v = record {
  filled = rw (length-map ps f) v.filled;
  few = rw (length-map ps f) v.few;
  ascends = rw (ascending-map f k ps) v.ascends;
  proper = each-onto (λ p. T (proper_participant p)) (λ p. T (proper_participant p)) f (λ p. (k p).1) ps v.proper;
}

-- every participant of a state changed, or one
after-every : (f : Participant → Participant) → Keeps f → (s : State) → T (is_sound s) → Sound (every f s)
after-every f k s h = with-seats (seats-map f k s.participants (sound-parts s h).seats) (sound-parts s h)

after-only : (e : ℕ) (f : Participant → Participant) → Keeps f → (s : State) → T (is_sound s) → Sound (only e f s)
after-only e f k s h = after-every (at e f) (keeps-at e f k) s h

-- ---- the tags that the rules set

one_of : (b : Bool) (x y : Tag) → T (is_proper x) → T (is_proper y) → T (is_proper (cond b x y))
one_of b x y h k = if-true (λ (t : Tag). T (is_proper t)) b (λ u. h) (λ u. k)

lesser-proper : (m n : Option Tag) → Proper m → Proper n → Proper (lesser_present m n)
lesser-proper None n h k = k
lesser-proper (Some a) None h k = h
lesser-proper (Some a) (Some b) h k = one_of (a ≤ₜ b) a b h k

greater-proper : (m n : Option Tag) → Proper m → Proper n → Proper (greater_present m n)
greater-proper None n h k = k
greater-proper (Some a) None h k = h
greater-proper (Some a) (Some b) h k = one_of (a ≤ₜ b) b a k h

both-proper : (m n : Option Tag) → Proper m → Proper n → Proper (lesser_of_both m n)
both-proper None n h k = tt
both-proper (Some a) None h k = tt
both-proper (Some a) (Some b) h k = one_of (a ≤ₜ b) a b h k

pub capped-proper : (m : Option Tag) (t : Tag) → T (proper_if_present m) → T (is_proper t) → T (is_proper (capped_by m t))
capped-proper None t h k = k
capped-proper (Some c) t h k = one_of (t ≤ₜ c) t c k h

raised-proper : (m : Option Tag) (t : Tag) → Proper m → T (is_proper t) → T (is_proper (raised_horizon m t))
raised-proper None t h k = k
raised-proper (Some c) t h k = one_of (c ≤ₜ t) t c k h

least-proper : (f : Participant → Option Tag) (ps : List Participant) → Each (λ p. Proper (f p)) ps → Proper (least_of f ps)
least-proper f [] h = tt
least-proper f (p ∷ ps) h = lesser-proper (f p) (least_of f ps) h.0 (least-proper f ps h.1)

greatest-proper : (f : Participant → Option Tag) (ps : List Participant) → Each (λ p. Proper (f p)) ps → Proper (greatest_of f ps)
greatest-proper f [] h = tt
greatest-proper f (p ∷ ps) h = greater-proper (f p) (greatest_of f ps) h.0 (greatest-proper f ps h.1)

candidate-proper : (s : State) → T (is_sound s) → Proper (least_candidate s)
candidate-proper s h = least-proper (λ p. p.candidate) s.participants (sound-proper-candidates s h)

completed-proper : (s : State) → T (is_sound s) → Proper (least_completed s.participants)
completed-proper s h =
    if-true Proper (all (λ p. is_present p.completed) s.participants)
    (λ u. least-proper (λ p. p.completed) s.participants (sound-proper-completed s h)) (λ u. tt)

front-proper : (s : State) → T (is_sound s) → Proper (front_of s)
front-proper s h =
    both-proper (greatest_of (λ p. p.completed) s.participants) s.grant_horizon
    (greatest-proper (λ p. p.completed) s.participants (sound-proper-completed s h)) (sound-proper-horizon s h)

-- a step that ends in a sound state
abbrev Leaves : Step → Type 0
Leaves o = T (is_sound o.state)

-- ---- revise, active, stop

pub revise-keeps-sound : (s : State) → T (is_sound s) → T (is_sound (revise_of s))
unfolding revise_of
revise-keeps-sound s h = sound-whole _ (with-publication tt (with-probe tt (after-every forget keeps-tags s h)))

pub active-keeps-sound : (e : ℕ) (s : State) → T (is_sound s) → T (is_sound (activate_of e s).state)
unfolding activate_of
active-keeps-sound e s h = if-true Leaves (is_stopped s) (λ u. calm) (λ u. revise-keeps-sound (deactivated e s) calm)
  where
    calm : T (is_sound (deactivated e s))
    calm = sound-whole _ (with-probe tt (after-only e unpublish keeps-tags s h))

pub stop-keeps-sound : (s : State) → T (is_sound s) → T (is_sound (stop_of s).state)
unfolding stop_of
stop-keeps-sound s h = if-true Leaves (is_stopped s) (λ u. h) (λ u. sound-whole _ (with-publication tt (sound-parts s h)))

pub fail-keeps-sound : (e : Option ℕ) (s : State) → T (is_sound s) → T (is_sound (fail_of e s).state)
unfolding fail_of
fail-keeps-sound e s h = if-true Leaves (is_stopped s) (λ u. h) (λ u. sound-whole _ (with-publication tt (sound-parts s h)))

-- ---- publish

pub announce-keeps-sound : (e : ℕ) (b : Bool) (s : State) → T (is_sound s) → T (is_sound (announce e b s).state)
unfolding announce
announce-keeps-sound e b s h = sound-whole _ (with-acquisition tt (with-publication both (sound-parts s h)))
  where
    both : T (proper_publication (Some (publication_of s)))
    both = and_intro (proper_if_present (least_candidate s)) (proper_if_present s.grant_horizon) (candidate-proper s h) (sound-proper-horizon s h)

pub enlist-keeps-sound : (e : ℕ) (c : Option Tag) (b : Bool) (s : State) → T (is_sound s) → T (proper_if_present c) → T (is_sound (enlist e c b s).state)
unfolding enlist
enlist-keeps-sound e c b s h k = if-true Leaves (all_published (only e (store c) s)) (λ u. announce-keeps-sound e b (only e (store c) s) kept) (λ u. kept)
  where
    kept : T (is_sound (only e (store c) s))
    kept = sound-whole _ (after-only e (store c) (keeps-candidate c k) s h)

pub publish_by-keeps-sound : (e : ℕ) (c : Option Tag) (s : State) → T (is_sound s) → T (proper_if_present c)
    → (o : Option Participant) → T (is_sound (publish_by e c s o).state)
unfolding publish_by
publish_by-keeps-sound e c s h k None = h
publish_by-keeps-sound e c s h k (Some p) =
    if-true Leaves (same_optional p.candidate c) (λ u. if-true Leaves p.published (λ w. h) (λ w. enlist-keeps-sound e c false s h k))
    (λ u. enlist-keeps-sound e c (not (is Active s)) (revise_of s) (revise-keeps-sound s h) k)

pub publish-keeps-sound : (e : ℕ) (c : Option Tag) (s : State) → T (is_sound s) → T (proper_if_present c) → T (is_sound (publish_of e c s).state)
unfolding publish_of
publish-keeps-sound e c s h k = if-true Leaves (is_stopped s) (λ u. h) (λ u. publish_by-keeps-sound e c s h k (find e s.participants))

-- ---- complete, observed, the completion step

left-proper : (i : OptionalInputs) (f : Tag) → T (proper_inputs i) → T (proper_inputs (inputs_left i f))
left-proper NoInputs f h = tt
left-proper (Inputs first last) f h = if-true (λ (i : OptionalInputs). T (proper_inputs i)) (last ≤ₜ f) (λ u. tt) (λ u. h)

widened-proper : (n : Bool) (t : Tag) (i : OptionalInputs) → T (is_proper t) → T (proper_inputs i) → T (proper_inputs (widened n t i))
widened-proper false t i k h = h
widened-proper true t NoInputs k h = and_intro (is_proper t) (is_proper t) k k
widened-proper true t (Inputs first last) k h =
    and_intro (is_proper (lesser_of first t)) (is_proper (greater_of last t)) (one_of (first ≤ₜ t) first t (and_left (is_proper first) (is_proper last) h) k)
    (one_of (last ≤ₜ t) t last k (and_right (is_proper first) (is_proper last) h))

pub finish-keeps-sound : (f : Tag) (s : State) → T (is_sound s) → T (is_proper f) → T (is_sound (finish f s).state)
unfolding finish
finish-keeps-sound f s h k = sound-whole _ (with-frontier k (with-inputs (left-proper s.pending_inputs f (sound-proper-inputs s h)) (sound-parts s h)))

pub complete_all-keeps-sound : (m : Option Tag) (s : State) → T (is_sound s) → T (proper_if_present m) → T (is_sound (complete_all m s).state)
unfolding complete_all
complete_all-keeps-sound None s h k = h
complete_all-keeps-sound (Some m) s h k = if-true Leaves (is_below s.completed_frontier m) (λ u. finish-keeps-sound m s h k) (λ u. h)

pub noted-keeps-sound : (e : ℕ) (t : Tag) (n : Bool) (s : State) → T (is_sound s) → T (is_proper t) → T (is_sound (noted e t n s))
noted-keeps-sound e t n s h k =
    sound-whole _ (with-inputs (widened-proper n t s.pending_inputs k (sound-proper-inputs s h))
    (after-only e (with_completed (Some t)) (keeps-completed (Some t) k) s h))

pub complete_by-keeps-sound : (e : ℕ) (t : Tag) (n : Bool) (s : State) → T (is_sound s) → T (is_proper t)
    → (o : Option Participant) → T (is_sound (complete_by e t n s o).state)
unfolding complete_by
complete_by-keeps-sound e t n s h k None = h
complete_by-keeps-sound e t n s h k (Some p) =
    if-true Leaves (is_below p.completed t)
    (λ u. complete_all-keeps-sound (least_completed m.participants) m w (completed-proper m w)) (λ u. h)
  where
    m : State
    m = noted e t n s

    w : T (is_sound m)
    w = noted-keeps-sound e t n s h k

pub complete-keeps-sound : (e : ℕ) (t : Tag) (n : Bool) (s : State) → T (is_sound s) → T (is_proper t) → T (is_sound (complete_tag_of e t n s).state)
unfolding complete_tag_of
complete-keeps-sound e t n s h k = if-true Leaves (is_stopped s) (λ u. h) (λ u. complete_by-keeps-sound e t n s h k (find e s.participants))

pub observed-keeps-sound : (e g : ℕ) (s : State) → T (is_sound s) → T (is_sound (observed_of e g s).state)
unfolding observed_of
observed-keeps-sound e g s h =
    if-true Leaves (answers_probe g s) (λ u. sound-whole _ (after-only e (with_completion_observed (Some g)) keeps-tags s h)) (λ u. h)

pub advance_to-keeps-sound : (m : Option Tag) (s : State) → T (is_sound s) → T (proper_if_present m) → T (is_sound (advance_to m s).state)
unfolding advance_to probe_for
advance_to-keeps-sound None s h k = h
advance_to-keeps-sound (Some f) s h k =
    if-true Leaves (is_held f s) (λ u. cleared)
    (λ u. if-true Leaves (same_optional s.completion_probe (Some f))
    (λ w. if-true Leaves (all_answered f s) (λ x. finish-keeps-sound f (with_completion_probe None s) cleared k) (λ x. h))
    (λ w. sound-whole _ (with-probe k (sound-parts s h))))
  where
    cleared : T (is_sound (with_completion_probe None s))
    cleared = sound-whole _ (with-probe tt (sound-parts s h))

pub advance-keeps-sound : (s : State) → T (is_sound s) → T (is_sound (advance_of s).state)
unfolding advance_of
advance-keeps-sound s h = if-true Leaves (is_stopped s) (λ u. h) (λ u. advance_to-keeps-sound (front_of s) s h (front-proper s h))

-- ---- acquisition, publication sent, input_progress

pub stored-keeps-sound : (r : ℕ) (t : Tag) (s : State) → T (is_sound s) → T (is_proper t) → T (is_sound (stored r t s))
stored-keeps-sound r t s h k =
    if-true (λ (m : State). T (is_sound m)) (worth_storing r t s) (λ u. sound-whole _ (with-acquisition k (sound-parts s h))) (λ u. h)

pub grant-keeps-sound : (t : Tag) (s : State) → T (is_sound s) → T (is_proper t) → T (is_sound (grant_of t s).state)
unfolding grant_of
grant-keeps-sound t s h k =
    sound-whole _ (with-horizon (raised-proper s.grant_horizon t (sound-proper-horizon s h) k)
    (with-publication tt (after-every (granted_up_to t) (keeps-granted (Some t) k) s h)))

pub acquire_capped-keeps-sound : (t : Tag) (s : State) → T (is_sound s) → T (is_proper t) → T (is_sound (acquire_capped t s).state)
unfolding acquire_capped
acquire_capped-keeps-sound t s h k = if-true Leaves (nothing_new t s) (λ u. h) (λ u. grant-keeps-sound t s h k)

pub acquire-keeps-sound : (r : ℕ) (t : Tag) (s : State) → T (is_sound s) → T (is_proper t) → T (is_sound (acquisition_of r t s).state)
unfolding acquisition_of
acquire-keeps-sound r t s h k =
    if-true Leaves (outdated r s) (λ u. h)
    (λ u. acquire_capped-keeps-sound (capped_by s.input_horizon t) (stored r t s) (stored-keeps-sound r t s h k)
    (capped-proper s.input_horizon t (sound-proper-input-horizon s h) k))

pub sent_under-keeps-sound : (m : Option Tag) (r : ℕ) (n : Option Tag) (s : State) → T (is_sound s) → T (proper_if_present m)
    → T (is_sound (sent_under m r n s).state)
unfolding sent_under
sent_under-keeps-sound None r n s h k = h
sent_under-keeps-sound (Some t) r n s h k = if-true Leaves (is_at_or_below n t) (λ u. acquire-keeps-sound r t s h k) (λ u. h)

pub sent-keeps-sound : (r : ℕ) (n m : Option Tag) (s : State) → T (is_sound s) → T (is_sound (publication_sent_of r n m s).state)
unfolding publication_sent_of
sent-keeps-sound r n m s h =
    if-true Leaves (same_publication s.pending_publication r n m) (λ u. sent_under-keeps-sound s.grant_horizon r n s h (sound-proper-horizon s h)) (λ u. h)

pub progress-keeps-sound : (a : OptionalAcquisition) (s : State) → T (is_sound s) → T (proper_acquisition a) → T (is_sound (progress_by a s).state)
unfolding progress_by
progress-keeps-sound NoneStored s h k = h
progress-keeps-sound (Stored r t) s h k = acquire-keeps-sound r t s h k

-- ---- observation, idle confirmation

pub agreed-keeps-sound : (o : Observation) (s : State) → T (is_sound s) → T (is_sound (agreed o s).state)
unfolding agreed
agreed-keeps-sound Probed s h = sound-whole _ (sound-parts s h)
agreed-keeps-sound HasParked s h = sound-whole _ (sound-parts s h)
agreed-keeps-sound Rechecked s h = if-true Leaves (lacks_authorization s) (λ u. sound-whole _ (sound-parts s h)) (λ u. stop-keeps-sound s h)

pub tally-keeps-sound : (o : Observation) (s : State) → T (is_sound s) → T (is_sound (tally o s).state)
unfolding tally
tally-keeps-sound o s h =
    if-true Leaves (all_observed o s) (λ u. agreed-keeps-sound o (every forget s) (sound-whole _ (after-every forget keeps-tags s h))) (λ u. h)

pub observe_by-keeps-sound : (v : Verdict) (e : ℕ) (o : Observation) (s : State) → T (is_sound s) → T (is_sound (observe_by v e o s).state)
unfolding observe_by
observe_by-keeps-sound Counts e o s h =
    if-true Leaves (observed_already e o s) (λ u. h)
    (λ u. tally-keeps-sound o (only e (observes o) s) (sound-whole _ (after-only e (observes o) keeps-tags s h)))
observe_by-keeps-sound Ignored e o s h = h
observe_by-keeps-sound Refused e o s h = h

pub observe-keeps-sound : (e r : ℕ) (o : Observation) (s : State) → T (is_sound s) → T (is_sound (observation_of e r o s).state)
unfolding observation_of
observe-keeps-sound e r o s h = if-true Leaves (unheard r s) (λ u. h) (λ u. observe_by-keeps-sound (verdict_of s.phase o) e o s h)

pub idle-keeps-sound : (r : ℕ) (s : State) → T (is_sound s) → T (is_sound (idle_confirmation_of r s).state)
unfolding idle_confirmation_of
idle-keeps-sound r s h = if-true Leaves (awaits r s) (λ u. sound-whole _ (with-publication tt (sound-parts s h))) (λ u. h)

-- ---- the gate

pub horizon-keeps-sound : (t : Option Tag) (s : State) → T (is_sound s) → T (proper_if_present t) → T (is_sound (with_input_horizon t s))
horizon-keeps-sound t s h k = sound-whole _ (with-input-horizon k (sound-parts s h))

pub begun-keeps-sound : (m : Option Tag) (e : ℕ) (t : Tag) (s : State) → T (is_sound s) → T (is_proper t) → T (is_sound (begun m e t s))
begun-keeps-sound None e t s h k = h
begun-keeps-sound (Some c) e t s h k = sound-whole _ (after-only e (with_started (Some t)) (keeps-started (Some t) k) s h)

pub begin-keeps-sound : (e : ℕ) (t : Tag) (s : State) → T (is_sound s) → T (is_proper t) → T (is_sound (begin_tag_of e t s).state)
unfolding begin_tag_of
begin-keeps-sound e t s h k = if-true Leaves (may_begin s.input_horizon e t s) (λ u. begun-keeps-sound s.input_horizon e t s h k) (λ u. h)

pub input-keeps-sound : (es : List ℕ) (s : State) → T (is_sound s) → T (is_sound (input_publishing_of es s).state)
unfolding input_publishing_of
input-keeps-sound es s h = sound-whole _ (with-acquisition tt (after-every (noticed es) (keeps-granted None tt) (revise_of s) (revise-keeps-sound s h)))

-- ---- any call

pub own-keeps-sound : (c : Call) (s : State) → T (is_sound s) → T (all_proper (facts c).tags) → T (is_sound (own_step c s).state)
unfolding own_step
own-keeps-sound (active e) s h k = active-keeps-sound e s h
own-keeps-sound (publish e c) s h k = publish-keeps-sound e c s h (and_left (proper_if_present c) true k)
own-keeps-sound (complete e t n) s h k = complete-keeps-sound e t n s h (and_left (is_proper t) true k)
own-keeps-sound (observed e g) s h k = observed-keeps-sound e g s h
own-keeps-sound (stopped e) s h k = stop-keeps-sound s h
own-keeps-sound (failed e) s h k = fail-keeps-sound e s h
own-keeps-sound (acquire r t) s h k = acquire-keeps-sound r t s h (and_left (is_proper t) true k)
own-keeps-sound (sent r n m) s h k = sent-keeps-sound r n m s h
own-keeps-sound (observe e r o) s h k = observe-keeps-sound e r o s h
own-keeps-sound (idle r) s h k = idle-keeps-sound r s h
own-keeps-sound stop s h k = stop-keeps-sound s h
own-keeps-sound progress s h k = progress-keeps-sound s.input_acquisition s h (sound-proper-acquisition s h)
own-keeps-sound (horizon t) s h k = horizon-keeps-sound t s h (and_left (proper_if_present t) true k)
own-keeps-sound (begin e t) s h k = begin-keeps-sound e t s h (and_left (is_proper t) true k)
own-keeps-sound (late e t) s h k = h
own-keeps-sound (done e t) s h k = h
own-keeps-sound (input es) s h k = input-keeps-sound es s h

pub take-keeps-sound : (c : Call) (s : State) → T (is_sound s) → T (all_proper (facts c).tags) → T (is_sound (take_step c s).state)
unfolding take_step
take-keeps-sound c s h k = if-true Leaves (facts c).message (λ u. advance-keeps-sound (own_step c s).state own) (λ u. own)
  where
    own : T (is_sound (own_step c s).state)
    own = own-keeps-sound c s h k

-- what is taken is not refused 7
pub taken-proper : (g : Given) (s : State) → T (is_taken g s) → T (all_proper (facts g.what).tags)
taken-proper g s u = (taken-passed g s u).proper

pub call-keeps-sound : CallKeepsSound
unfolding call
call-keeps-sound g s h = if-true Leaves (is_taken g s) (λ u. take-keeps-sound g.what s h (taken-proper g s u)) (λ u. h)

pub run-keeps-sound : (gs : List Given) (s : State) → T (is_sound s) → T (is_sound (run_calls gs s).state)
unfolding run_calls
run-keeps-sound [] s h = h
run-keeps-sound (g ∷ gs) s h = run-keeps-sound gs (call g s).step.state (call-keeps-sound g s h)

-- ---- an opening: each index is inserted at its place among those after it in the list, and the walk has seen that it is none of them

-- the first of ps, if any, is above n
abbrev above : ℕ → List Participant → Bool
above n [] = true
above n (p ∷ ps) = ltb n p.index

ascending-first : (p : Participant) (ps : List Participant) → T (ascending (p ∷ ps)) → T (above p.index ps) × T (ascending ps)
ascending-first p [] h = (tt, tt)
ascending-first p (q ∷ ps) h = (and_left (ltb p.index q.index) (ascending (q ∷ ps)) h, and_right (ltb p.index q.index) (ascending (q ∷ ps)) h)

first-ascending : (p : Participant) (ps : List Participant) → T (above p.index ps) → T (ascending ps) → T (ascending (p ∷ ps))
first-ascending p [] h k = tt
first-ascending p (q ∷ ps) h k = and_intro (ltb p.index q.index) (ascending (q ∷ ps)) h k

above-insert : (n e : ℕ) (ps : List Participant) → T (ltb n e) → T (above n ps) → T (above n (insert e ps))
above-insert n e [] h k = h
above-insert n e (p ∷ ps) h k = if-true (λ (l : List Participant). T (above n l)) (ltb e p.index) (λ u. h) (λ u. k)

differ : (m n : ℕ) → T (not (eqb m n)) → m ≡ n → ⊥
differ m n h q = T_not (eqb m n) h (subst (λ (x : ℕ). T (eqb m x)) q (eqb_refl m))

not-above : (n e : ℕ) → T (not (ltb e n)) → T (not (eqb n e)) → T (ltb n e)
not-above n e h k = lt→ltb n e (let z = nltb→le e n h in let d = differ n e k in omega arith)

insert-ascending : (e : ℕ) (ps : List Participant) → Each (λ p. T (not (eqb p.index e))) ps → T (ascending ps) → T (ascending (insert e ps))
insert-ascending e [] h k = tt
insert-ascending e (p ∷ ps) h k =
    if-true (λ (l : List Participant). T (ascending l)) (ltb e p.index) (λ u. first-ascending (fresh e) (p ∷ ps) u k)
    (λ u. first-ascending p (insert e ps) (above-insert p.index e ps (not-above p.index e u h.0) r.0) (insert-ascending e ps h.1 r.1))
  where
    r : T (above p.index ps) × T (ascending ps)
    r = ascending-first p ps k

insert-length : (e : ℕ) (ps : List Participant) → length (insert e ps) ≡ suc (length ps)
insert-length e [] = refl
insert-length e (p ∷ ps) =
    if-true (λ (l : List Participant). length l ≡ suc (length (p ∷ ps))) (ltb e p.index) (λ u. refl) (λ u. ap suc (insert-length e ps))

seated-length : (es : List ℕ) → length (seated es) ≡ length es
seated-length [] = refl
seated-length (e ∷ es) = insert-length e (seated es) ∙ ap suc (seated-length es)

-- the walk's two tests at a place, and the rest of it
abbrev Passed : List ℕ → ℕ → List ℕ → Type 0
Passed before e es = T (not (ltb 4095 e)) × T (not (among e before)) × (opening_walk (e ∷ before) es ≡ 0)

walk_first : (before : List ℕ) (e : ℕ) (es : List ℕ) → opening_walk before (e ∷ es) ≡ 0 → Passed before e es
walk_first before e es =
    if-true P (ltb 4095 e) (λ u z. absurd (omega arith)) (λ u. if-true P (among e before) (λ w z. absurd (omega arith)) (λ w z. (u, w, z)))
  where
    P : ℕ → Type 0
    P n = n ≡ 0 → Passed before e es

fresh-proper : (e : ℕ) → T (not (ltb 4095 e)) → T (proper_participant (fresh e))
fresh-proper e h =
    participant-whole (fresh e) (record { place = le→leb e 4095 (nltb→le 4095 e h); candidate = tt; completed = tt; granted = tt; started = tt })

walk-proper : (before es : List ℕ) → opening_walk before es ≡ 0 → Each (λ e. T (proper_participant (fresh e))) es
walk-proper before [] h = tt
walk-proper before (e ∷ es) h =
    let r = walk_first before e es h in
    (fresh-proper e r.0, walk-proper (e ∷ before) es r.2)

walk-unseen : (before es : List ℕ) → opening_walk before es ≡ 0 → Each (λ e. T (not (among e before))) es
walk-unseen before [] h = tt
walk-unseen before (e ∷ es) h =
    let r = walk_first before e es h in
    (r.1, each_map (λ x. T (not (among x (e ∷ before)))) (λ x. T (not (among x before))) (λ x. or_right (eqb x e) (among x before)) es (walk-unseen (e ∷ before) es r.2))

-- what comes after e is not e
walk-other : (before : List ℕ) (e : ℕ) (es : List ℕ) → opening_walk (e ∷ before) es ≡ 0 → Each (λ x. T (not (eqb x e))) es
walk-other before e es h =
    each_map (λ x. T (not (among x (e ∷ before)))) (λ x. T (not (eqb x e))) (λ x. or_left (eqb x e) (among x before)) es (walk-unseen (e ∷ before) es h)

walk-ascending : (before es : List ℕ) → opening_walk before es ≡ 0 → T (ascending (seated es))
walk-ascending before [] h = tt
walk-ascending before (e ∷ es) h =
    let r = walk_first before e es h in
    insert-ascending e (seated es) (seated-each (λ p. T (not (eqb p.index e))) es (walk-other before e es r.2)) (walk-ascending (e ∷ before) es r.2)

-- what an accepted opening has passed: 5, 1 and the walk
accepted-parts : (es : List ℕ) → opening_refusal es ≡ 0 → T (leb (length es) 32) × T (ltb 0 (length es)) × (opening_walk [] es ≡ 0)
unfolding opening_refusal
accepted-parts es =
    if-true P (ltb 32 n) (λ u z. absurd (omega arith))
    (λ u. if-true P (eqb n 0) (λ w z. absurd (omega arith))
    (λ w z. (le→leb n 32 (nltb→le 32 n u), lt→ltb 0 n (let d = differ n 0 w in omega arith), z)))
  where
    n : ℕ
    n = length es

    P : ℕ → Type 0
    P k = k ≡ 0 → T (leb n 32) × T (ltb 0 n) × (opening_walk [] es ≡ 0)

opened-seats : (es : List ℕ) → opening_refusal es ≡ 0 → Seating (seated es)
opened-seats es h = let r = accepted-parts es h in record {
  filled = rw (seated-length es) r.1;
  few = rw (seated-length es) r.0;
  ascends = walk-ascending [] es r.2;
  proper = seated-each (λ p. T (proper_participant p)) es (walk-proper [] es r.2);
}

pub opening-is-sound : OpeningIsSound
unfolding opened
opening-is-sound o =
    sound-whole _ (record { seats = opened-seats o.enclaves o.accepted; horizon = tt; frontier = tt; probe = tt; input_horizon = tt; publication = tt; inputs = tt; acquisition = tt })

pub sound-after : (o : Opening) (gs : List Given) → T (is_sound (state_after o gs))
sound-after o gs = run-keeps-sound gs (start o) (opening-is-sound o)
