-- `CallOnlyChooses`: a tag in an action is given by the call, is one of the state, or is the least, greatest or capped of such ones, which is one of
-- them; an enclave is a participant's index or is named by a taken call, which knows it; a revision wraps below 2^64, and a taken call's generation
-- is not spent. Proved rule by rule, with what each leaves to choose from. Assumes nothing.
use Rattle.std.specs.Prelude.{None, Some, Option}
use Prim.Native.Nat.{ℕ, ◌<◌, ◌^◌}
use mathlib.Core.Path.{subst}
use mathlib.Core.Bool.{Bool, true, false, not, cond, ◌&&◌, ◌||◌}
use mathlib.Core.List.{List, [], ◌∷◌, ◌++◌}
use native.Mathlib.Nat.{mod-lt}
use lib.Dec.{T, leb, eqb, lit≤, nleb→lt, eqb→eq}
use Rattle.tags.specs.Tags.{◌≤ₜ◌, is_at_or_below, capped_by, greater_present, is_below, is_present, lesser_of_both, lesser_present, same_optional}
use Rattle.records.specs.Numbers.{next_revision}
use Rattle.rules.specs.Acquisition.{acquire_capped, acquisition_of, grant_of, granted_up_to, grants, is_grantable, nothing_new, progress_by, publication_sent_of, raised_horizon, same_publication, sent_under, stored, tag_or, worth_storing}
use Rattle.rules.specs.Actions.{CallOnlyChooses, Chosen, IfAt, IfStored, Made, Seat, Sources}
use Rattle.rules.specs.Calls.{also, call, facts, is_spent, is_taken, knows_all, own_step, take_step}
use Rattle.rules.specs.Completion.{advance_of, advance_to, all_answered, answers_probe, asks, complete_all, complete_by, complete_tag_of, finish, front_of, is_held, lags, least_completed, next_generation, noted, observed_of, probe_for, raises_to}
use Rattle.rules.specs.Demands.{Each}
use Rattle.rules.specs.Gate.{begin_tag_of, begun, input_publishing_of, may_begin, noticed}
use Rattle.rules.specs.Model.{Active, AwaitingIdleConfirmation, Call, CoordinatedTermination, CoordinationAction, CoordinationPhase, Counts, Given, HasParked, Ignored, KeepAlive, LifecyclePolicy, NoneStored, Observation, OptionalAcquisition, Parked, Parking, Participant, Probed, Probing, Rechecked, Rechecking, Refused, Resume, State, Step, Stopped, Stored, Tag, TerminateWhenIdle, Verdict, acquire, active, begin, complete, done, failed, horizon, idle, input, late, observe, observed, progress, publish, sent, stop, stopped}
use Rattle.rules.specs.Observation.{agreed, all_observed, awaits, idle_confirmation_of, lacks_authorization, observation_of, observe_by, observed_already, observes, tally, unheard, verdict_of}
use Rattle.rules.specs.Publication.{activate_of, all_published, announce, deactivated, enlist, forget, idle_probe, least_candidate, publish_by, publish_of, repeated, revise_of, store, unpublish}
use Rattle.rules.specs.Set.{with_completed, with_completion_observed, with_completion_probe, with_started}
use Rattle.rules.specs.Stop.{fail_of, stop_of}
use Rattle.rules.specs.Walk.{all, at, each, every, find, greatest_of, is, is_stopped, knows, least_of, only, outdated}
use Rattle.rules.proofs.Frame.{if-true}
use Rattle.rules.proofs.Invariants.{each-onto}
use Rattle.rules.proofs.Lists.{and_left, and_right, each-++, each_map}
use Rattle.rules.proofs.Refusal.{taken-passed}

-- ---- one of several tags

module _ (P : Tag → Type 0) where
  one_of : (b : Bool) (x y : Tag) → P x → P y → P (cond b x y)
  one_of b x y h k = if-true P b (λ u. h) (λ u. k)

  lesser-one : (m n : Option Tag) → IfAt P m → IfAt P n → IfAt P (lesser_present m n)
  lesser-one None n h k = k
  lesser-one (Some a) None h k = h
  lesser-one (Some a) (Some b) h k = one_of (a ≤ₜ b) a b h k

  greater-one : (m n : Option Tag) → IfAt P m → IfAt P n → IfAt P (greater_present m n)
  greater-one None n h k = k
  greater-one (Some a) None h k = h
  greater-one (Some a) (Some b) h k = one_of (a ≤ₜ b) b a k h

  both_one : (m n : Option Tag) → IfAt P m → IfAt P n → IfAt P (lesser_of_both m n)
  both_one None n h k = tt
  both_one (Some a) None h k = tt
  both_one (Some a) (Some b) h k = one_of (a ≤ₜ b) a b h k

  capped-one : (m : Option Tag) (t : Tag) → IfAt P m → P t → P (capped_by m t)
  capped-one None t h k = k
  capped-one (Some c) t h k = one_of (t ≤ₜ c) t c k h

  raised-one : (m : Option Tag) (t : Tag) → IfAt P m → P t → P (raised_horizon m t)
  raised-one None t h k = k
  raised-one (Some c) t h k = one_of (c ≤ₜ t) t c k h

  present-one : (m : Option Tag) (t : Tag) → IfAt P m → P t → P (tag_or t m)
  present-one None t h k = k
  present-one (Some c) t h k = h

  least-one : (f : Participant → Option Tag) (ps : List Participant) → Each (λ p. IfAt P (f p)) ps → IfAt P (least_of f ps)
  least-one f [] h = tt
  least-one f (p ∷ ps) h = lesser-one (f p) (least_of f ps) h.0 (least-one f ps h.1)

  greatest-one : (f : Participant → Option Tag) (ps : List Participant) → Each (λ p. IfAt P (f p)) ps → IfAt P (greatest_of f ps)
  greatest-one f [] h = tt
  greatest-one f (p ∷ ps) h = greater-one (f p) (greatest_of f ps) h.0 (greatest-one f ps h.1)

revision-below : (r : ℕ) → next_revision r < 2 ^ 64
revision-below r = mod-lt _ (lit≤ tt)

module _ (P : Tag → Type 0) (E : ℕ → Type 0) where
  -- ---- what a state has to choose from

  -- what each participant gives
  each-seat : (Q : Participant → Type 0) → ((p : Participant) → Seat P E p → Q p) → (s : State) → Sources P E s → Each Q s.participants
  each-seat Q f s v = each_map (Seat P E) Q f s.participants v.seats

  least-candidate : (s : State) → Sources P E s → IfAt P (least_candidate s)
  least-candidate s v = least-one P (λ p. p.candidate) s.participants (each-seat (λ p. IfAt P p.candidate) (λ p h. h.candidate) s v)

  all-completed : (s : State) → Sources P E s → Each (λ p. IfAt P p.completed) s.participants
  all-completed s v = each-seat (λ p. IfAt P p.completed) (λ p h. h.completed) s v

  least-completed : (s : State) → Sources P E s → IfAt P (least_completed s.participants)
  least-completed s v =
      if-true (IfAt P) (all (λ p. is_present p.completed) s.participants)
      (λ u. least-one P (λ p. p.completed) s.participants (all-completed s v)) (λ u. tt)

  front : (s : State) → Sources P E s → IfAt P (front_of s)
  front s v =
      both_one P (greatest_of (λ p. p.completed) s.participants) s.grant_horizon
      (greatest-one P (λ p. p.completed) s.participants (all-completed s v)) v.horizon

  -- participants changed
  abbrev Keeps : (Participant → Participant) → Type 0
  Keeps f = (p : Participant) → Seat P E p → Seat P E (f p)

  after-every : (f : Participant → Participant) → Keeps f → (s : State) → Sources P E s → Sources P E (every f s)
  after-every f k s v = record {
    seats = each-onto (Seat P E) (Seat P E) f k s.participants v.seats;
    horizon = v.horizon;
    input_horizon = v.input_horizon;
    acquisition = v.acquisition;
    revision = v.revision;
  }

  after-only : (e : ℕ) (f : Participant → Participant) → Keeps f → (s : State) → Sources P E s → Sources P E (only e f s)
  after-only e f k s v = after-every (at e f) (λ p h. if-true (Seat P E) (eqb p.index e) (λ u. k p h) (λ u. h)) s v

  revised : (s : State) → Sources P E s → Sources P E (revise_of s)
  unfolding revise_of
  revised s v =
      let w = after-every forget (λ p h. h) s v in
      record { seats = w.seats; horizon = v.horizon; input_horizon = v.input_horizon; acquisition = v.acquisition; revision = revision-below s.revision }

  -- an enclave that is known is a participant's index
  known-index : (e : ℕ) (ps : List Participant) → T (knows e ps) → Each (Seat P E) ps → E e
  known-index e [] h k = absurd h
  known-index e (p ∷ ps) h k = go (eqb p.index e) (λ u. subst E (eqb→eq p.index e u) k.0.index) (λ u. known-index e ps u k.1) h
    where
      go : (b : Bool) → (T b → E e) → (T (knows e ps) → E e) → T (b || knows e ps) → E e
      go true here later x = here tt
      go false here later x = later x

  known-all : (es : List ℕ) (ps : List Participant) → T (knows_all es ps) → Each (Seat P E) ps → Each E es
  known-all [] ps h k = tt
  known-all (e ∷ es) ps h k =
      (known-index e ps (and_left (knows e ps) (knows_all es ps) h) k, known-all es ps (and_right (knows e ps) (knows_all es ps) h) k)

  -- ---- steps

  still : (s : State) → Sources P E s → Chosen P E (record { state = s; actions = [] })
  still s v = record { actions = tt; sources = v }

  each-made : (q : Participant → Bool) (f : Participant → CoordinationAction) (ps : List Participant)
      → Each (λ p. Made P E (f p)) ps → Each (Made P E) (each q f ps)
  each-made q f [] h = tt
  each-made q f (p ∷ ps) h = if-true (Each (Made P E)) (q p) (λ u. (h.0, each-made q f ps h.1)) (λ u. each-made q f ps h.1)

  -- ---- active, stop, failed

  chosen-active : (e : ℕ) (s : State) → Sources P E s → E e → Chosen P E (activate_of e s)
  unfolding activate_of
  chosen-active e s v k =
      if-true (Chosen P E) (is_stopped s) (λ u. still (deactivated e s) calm)
      (λ u. record { actions = (record { tags = tt; enclaves = (k, tt); numbers = (w.revision, tt) }, tt); sources = w })
    where
      calm : Sources P E (deactivated e s)
      calm = after-only e unpublish (λ p h. h) s v

      w : Sources P E (revise_of (deactivated e s))
      w = revised (deactivated e s) calm

  chosen-stop : (s : State) → Sources P E s → Chosen P E (stop_of s)
  unfolding stop_of
  chosen-stop s v =
      if-true (Chosen P E) (is_stopped s) (λ u. still s v) (λ u. record { actions = (record { tags = tt; enclaves = tt; numbers = tt }, tt); sources = v })

  chosen-failed : (e : Option ℕ) (s : State) → Sources P E s → Chosen P E (fail_of e s)
  unfolding fail_of
  chosen-failed e s v =
      if-true (Chosen P E) (is_stopped s) (λ u. still s v) (λ u. record { actions = (record { tags = tt; enclaves = tt; numbers = tt }, tt); sources = v })

  -- ---- publish

  made-idle : (m : Option Tag) (l : LifecyclePolicy) (r : ℕ) → r < 2 ^ 64 → Each (Made P E) (idle_probe m l r)
  made-idle (Some t) l r h = tt
  made-idle None KeepAlive r h = tt
  made-idle None TerminateWhenIdle r h = (record { tags = tt; enclaves = tt; numbers = (h, tt) }, tt)
  made-idle None CoordinatedTermination r h = (record { tags = tt; enclaves = tt; numbers = (h, tt) }, tt)

  made-repeated : (h : CoordinationPhase) (r : ℕ) → r < 2 ^ 64 → Each (Made P E) (repeated h r)
  made-repeated Active r h = tt
  made-repeated Probing r h = (record { tags = tt; enclaves = tt; numbers = (h, tt) }, tt)
  made-repeated Parking r h = (record { tags = tt; enclaves = tt; numbers = (h, tt) }, tt)
  made-repeated Rechecking r h = (record { tags = tt; enclaves = tt; numbers = (h, tt) }, tt)
  made-repeated Parked r h = tt
  made-repeated AwaitingIdleConfirmation r h = tt
  made-repeated Stopped r h = tt

  made-resume : (b : Bool) (e r : ℕ) → E e → r < 2 ^ 64 → Each (Made P E) (cond b (Resume e r ∷ []) [])
  made-resume true e r k h = (record { tags = tt; enclaves = (k, tt); numbers = (h, tt) }, tt)
  made-resume false e r k h = tt

  chosen-announce : (e : ℕ) (b : Bool) (s : State) → Sources P E s → E e → Chosen P E (announce e b s)
  unfolding announce
  chosen-announce e b s v k = record {
    actions = (record { tags = (least-candidate s v, (v.horizon, tt)); enclaves = tt; numbers = (v.revision, tt) }, rest);
    sources = record { seats = v.seats; horizon = v.horizon; input_horizon = v.input_horizon; acquisition = tt; revision = v.revision };
  }
    where
      rest : Each (Made P E) (cond b (Resume e s.revision ∷ []) [] ++ idle_probe (least_candidate s) s.lifecycle s.revision)
      rest =
          each-++ (Made P E) (cond b (Resume e s.revision ∷ []) []) (idle_probe (least_candidate s) s.lifecycle s.revision)
          (made-resume b e s.revision k v.revision) (made-idle (least_candidate s) s.lifecycle s.revision v.revision)

  chosen-enlist : (e : ℕ) (c : Option Tag) (b : Bool) (s : State) → Sources P E s → E e → IfAt P c → Chosen P E (enlist e c b s)
  unfolding enlist
  chosen-enlist e c b s v k h = if-true (Chosen P E) (all_published m) (λ u. chosen-announce e b m w k) (λ u. still m w)
    where
      m : State
      m = only e (store c) s

      w : Sources P E m
      w = after-only e (store c) (λ p x. record { index = x.index; candidate = h; completed = x.completed }) s v

  chosen-publish_by : (e : ℕ) (c : Option Tag) (s : State) → Sources P E s → E e → IfAt P c → (o : Option Participant) → Chosen P E (publish_by e c s o)
  unfolding publish_by
  chosen-publish_by e c s v k h None = still s v
  chosen-publish_by e c s v k h (Some p) =
      if-true (Chosen P E) (same_optional p.candidate c)
      (λ u. if-true (Chosen P E) p.published (λ w. record { actions = made-repeated s.phase s.revision v.revision; sources = v })
      (λ w. chosen-enlist e c false s v k h))
      (λ u. chosen-enlist e c (not (is Active s)) (revise_of s) (revised s v) k h)

  chosen-publish : (e : ℕ) (c : Option Tag) (s : State) → Sources P E s → E e → IfAt P c → Chosen P E (publish_of e c s)
  unfolding publish_of
  chosen-publish e c s v k h = if-true (Chosen P E) (is_stopped s) (λ u. still s v) (λ u. chosen-publish_by e c s v k h (find e s.participants))

  -- ---- complete, observed, the completion step

  chosen-finish : (f : Tag) (s : State) → Sources P E s → P f → Chosen P E (finish f s)
  unfolding finish
  chosen-finish f s v h = record { actions = (record { tags = (h, tt); enclaves = tt; numbers = tt }, tt); sources = v }

  chosen-complete_all : (m : Option Tag) (s : State) → Sources P E s → IfAt P m → Chosen P E (complete_all m s)
  unfolding complete_all
  chosen-complete_all None s v h = still s v
  chosen-complete_all (Some m) s v h = if-true (Chosen P E) (is_below s.completed_frontier m) (λ u. chosen-finish m s v h) (λ u. still s v)

  chosen-complete_by : (e : ℕ) (t : Tag) (n : Bool) (s : State) → Sources P E s → P t → (o : Option Participant) → Chosen P E (complete_by e t n s o)
  unfolding complete_by
  chosen-complete_by e t n s v h None = still s v
  chosen-complete_by e t n s v h (Some p) =
      if-true (Chosen P E) (is_below p.completed t) (λ u. chosen-complete_all (least_completed m.participants) m w (least-completed m w)) (λ u. still s v)
    where
      m : State
      m = noted e t n s

      w : Sources P E m
      w = after-only e (with_completed (Some t)) (λ p x. record { index = x.index; candidate = x.candidate; completed = h }) s v

  chosen-complete : (e : ℕ) (t : Tag) (n : Bool) (s : State) → Sources P E s → P t → Chosen P E (complete_tag_of e t n s)
  unfolding complete_tag_of
  chosen-complete e t n s v h = if-true (Chosen P E) (is_stopped s) (λ u. still s v) (λ u. chosen-complete_by e t n s v h (find e s.participants))

  chosen-observed : (e g : ℕ) (s : State) → Sources P E s → Chosen P E (observed_of e g s)
  unfolding observed_of
  chosen-observed e g s v =
      if-true (Chosen P E) (answers_probe g s) (λ u. still _ (after-only e (with_completion_observed (Some g)) (λ p h. h) s v)) (λ u. still s v)

  chosen-advance_to : (m : Option Tag) (s : State) → Sources P E s → IfAt P m
      → T (not (raises_to m s && leb (2 ^ 64) (next_generation s.completion_generation))) → Chosen P E (advance_to m s)
  unfolding advance_to probe_for
  chosen-advance_to None s v h k = still s v
  chosen-advance_to (Some f) s v h k =
      if-true (Chosen P E) (is_held f s) (λ u. still (with_completion_probe None s) v)
      (λ u. if-true (Chosen P E) (same_optional s.completion_probe (Some f))
      (λ w. if-true (Chosen P E) (all_answered f s) (λ x. chosen-finish f (with_completion_probe None s) v h) (λ x. still s v))
      (λ w. record { actions = each-made (lags f) (asks g) s.participants (asked (below u w)); sources = v }))
    where
      g : ℕ
      g = next_generation s.completion_generation

      third : (a b c : Bool) → T (not a) → T (not b) → T (not ((not a && not b) && c)) → T (not c)
      third true b c x y z = absurd x
      third false true c x y z = absurd y
      third false false c x y z = z

      below : T (not (is_held f s)) → T (not (same_optional s.completion_probe (Some f))) → g < 2 ^ 64
      below u w = nleb→lt (2 ^ 64) g (third (is_held f s) (same_optional s.completion_probe (Some f)) (leb (2 ^ 64) g) u w k)

      asked : g < 2 ^ 64 → Each (λ p. Made P E (asks g p)) s.participants
      asked l = each-seat (λ p. Made P E (asks g p)) (λ p x. record { tags = tt; enclaves = (x.index, tt); numbers = (l, tt) }) s v

  chosen-advance : (s : State) → Sources P E s → T (not (is_spent s)) → Chosen P E (advance_of s)
  unfolding advance_of
  chosen-advance s v k =
      if-true (Chosen P E) (is_stopped s) (λ u. still s v)
      (λ u. chosen-advance_to (front_of s) s v (front s v)
      (second (is_stopped s) (raises_to (front_of s) s) (leb (2 ^ 64) (next_generation s.completion_generation)) u k))
    where
      second : (a b c : Bool) → T (not a) → T (not ((not a && b) && c)) → T (not (b && c))
      second true b c x y = absurd x
      second false b c x y = y

  -- ---- acquisition, publication sent, input_progress

  chosen-grant : (t : Tag) (s : State) → Sources P E s → P t → Chosen P E (grant_of t s)
  unfolding grant_of
  chosen-grant t s v h = record {
    actions = (record { tags = (raised, tt); enclaves = tt; numbers = tt }, each-made (is_grantable t) (grants t) s.participants granted);
    sources = record {
      seats = (after-every (granted_up_to t) (λ p x. x) s v).seats;
      horizon = raised;
      input_horizon = v.input_horizon;
      acquisition = v.acquisition;
      revision = v.revision;
    };
  }
    where
      raised : P (raised_horizon s.grant_horizon t)
      raised = raised-one P s.grant_horizon t v.horizon h

      granted : Each (λ p. Made P E (grants t p)) s.participants
      granted =
          each-seat (λ p. Made P E (grants t p))
          (λ p x. record { tags = (present-one P p.candidate t x.candidate h, tt); enclaves = (x.index, tt); numbers = tt }) s v

  chosen-capped : (t : Tag) (s : State) → Sources P E s → P t → Chosen P E (acquire_capped t s)
  unfolding acquire_capped
  chosen-capped t s v h = if-true (Chosen P E) (nothing_new t s) (λ u. still s v) (λ u. chosen-grant t s v h)

  chosen-acquire : (r : ℕ) (t : Tag) (s : State) → Sources P E s → P t → Chosen P E (acquisition_of r t s)
  unfolding acquisition_of
  chosen-acquire r t s v h =
      if-true (Chosen P E) (outdated r s) (λ u. still s v)
      (λ u. chosen-capped (capped_by s.input_horizon t) (stored r t s) kept (capped-one P s.input_horizon t v.input_horizon h))
    where
      kept : Sources P E (stored r t s)
      kept =
          if-true (Sources P E) (worth_storing r t s)
          (λ u. record { seats = v.seats; horizon = v.horizon; input_horizon = v.input_horizon; acquisition = h; revision = v.revision }) (λ u. v)

  chosen-sent_under : (m : Option Tag) (r : ℕ) (n : Option Tag) (s : State) → Sources P E s → IfAt P m → Chosen P E (sent_under m r n s)
  unfolding sent_under
  chosen-sent_under None r n s v h = still s v
  chosen-sent_under (Some t) r n s v h = if-true (Chosen P E) (is_at_or_below n t) (λ u. chosen-acquire r t s v h) (λ u. still s v)

  chosen-sent : (r : ℕ) (n m : Option Tag) (s : State) → Sources P E s → Chosen P E (publication_sent_of r n m s)
  unfolding publication_sent_of
  chosen-sent r n m s v =
      if-true (Chosen P E) (same_publication s.pending_publication r n m) (λ u. chosen-sent_under s.grant_horizon r n s v v.horizon) (λ u. still s v)

  chosen-progress : (a : OptionalAcquisition) (s : State) → Sources P E s → IfStored P a → Chosen P E (progress_by a s)
  unfolding progress_by
  chosen-progress NoneStored s v h = still s v
  chosen-progress (Stored r t) s v h = chosen-acquire r t s v h

  -- ---- observation, idle confirmation

  chosen-agreed : (o : Observation) (s : State) → Sources P E s → Chosen P E (agreed o s)
  unfolding agreed
  chosen-agreed Probed s v = record { actions = (record { tags = tt; enclaves = tt; numbers = (v.revision, tt) }, tt); sources = v }
  chosen-agreed HasParked s v = record { actions = (record { tags = tt; enclaves = tt; numbers = (v.revision, tt) }, tt); sources = v }
  chosen-agreed Rechecked s v = if-true (Chosen P E) (lacks_authorization s) (λ u. still _ v) (λ u. chosen-stop s v)

  chosen-tally : (o : Observation) (s : State) → Sources P E s → Chosen P E (tally o s)
  unfolding tally
  chosen-tally o s v = if-true (Chosen P E) (all_observed o s) (λ u. chosen-agreed o (every forget s) (after-every forget (λ p h. h) s v)) (λ u. still s v)

  chosen-observe_by : (a : Verdict) (e : ℕ) (o : Observation) (s : State) → Sources P E s → Chosen P E (observe_by a e o s)
  unfolding observe_by
  chosen-observe_by Counts e o s v =
      if-true (Chosen P E) (observed_already e o s) (λ u. still s v) (λ u. chosen-tally o (only e (observes o) s) (after-only e (observes o) (λ p h. h) s v))
  chosen-observe_by Ignored e o s v = still s v
  chosen-observe_by Refused e o s v = still s v

  chosen-observe : (e r : ℕ) (o : Observation) (s : State) → Sources P E s → Chosen P E (observation_of e r o s)
  unfolding observation_of
  chosen-observe e r o s v = if-true (Chosen P E) (unheard r s) (λ u. still s v) (λ u. chosen-observe_by (verdict_of s.phase o) e o s v)

  chosen-idle : (r : ℕ) (s : State) → Sources P E s → Chosen P E (idle_confirmation_of r s)
  unfolding idle_confirmation_of
  chosen-idle r s v =
      if-true (Chosen P E) (awaits r s)
      (λ u. record {
        actions = (record { tags = tt; enclaves = tt; numbers = (revision-below s.revision, tt) }, tt);
        sources = record {
          seats = v.seats;
          horizon = v.horizon;
          input_horizon = v.input_horizon;
          acquisition = v.acquisition;
          revision = revision-below s.revision;
        };
      }) (λ u. still s v)

  -- ---- the gate

  chosen-input : (es : List ℕ) (s : State) → Sources P E s → Chosen P E (input_publishing_of es s)
  unfolding input_publishing_of
  chosen-input es s v =
      let w = after-every (noticed es) (λ p h. h) (revise_of s) (revised s v) in
      still _ (record { seats = w.seats; horizon = w.horizon; input_horizon = w.input_horizon; acquisition = tt; revision = w.revision })

  begun-sources : (m : Option Tag) (e : ℕ) (t : Tag) (s : State) → Sources P E s → Sources P E (begun m e t s)
  begun-sources None e t s v = v
  begun-sources (Some c) e t s v = after-only e (with_started (Some t)) (λ p h. h) s v

  chosen-begin : (e : ℕ) (t : Tag) (s : State) → Sources P E s → Chosen P E (begin_tag_of e t s)
  unfolding begin_tag_of
  chosen-begin e t s v = if-true (Chosen P E) (may_begin s.input_horizon e t s) (λ u. still _ (begun-sources s.input_horizon e t s v)) (λ u. still s v)

  -- ---- any call

  -- the tag of a call that gives one
  given : (m : Option Tag) → Each (IfAt P) (m ∷ []) → IfAt P m
  given m h = h.0

  chosen-own : (c : Call) (s : State) → Sources P E s → Each (IfAt P) (facts c).tags → Each E (facts c).names → Chosen P E (own_step c s)
  unfolding own_step
  chosen-own (active e) s v h k = chosen-active e s v k.0
  chosen-own (publish e c) s v h k = chosen-publish e c s v k.0 (given c h)
  chosen-own (complete e t n) s v h k = chosen-complete e t n s v (given (Some t) h)
  chosen-own (observed e g) s v h k = chosen-observed e g s v
  chosen-own (stopped e) s v h k = chosen-stop s v
  chosen-own (failed e) s v h k = chosen-failed e s v
  chosen-own (acquire r t) s v h k = chosen-acquire r t s v (given (Some t) h)
  chosen-own (sent r n m) s v h k = chosen-sent r n m s v
  chosen-own (observe e r o) s v h k = chosen-observe e r o s v
  chosen-own (idle r) s v h k = chosen-idle r s v
  chosen-own stop s v h k = chosen-stop s v
  chosen-own progress s v h k = chosen-progress s.input_acquisition s v v.acquisition
  chosen-own (horizon t) s v h k =
      still _ (record { seats = v.seats; horizon = v.horizon; input_horizon = given t h; acquisition = v.acquisition; revision = v.revision })
  chosen-own (begin e t) s v h k = chosen-begin e t s v
  chosen-own (late e t) s v h k = still s v
  chosen-own (done e t) s v h k = still s v
  chosen-own (input es) s v h k = chosen-input es s v

  chosen-also : (a b : Step) → Chosen P E a → Chosen P E b → Chosen P E (also a b)
  chosen-also a b h k = record { actions = each-++ (Made P E) a.actions b.actions h.actions k.actions; sources = k.sources }

  chosen-take : (c : Call) (s : State) → Sources P E s → Each (IfAt P) (facts c).tags → Each E (facts c).names
      → T (not ((facts c).message && is_spent (own_step c s).state)) → Chosen P E (take_step c s)
  unfolding take_step
  chosen-take c s v h k n =
      if-true (Chosen P E) (facts c).message
      (λ u. chosen-also a (advance_of a.state) own (chosen-advance a.state own.sources (message (facts c).message (is_spent a.state) u n))) (λ u. own)
    where
      a : Step
      a = own_step c s

      own : Chosen P E a
      own = chosen-own c s v h k

      message : (b d : Bool) → T b → T (not (b && d)) → T (not d)
      message true d x y = y
      message false d x y = absurd x

-- a taken call's step
pub taken-only-chooses : (P : Tag → Type 0) (E : ℕ → Type 0) (g : Given) (s : State) → Sources P E s → Each (IfAt P) (facts g.what).tags
    → T (is_taken g s) → Chosen P E (take_step g.what s)
taken-only-chooses P E g s v h u =
    let w = taken-passed g s u in
    chosen-take P E g.what s v h (known-all P E (facts g.what).names s.participants w.known v.seats) w.unspent

pub call-only-chooses : CallOnlyChooses
unfolding call
call-only-chooses P E g s v h = if-true (Chosen P E) (is_taken g s) (λ u. taken-only-chooses P E g s v h u) (λ u. still P E s v)
