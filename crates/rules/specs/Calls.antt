-- What each call is, its refusals in document 01's order ("Ceilings and refusals"), and a run of calls. Assumes nothing.
use Rattle.records.specs.declared.FederatePublication.{FederatePublication}
use Rattle.std.specs.Prelude.{ℕ, ◌+◌, ◌*◌, ◌^◌, Bool, true, false, not, cond, ◌&&◌, List, [], ◌∷◌, ◌++◌, leb, ltb, eqb, length, None, Option, Some}
use Rattle.tags.specs.Tags.{is_proper, proper_if_present}
use Rattle.rules.specs.Model.{Tag, OptionalAcquisition, NoneStored, Stored, OptionalInputs, NoInputs, Inputs, Observation, Participant, State, Step, Call, active, stopped, publish, complete, observed, failed, acquire, sent, observe, idle, stop, progress, horizon, begin, late, done, input, Result, Given}
use Rattle.rules.specs.Set.{with_input_horizon}
use Rattle.rules.specs.Walk.{all, knows, quiet}
use Rattle.rules.specs.Publication.{activate_of, publish_of}
use Rattle.rules.specs.Completion.{complete_tag_of, observed_of, next_generation, advance_of, raises}
use Rattle.rules.specs.Stop.{stop_of, fail_of}
use Rattle.rules.specs.Acquisition.{acquisition_of, publication_sent_of, progress_by}
use Rattle.rules.specs.Observation.{verdict_of, is_refused, unheard, observation_of, idle_confirmation_of}
use Rattle.rules.specs.Gate.{input_publishing_of, may_begin, begin_tag_of, is_late, is_completed}

-- ---- what a call is: whether it is a scheduler message, whether it takes room, the tags that it gives, the enclaves that it names,
-- ---- when its observation is refused, what it answers

pub record Facts : Type 0 where
  pub message : Bool
  pub takes_room : Bool
  pub tags : List (Option Tag)
  pub names : List ℕ
  pub wrong_in : State → Bool
  pub answer : State → Option Bool

abbrev pub plain : Bool → Bool → List (Option Tag) → List ℕ → Facts
plain m r ts es = record { message = m; takes_room = r; tags = ts; names = es; wrong_in = λ s. false; answer = λ s. None }

abbrev pub says : Bool → Option Bool
says true = (Some true)
says false = (Some false)

-- begin, late and done: no message, no room, one tag, never 3
abbrev pub question : Tag → (State → Bool) → Facts
question t q = record { message = false; takes_room = false; tags = Some t ∷ []; names = []; wrong_in = λ s. false; answer = λ s. says (q s) }

abbrev pub observing : ℕ → ℕ → Observation → Facts
observing e r o = record {
  message = false;
  takes_room = true;
  tags = [];
  names = e ∷ [];
  wrong_in = λ s. not (unheard r s) && is_refused (verdict_of s.phase o);
  answer = λ s. None;
}

abbrev pub someone : Option ℕ → List ℕ
someone None = []
someone (Some e) = e ∷ []

--                              message room
abbrev pub facts : Call → Facts
facts (active e) = plain true true [] (e ∷ [])
facts (publish e c) = plain true true (c ∷ []) (e ∷ [])
facts (complete e t n) = plain true true (Some t ∷ []) (e ∷ [])
facts (observed e g) = plain true true [] (e ∷ [])
facts (stopped e) = plain true true [] (e ∷ [])
facts (failed e) = plain true true [] (someone e)
facts (acquire r t) = plain false true (Some t ∷ []) []
facts (sent r n h) = plain false true (n ∷ h ∷ []) []
facts (observe e r o) = observing e r o
facts (idle r) = plain false true [] []
facts stop = plain false true [] []
facts progress = plain false true [] []
facts (horizon t) = plain false false (t ∷ []) []
facts (begin e t) = question t (λ s. may_begin s.input_horizon e t s)
facts (late e t) = question t (is_late e t)
facts (done e t) = question t (is_completed e t)
facts (input es) = plain false false [] es

-- ---- the rule of each call, before the completion step

unfoldable pub own_step : Call → State → Step
own_step (active e) s = activate_of e s
own_step (publish e c) s = publish_of e c s
own_step (complete e t n) s = complete_tag_of e t n s
own_step (observed e g) s = observed_of e g s
own_step (stopped e) s = stop_of s
own_step (failed e) s = fail_of e s
own_step (acquire r t) s = acquisition_of r t s
own_step (sent r n h) s = publication_sent_of r n h s
own_step (observe e r o) s = observation_of e r o s
own_step (idle r) s = idle_confirmation_of r s
own_step stop s = stop_of s
own_step progress s = progress_by s.input_acquisition s
own_step (horizon t) s = quiet (with_input_horizon t s)
own_step (begin e t) s = begin_tag_of e t s
own_step (late e t) s = quiet s
own_step (done e t) s = quiet s
own_step (input es) s = input_publishing_of es s

abbrev pub also : Step → Step → Step
also a b = record { state = b.state; actions = a.actions ++ b.actions }

abbrev pub then_advance : Step → Step
then_advance a = also a (advance_of a.state)

-- "After every taken scheduler message"
unfoldable pub take_step : Call → State → Step
take_step c s = cond (facts c).message (then_advance (own_step c s)) (own_step c s)

-- ---- 27: "a call's state has no participant or over 32, an index over 4,095, indices not strictly ascending, or a tag not proper"

abbrev pub ascending : List Participant → Bool
ascending [] = true
ascending (p ∷ []) = true
ascending (p ∷ q ∷ ps) = ltb p.index q.index && ascending (q ∷ ps)

abbrev pub proper_participant : Participant → Bool
proper_participant p =
    leb p.index 4095 && proper_if_present p.candidate && proper_if_present p.completed && proper_if_present p.granted && proper_if_present p.started

abbrev pub proper_publication : Option FederatePublication → Bool
proper_publication None = true
proper_publication (Some p) = proper_if_present p.next_event && proper_if_present p.grant_horizon

abbrev pub proper_inputs : OptionalInputs → Bool
proper_inputs NoInputs = true
proper_inputs (Inputs first last) = is_proper first && is_proper last

abbrev pub proper_acquisition : OptionalAcquisition → Bool
proper_acquisition NoneStored = true
proper_acquisition (Stored r t) = is_proper t

unfoldable pub is_sound : State → Bool
is_sound s =
    ltb 0 (length s.participants) && leb (length s.participants) 32 && ascending s.participants &&
    all proper_participant s.participants && proper_if_present s.grant_horizon && proper_if_present s.completed_frontier &&
    proper_if_present s.completion_probe && proper_if_present s.input_horizon && proper_publication s.pending_publication &&
    proper_inputs s.pending_inputs && proper_acquisition s.input_acquisition

-- ---- 8, 7, 3, 9

-- "56 x (participants + 2) bytes"
abbrev pub room_for : State → ℕ
room_for s = 56 * (length s.participants + 2)

abbrev pub all_proper : List (Option Tag) → Bool
all_proper [] = true
all_proper (t ∷ ts) = proper_if_present t && all_proper ts

abbrev pub knows_all : List ℕ → List Participant → Bool
knows_all [] ps = true
knows_all (e ∷ es) ps = knows e ps && knows_all es ps

-- "the call would raise the generation past 2^64 - 1"
abbrev pub is_spent : State → Bool
is_spent s = raises s && leb (2 ^ 64) (next_generation s.completion_generation)

-- "Calls: 27, 8, 7, 3, 4, 9."
unfoldable pub refusal : Given → State → ℕ
refusal g s =
    cond (not (is_sound s)) 27
    (cond ((facts g.what).takes_room && ltb g.room (room_for s)) 8
    (cond (not (all_proper (facts g.what).tags)) 7
    (cond (not (knows_all (facts g.what).names s.participants)) 3
    (cond ((facts g.what).wrong_in s) 4
    (cond ((facts g.what).message && is_spent (own_step g.what s).state) 9 0)))))

-- ---- a call, and a run of calls

abbrev pub is_taken : Given → State → Bool
is_taken g s = eqb (refusal g s) 0

-- a refusal answers no where the call answers
abbrev pub refused_answer : Option Bool → Option Bool
refused_answer None = None
refused_answer (Some false) = (Some false)
refused_answer (Some true) = (Some false)

-- "A refusal returns the entry state, zero actions, the answer no"
unfoldable pub call : Given → State → Result
call g s = record {
  refusal = refusal g s;
  answer = cond (is_taken g s) ((facts g.what).answer s) (refused_answer ((facts g.what).answer s));
  step = cond (is_taken g s) (take_step g.what s) (quiet s);
}

unfoldable pub run_calls : List Given → State → Step
run_calls [] s = quiet s
run_calls (g ∷ gs) s = also (call g s).step (run_calls gs (call g s).step.state)
