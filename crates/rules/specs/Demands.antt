-- What is promised of any run of calls: the user's demand 3, and what the room demanded by refusal 8 rests on. A run starts at an opening and
-- takes any list of calls with any room, refused ones among them. Only statements stand here; proofs/ has a proof of each, named at its end.
use Rattle.std.specs.Prelude.{◌≡◌, ◌⊎◌, Bool, not, cond, ◌&&◌, List, [], ◌∷◌, ◌++◌, map, ℕ, ◌*◌, ◌≤◌, T, eqb, length, None, Option, Some}
use Rattle.tags.specs.Tags.{is_below, has_reached, is_at_or_below}
use Rattle.rules.specs.Model.{Tag, LifecyclePolicy, Observation, Participant, CoordinationAction, Publish, AdvanceHorizon, Grant, Complete, CompletionProbe, Probe, Park, Recheck, Resume, Stop, Abort, State, Step, Call, Given, observed, acquire, observe}
use Rattle.rules.specs.Walk.{quiet}
use Rattle.rules.specs.Opening.{opening_refusal, opened}
use Rattle.rules.specs.Completion.{complete_of}
use Rattle.rules.specs.Calls.{is_taken, is_sound, refusal, call, room_for, run_calls}

-- P of every element
abbrev pub Each {ℓ} : {A : Type ℓ} → (A → Type 0) → List A → Type 0
Each P [] = Unit {0}
Each P (x ∷ xs) = P x × Each P xs

-- an opening that is not refused
pub record Opening : Type 0 where
  pub enclaves : List ℕ
  pub policy : LifecyclePolicy
  pub revision : ℕ
  pub generation : ℕ
  pub accepted : opening_refusal enclaves ≡ 0

abbrev pub start : Opening → State
start o = opened o.enclaves o.policy o.revision o.generation

-- the state after these calls
abbrev pub state_after : Opening → List Given → State
state_after o gs = (run_calls gs (start o)).state

-- ---- 1. "Complete tags strictly increase."

abbrev pub complete_tag : CoordinationAction → List Tag
complete_tag (Publish p) = []
complete_tag (AdvanceHorizon t) = []
complete_tag (Grant e t) = []
complete_tag (Complete c) = c.completed ∷ []
complete_tag (CompletionProbe e g) = []
complete_tag (Probe r) = []
complete_tag (Park r) = []
complete_tag (Recheck r) = []
complete_tag (Resume e r) = []
complete_tag Stop = []
complete_tag Abort = []

-- the tags of the Complete actions, in order
abbrev pub completes : List CoordinationAction → List Tag
completes [] = []
completes (a ∷ acts) = complete_tag a ++ completes acts

-- each is above the tag before it, the first above m
abbrev pub Increasing : Option Tag → List Tag → Type 0
Increasing m [] = Unit {0}
Increasing m (t ∷ ts) = T (is_below m t) × Increasing (Some t) ts

abbrev pub CompletesIncrease : Type 0
CompletesIncrease = (o : Opening) (gs : List Given) → Increasing None (completes (run_calls gs (start o)).actions)

-- the same from any state, with its frontier as the tag to exceed
abbrev pub CompletesExceedFrontier : Type 0
CompletesExceedFrontier = (gs : List Given) (s : State) → Increasing s.completed_frontier (completes (run_calls gs s).actions)

-- ---- 2. "Complete of f comes only when each enclave has completed f or later, or stands published with no candidate at or below f and has
-- ---- acknowledged the probe being answered."

-- at entry, in s, the probe for f was out; the enclave stands published, with no candidate at or below f, and has acknowledged that probe
pub record Stands (s : State) (f : Tag) (p : Participant) : Type 0 where
  pub probed : s.completion_probe ≡ Some f
  pub published : T p.published
  pub beyond : T (not (is_at_or_below p.candidate f))
  pub acknowledged : p.completion_observed ≡ Some s.completion_generation

-- the call c, in s, is enclave e's acknowledgement of generation n, while the probe for f is out
pub record Acknowledges (f : Tag) (c : Call) (s : State) (e n : ℕ) : Type 0 where
  pub says : c ≡ observed e n
  pub out : s.completion_probe ≡ Some f
  pub current : n ≡ s.completion_generation

-- some call of the run from s was taken and was that
abbrev pub Heard : Tag → List Given → State → ℕ → ℕ → Type 0
Heard f [] s e n = ⊥
Heard f (g ∷ gs) s e n = (T (is_taken g s) × Acknowledges f g.what s e n) ⊎ Heard f gs (call g s).step.state e n

-- the ground of a Complete of f in the call `now` after the calls `before`: enclave p has completed f, or it stands there and was heard
abbrev pub Grounded : Opening → List Given → Given → Tag → Participant → Type 0
Grounded o before now f p =
    T (has_reached p.completed f) ⊎
    (Stands (state_after o before) f p × Heard f (before ++ now ∷ []) (start o) p.index (state_after o before).completion_generation)

abbrev pub CompleteIsGrounded : Type 0
CompleteIsGrounded =
    (o : Opening) (before : List Given) (now : Given) →
    Each (λ f. Each (Grounded o before now f) (call now (state_after o before)).step.state.participants)
    (completes (call now (state_after o before)).step.actions)

-- ---- 3. "A probe for f names at least one enclave; if from then on only acknowledgements and stale acquisitions or observations come, Complete
-- ---- of f comes in the very accepted call that brings the last missing acknowledgement, and not before."

abbrev pub probe_name : CoordinationAction → List ℕ
probe_name (Publish p) = []
probe_name (AdvanceHorizon t) = []
probe_name (Grant e t) = []
probe_name (Complete c) = []
probe_name (CompletionProbe e g) = e ∷ []
probe_name (Probe r) = []
probe_name (Park r) = []
probe_name (Recheck r) = []
probe_name (Resume e r) = []
probe_name Stop = []
probe_name Abort = []

-- the enclaves that completion probes name
abbrev pub named : List CoordinationAction → List ℕ
named [] = []
named (a ∷ acts) = probe_name a ++ named acts

abbrev pub NonEmpty : List ℕ → Type 0
NonEmpty [] = ⊥
NonEmpty (e ∷ es) = Unit {0}

-- what may come: acknowledgements of any enclave and generation, and acquisitions and observations
pub data Late : Type 0 where
  acknowledgement : ℕ → ℕ → Late
  acquisition : ℕ → Tag → Late
  observation : ℕ → ℕ → Observation → Late

abbrev pub as_call : Late → Call
as_call (acknowledgement e n) = observed e n
as_call (acquisition r t) = acquire r t
as_call (observation e r o) = observe e r o

-- stale: of another revision than r
abbrev pub Stale : ℕ → Late → Type 0
Stale r (acknowledgement e n) = Unit {0}
Stale r (acquisition q t) = T (not (eqb q r))
Stale r (observation e q o) = T (not (eqb q r))

-- with any room
pub record LateGiven : Type 0 where
  pub room : ℕ
  pub late : Late

abbrev pub given : LateGiven → Given
given x = record { room = x.room; what = as_call x.late }

abbrev pub remove : ℕ → List ℕ → List ℕ
remove e [] = []
remove e (x ∷ xs) = cond (eqb x e) (remove e xs) (x ∷ remove e xs)

-- whose acknowledgement is missing after a call that was taken or not: one of the current generation counts, if taken
abbrev pub still_missing : Bool → Late → ℕ → List ℕ → List ℕ
still_missing was_taken (acknowledgement e n) g ms = cond (was_taken && eqb n g) (remove e ms) ms
still_missing was_taken (acquisition r t) g ms = ms
still_missing was_taken (observation e r o) g ms = ms

abbrev pub IfNone : List ℕ → Type 0 → Type 0 → Type 0
IfNone [] A B = A
IfNone (m ∷ ms) A B = B

-- as the calls xs come in s, with ms missing: the call after which none is missing gives exactly Complete of f, each call before it nothing
abbrev pub Course : Tag → List ℕ → List LateGiven → State → Type 0
Course f ms [] s = Unit {0}
Course f ms (x ∷ xs) s =
    IfNone (still_missing (is_taken (given x) s) x.late s.completion_generation ms)
    ((call (given x) s).step.actions ≡ complete_of f s ∷ [])
    (((call (given x) s).step.actions ≡ []) ×
    Course f (still_missing (is_taken (given x) s) x.late s.completion_generation ms) xs (call (given x) s).step.state)

-- a step with completion probes: they are for one tag f, name someone, and are answered as said, those named missing at first
pub record Answered (step : Step) : Type 0 where
  pub for : Tag
  pub probe : step.state.completion_probe ≡ Some for
  pub names : NonEmpty (named step.actions)
  pub course : (xs : List LateGiven) → Each (λ x. Stale step.state.revision x.late) xs → Course for (named step.actions) xs step.state

-- a call names nobody in a completion probe, or its probe is answered; a raised generation is a probe
abbrev pub ProbeIsAnswered : Type 0
ProbeIsAnswered =
    (o : Opening) (before : List Given) (now : Given) →
    ((named (call now (state_after o before)).step.actions ≡ []) ×
    ((call now (state_after o before)).step.state.completion_generation ≡ (state_after o before).completion_generation)) ⊎
    Answered (call now (state_after o before)).step

-- ---- 4. refusals and room

abbrev pub RefusalKeepsState : Type 0
RefusalKeepsState = (g : Given) (s : State) → (refusal g s ≡ 0 → ⊥) → (call g s).step ≡ quiet s

-- at most participants + 2 actions, from any state whatever: the room demanded suffices
abbrev pub CallFitsRoom : Type 0
CallFitsRoom = (g : Given) (s : State) → 56 * length (call g s).step.actions ≤ room_for s

-- ---- 5. what holds in every state reached from an opening

-- where all enclaves have completed f or later, so has the frontier
abbrev pub FrontierCovers : State → Type 0
FrontierCovers s = (f : Tag) → Each (λ p. T (has_reached p.completed f)) s.participants → T (has_reached s.completed_frontier f)

abbrev pub UpTo : Option ℕ → ℕ → Type 0
UpTo None g = Unit {0}
UpTo (Some n) g = n ≤ g

-- no acknowledgement is above the generation
abbrev pub NoneAhead : State → Type 0
NoneAhead s = Each (λ p. UpTo p.completion_observed s.completion_generation) s.participants

-- both; with no name of its own it is the same type at two states that differ in other fields alone
abbrev pub Consistent : State → Type 0
Consistent s = record { covers : FrontierCovers s; ahead : NoneAhead s }

abbrev pub OpeningIsConsistent : Type 0
OpeningIsConsistent = (o : Opening) → Consistent (start o)

abbrev pub CallKeepsConsistent : Type 0
CallKeepsConsistent = (g : Given) (s : State) → Consistent s → Consistent (call g s).step.state

-- no state reached from an opening is refused 27
abbrev pub OpeningIsSound : Type 0
OpeningIsSound = (o : Opening) → T (is_sound (start o))

abbrev pub CallKeepsSound : Type 0
CallKeepsSound = (g : Given) (s : State) → T (is_sound s) → T (is_sound (call g s).step.state)

-- ---- 6. what the state held rests on: no call changes who takes part, and one tag, or none, is granted to all ("every enclave's granted tag is this
-- ---- capped tag"; an input notice "drops .. all granted tags")

abbrev pub enclaves_of : State → List ℕ
enclaves_of s = map (λ p. p.index) s.participants

-- with the participants as its argument it is the same type at two states that differ in other fields alone
pub record Together (ps : List Participant) : Type 0 where
  pub tag : Option Tag
  pub all : Each (λ p. p.granted ≡ tag) ps

abbrev pub OpeningIsTogether : Type 0
OpeningIsTogether = (o : Opening) → Together (start o).participants

abbrev pub CallKeepsTogether : Type 0
CallKeepsTogether = (g : Given) (s : State) → Together s.participants → Together (call g s).step.state.participants

abbrev pub CallKeepsEnclaves : Type 0
CallKeepsEnclaves = (g : Given) (s : State) → enclaves_of (call g s).step.state ≡ enclaves_of s
