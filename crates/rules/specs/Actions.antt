-- What the actions of a call carry. The rules make no tag and no enclave, they choose among those of the state and of the call; so a call's actions
-- can be written where its state and its arguments can (document 01, "Action record"). Only statements stand here; proofs/Actions.antt proves them.
-- Assumes nothing.
use Rattle.std.specs.Prelude.{ℕ, ◌<◌, ◌^◌, List, [], ◌∷◌, None, Option, Some}
use Rattle.rules.specs.Model.{Tag, OptionalAcquisition, NoneStored, Stored, Participant, CoordinationAction, Publish, AdvanceHorizon, Grant, Complete, CompletionProbe, Probe, Park, Recheck, Resume, Stop, Abort, State, Step, Given}
use Rattle.rules.specs.Calls.{facts, call}
use Rattle.rules.specs.Demands.{Each}

-- ---- an action

-- the tags, the enclaves and the revisions or generations in an action
pub record Contents : Type 0 where
  pub tags : List (Option Tag)
  pub enclaves : List ℕ
  pub numbers : List ℕ

abbrev pub contents : List (Option Tag) → List ℕ → List ℕ → Contents
contents ts es ns = record { tags = ts; enclaves = es; numbers = ns }

abbrev pub contents_of : CoordinationAction → Contents
contents_of (Publish p) = contents (p.next_event ∷ p.grant_horizon ∷ []) [] (p.revision ∷ [])
contents_of (AdvanceHorizon t) = contents (Some t ∷ []) [] []
contents_of (Grant e t) = contents (Some t ∷ []) (e ∷ []) []
contents_of (Complete c) = contents (Some c.completed ∷ []) [] []
contents_of (CompletionProbe e g) = contents [] (e ∷ []) (g ∷ [])
contents_of (Probe r) = contents [] [] (r ∷ [])
contents_of (Park r) = contents [] [] (r ∷ [])
contents_of (Recheck r) = contents [] [] (r ∷ [])
contents_of (Resume e r) = contents [] (e ∷ []) (r ∷ [])
contents_of Stop = contents [] [] []
contents_of Abort = contents [] [] []

-- P of the tag, where there is one
abbrev pub IfAt : (Tag → Type 0) → Option Tag → Type 0
IfAt P None = Unit {0}
IfAt P (Some t) = P t

abbrev pub IfStored : (Tag → Type 0) → OptionalAcquisition → Type 0
IfStored P NoneStored = Unit {0}
IfStored P (Stored r t) = P t

-- P of an action's tags, E of its enclaves, and its numbers are below 2^64
pub record Made (P : Tag → Type 0) (E : ℕ → Type 0) (a : CoordinationAction) : Type 0 where
  pub tags : Each (IfAt P) (contents_of a).tags
  pub enclaves : Each E (contents_of a).enclaves
  pub numbers : Each (λ n. n < 2 ^ 64) (contents_of a).numbers

-- ---- what a state has to choose from; with no names of their own these are the same types at two states that differ in other fields alone

abbrev pub Seat : (Tag → Type 0) → (ℕ → Type 0) → Participant → Type 0
Seat P E p = record { index : E p.index; candidate : IfAt P p.candidate; completed : IfAt P p.completed }

abbrev pub Sources : (Tag → Type 0) → (ℕ → Type 0) → State → Type 0
Sources P E s = record {
  seats : Each (Seat P E) s.participants;
  horizon : IfAt P s.grant_horizon;
  input_horizon : IfAt P s.input_horizon;
  acquisition : IfStored P s.input_acquisition;
  revision : s.revision < 2 ^ 64;
}

-- a step whose actions are of such contents, and which leaves no other to choose from
pub record Chosen (P : Tag → Type 0) (E : ℕ → Type 0) (o : Step) : Type 0 where
  pub actions : Each (Made P E) o.actions
  pub sources : Sources P E o.state

-- whatever holds of the tags and indices of a state and of the tags that a call gives holds of what the call's actions carry, and of the next state's
abbrev pub CallOnlyChooses : Type 1
CallOnlyChooses =
    (P : Tag → Type 0) (E : ℕ → Type 0) (g : Given) (s : State) → Sources P E s → Each (IfAt P) (facts g.what).tags → Chosen P E (call g s).step
