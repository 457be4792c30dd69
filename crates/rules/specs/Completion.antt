-- Document 01, "CompleteTag", "CompletionObserved", "After every taken scheduler message, if running" and "Complete's mark"
-- (state.rs: complete, completion, advance_completion). Assumes nothing.
use Rattle.std.specs.Prelude.{ℕ, ◌+◌, Bool, true, false, not, cond, ◌&&◌, ◌||◌, List, [], ◌∷◌, eqb, None, Option, Some}
use Rattle.tags.specs.Tags.{◌≤ₜ◌, lesser_of, greater_of, is_below, is_at_or_below, same_optional, is_present, lesser_of_both}
use Rattle.rules.specs.Model.{Tag, OptionalInputs, NoInputs, Inputs, Participant, CoordinationAction, Complete, CompletionProbe, State, Step}
use Rattle.rules.specs.Set.{with_completed, with_completion_observed, with_completed_frontier, with_pending_inputs, with_completion_generation, with_completion_probe}
use Rattle.rules.specs.Walk.{all, any, each, least_of, greatest_of, find, only, quiet, emit, is_stopped, is_number}

-- ---- Complete's mark

-- "True when the pending pair's first is at or below f"
abbrev pub marked : OptionalInputs → Tag → Bool
marked NoInputs f = false
marked (Inputs first last) f = first ≤ₜ f

-- "the pair is dropped when its last is"
abbrev pub inputs_left : OptionalInputs → Tag → OptionalInputs
inputs_left NoInputs f = NoInputs
inputs_left (Inputs first last) f = cond (last ≤ₜ f) NoInputs (Inputs first last)

-- Complete of f in a state, with its mark
abbrev pub complete_of : Tag → State → CoordinationAction
complete_of f s = Complete (record { completed = f; network_input = marked s.pending_inputs f })

-- f becomes the frontier and is emitted as Complete
unfoldable pub finish : Tag → State → Step
finish f s = emit (complete_of f s ∷ []) (with_completed_frontier (Some f) (with_pending_inputs (inputs_left s.pending_inputs f) s))

-- ---- CompleteTag

-- "Network input widens the pending pair (first, last)."
abbrev pub widened : Bool → Tag → OptionalInputs → OptionalInputs
widened false t m = m
widened true t NoInputs = Inputs t t
widened true t (Inputs first last) = Inputs (lesser_of first t) (greater_of last t)

-- "The least completed tag, if all have one"
abbrev pub least_completed : List Participant → Option Tag
least_completed ps = cond (all (λ p. is_present p.completed) ps) (least_of (λ p. p.completed) ps) None

-- ".. and it passes the completed frontier, becomes the frontier and is emitted as Complete, uncapped by the horizon."
unfoldable pub complete_all : Option Tag → State → Step
complete_all None s = quiet s
complete_all (Some m) s = cond (is_below s.completed_frontier m) (finish m s) (quiet s)

-- the pair widened and the tag stored
abbrev pub noted : ℕ → Tag → Bool → State → State
noted e t network s = with_pending_inputs (widened network t s.pending_inputs) (only e (with_completed (Some t)) s)

-- "Nothing if .. not past this enclave's completed tag."
unfoldable pub complete_by : ℕ → Tag → Bool → State → Option Participant → Step
complete_by e t network s None = quiet s
complete_by e t network s (Some p) =
    cond (is_below p.completed t) (complete_all (least_completed (noted e t network s).participants) (noted e t network s)) (quiet s)

-- "Nothing if stopped"
unfoldable pub complete_tag_of : ℕ → Tag → Bool → State → Step
complete_tag_of e t network s = cond (is_stopped s) (quiet s) (complete_by e t network s (find e s.participants))

-- ---- CompletionObserved

-- "a probe is outstanding and the generation is current"
abbrev pub answers_probe : ℕ → State → Bool
answers_probe g s = is_present s.completion_probe && eqb g s.completion_generation

-- "Kept only if"
unfoldable pub observed_of : ℕ → ℕ → State → Step
observed_of e g s = cond (answers_probe g s) (quiet (only e (with_completion_observed (Some g)) s)) (quiet s)

-- ---- after every taken scheduler message, if running

-- "f = lesser of the greatest completed tag and the horizon; either missing: nothing."
abbrev pub front_of : State → Option Tag
front_of s = lesser_of_both (greatest_of (λ p. p.completed) s.participants) s.grant_horizon

-- "An enclave lags if completed below f."
abbrev pub lags : Tag → Participant → Bool
lags f p = is_below p.completed f

-- "a lagging enclave is unpublished or has a candidate at or below f"
abbrev pub blocks : Tag → Participant → Bool
blocks f p = lags f p && (not p.published || is_at_or_below p.candidate f)

-- "f is not past the completed frontier, or a lagging enclave .."
abbrev pub is_held : Tag → State → Bool
is_held f s = not (is_below s.completed_frontier f) || any (blocks f) s.participants

-- "generation rises by one"; 9 keeps it below 2^64
abbrev pub next_generation : ℕ → ℕ
next_generation g = g + 1

abbrev pub asks : ℕ → Participant → CoordinationAction
asks g p = CompletionProbe p.index g

-- "it becomes f, generation rises by one, a CompletionProbe goes to each lagging enclave"
unfoldable pub probe_for : Tag → State → Step
probe_for f s =
    emit (each (lags f) (asks (next_generation s.completion_generation)) s.participants) (with_completion_probe (Some f) (with_completion_generation (next_generation s.completion_generation) s))

-- it does not lag, or it observed this generation
abbrev pub has_answered : Tag → ℕ → Participant → Bool
has_answered f g p = not (lags f p) || is_number p.completion_observed g

abbrev pub all_answered : Tag → State → Bool
all_answered f s = all (has_answered f s.completion_generation) s.participants

-- ".. clear the probe. Else, if the probe is not f: .. Else, if all those observed this generation: Complete f, frontier f, clear the probe."
unfoldable pub advance_to : Option Tag → State → Step
advance_to None s = quiet s
advance_to (Some f) s =
    cond (is_held f s) (quiet (with_completion_probe None s))
    (cond (same_optional s.completion_probe (Some f)) (cond (all_answered f s) (finish f (with_completion_probe None s)) (quiet s)) (probe_for f s))

unfoldable pub advance_of : State → Step
advance_of s = cond (is_stopped s) (quiet s) (advance_to (front_of s) s)

-- whether it would raise the generation
abbrev pub raises_to : Option Tag → State → Bool
raises_to None s = false
raises_to (Some f) s = not (is_held f s) && not (same_optional s.completion_probe (Some f))

abbrev pub raises : State → Bool
raises s = not (is_stopped s) && raises_to (front_of s) s
