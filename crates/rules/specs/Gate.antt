-- Document 01, "Gate" (state.rs: input_publishing, begin_tag, input_is_late, input_completed); `input_progress` stands in Acquisition. Assumes nothing.
use Rattle.std.specs.Prelude.{ℕ, Bool, true, not, cond, ◌&&◌, ◌||◌, List, eqb, None, Option, Some}
use Rattle.tags.specs.Tags.{◌≤ₜ◌, within}
use Rattle.rules.specs.Model.{Tag, NoneStored, Participant, State, Step}
use Rattle.rules.specs.Set.{with_published, with_granted, with_started, with_input_acquisition}
use Rattle.rules.specs.Walk.{any, knows, among, every, only, quiet, is_stopped}
use Rattle.rules.specs.Publication.{revise_of}

-- "drops .. all granted tags, unpublishes the named"
abbrev pub noticed : List ℕ → Participant → Participant
noticed es p = with_granted None (with_published (p.published && not (among p.index es)) p)

-- "`input_publishing` revises even when stopped, drops the stored acquisition"
unfoldable pub input_publishing_of : List ℕ → State → Step
input_publishing_of es s = quiet (with_input_acquisition NoneStored (every (noticed es) (revise_of s)))

-- "`begin_tag` without input horizon is yes for anyone ..; else yes exactly if running, tag at or below that horizon, known, and at or below its granted tag"
abbrev pub may_begin : Option Tag → ℕ → Tag → State → Bool
may_begin None e t s = true
may_begin (Some cap) e t s = not (is_stopped s) && t ≤ₜ cap && any (λ p. eqb p.index e && within t p.granted) s.participants

-- ".. and changes nothing; .. then started is this tag"
abbrev pub begun : Option Tag → ℕ → Tag → State → State
begun None e t s = s
begun (Some cap) e t s = only e (with_started (Some t)) s

unfoldable pub begin_tag_of : ℕ → Tag → State → Step
begin_tag_of e t s = cond (may_begin s.input_horizon e t s) (quiet (begun s.input_horizon e t s)) (quiet s)

-- "`input_is_late`: unknown, or at or below started or completed."
abbrev pub is_late : ℕ → Tag → State → Bool
is_late e t s =
    not (knows e s.participants) || any (λ p. eqb p.index e && (within t p.started || within t p.completed)) s.participants

-- "`input_completed`: known and at or below completed."
abbrev pub is_completed : ℕ → Tag → State → Bool
is_completed e t s = any (λ p. eqb p.index e && within t p.completed) s.participants
