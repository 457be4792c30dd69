-- The tests of 27 on the pieces of a state, in the order in which they are made: on each small part, then at each place of the columns. Each says at
-- once that the piece holds something of document 01 (View, `represents`) and that its tags are proper (Calls, `is_sound`). Assumes nothing.
use Rattle.std.specs.Prelude.{Bool, false, cond, ◌&&◌, ℕ, ◌+◌, leb, ltb, eqb, get_or}
use Rattle.tags.specs.Tags.{◌≡ₜ◌, is_proper}
use Rattle.rules.specs.Model.{Tag}
use Rattle.state.specs.declared.FederateCoordinationState.{FederateCoordinationState as Held}
use Rattle.state.specs.declared.Coordination.{Coordination}
use Rattle.state.specs.declared.Completion.{Completion}
use Rattle.state.specs.declared.Gate.{Gate}
use Rattle.state.specs.Walk.{all_of}
use Rattle.state.specs.Cells.{absent, is_cell, is_zero_unless}
use Rattle.state.specs.View.{tag_at}

-- ---- the small parts

abbrev pub sound_count : ℕ → Bool
sound_count n = ltb 0 n && leb n 32

abbrev pub sound_publication : Coordination → Bool
sound_publication c =
    cond c.pending (is_cell c.pending_next_event && is_cell c.pending_grant_horizon)
    (eqb c.pending_revision 0 && (c.pending_next_event ≡ₜ absent && c.pending_grant_horizon ≡ₜ absent))

abbrev pub sound_coordination : Coordination → Bool
sound_coordination c = leb c.phase 6 && (is_zero_unless c.authorized c.idle_authorization && sound_publication c)

abbrev pub sound_inputs : Tag → Tag → Bool
sound_inputs first last = cond (first ≡ₜ absent) (last ≡ₜ absent) (is_proper first && is_proper last)

abbrev pub sound_completion : Completion → Bool
sound_completion k = (is_cell k.completed_frontier && is_cell k.completion_probe) && sound_inputs k.first_input k.last_input

abbrev pub sound_acquisition : ℕ → Tag → Bool
sound_acquisition r t = cond (t ≡ₜ absent) (eqb r 0) (is_proper t)

abbrev pub sound_gate : Gate → Bool
sound_gate g = (is_cell g.granted && is_cell g.input_horizon) && sound_acquisition g.stored_revision g.stored_granted

abbrev pub sound_rest : Held → Bool
sound_rest s = leb s.lifecycle 2 && (is_cell s.grant_horizon && is_zero_unless s.failed s.first_failure)

-- all of them
abbrev pub sound_parts : Held → Bool
sound_parts s =
    sound_count s.count && (sound_coordination s.coordination && (sound_completion s.completion && (sound_gate s.gate && sound_rest s)))

-- ---- the participants

-- what the index at place j must lie below: the next index, or 4,096 at the last place
abbrev pub ceiling : Held → ℕ → ℕ
ceiling s j = cond (ltb j s.count) (get_or s.enclaves j 0) 4096

abbrev pub rises : Held → ℕ → Bool
rises s j = ltb (get_or s.enclaves j 0) (ceiling s (j + 1))

abbrev pub sound_at : Held → ℕ → Bool
sound_at s j =
    leb (get_or s.observation j 0) 3 &&
    (is_zero_unless (get_or s.acknowledged j false) (get_or s.completion_observed j 0) &&
    (is_cell (tag_at s j) && (is_cell (tag_at s (32 + j)) && is_cell (tag_at s (64 + j)))))

abbrev pub sound_places : Held → Bool
sound_places s = all_of (λ j. rises s j && sound_at s j) 0 s.count
