-- Document 01, "After every taken scheduler message, if running", on columns: the rules' `blocks` and `has_answered` (Rattle.rules.specs.Completion)
-- of the participant at place j. Assumes nothing.
use Rattle.std.specs.Prelude.{Bool, false, not, ◌&&◌, ◌||◌, ℕ, ◌+◌, get_or}
use Rattle.tags.specs.Tags.{is_below, is_at_or_below}
use Rattle.rules.specs.Model.{Tag}
use Rattle.rules.specs.Walk.{is_number}
use Rattle.state.specs.declared.FederateCoordinationState.{FederateCoordinationState as Held}
use Rattle.state.specs.Cells.{optional_of, number_if}
use Rattle.state.specs.View.{tag_at}

-- `blocks f`: "a lagging enclave is unpublished or has a candidate at or below f"
abbrev pub blocks_at : Held → Tag → ℕ → Bool
blocks_at s f j = is_below (optional_of (tag_at s (32 + j))) f && (not (get_or s.published j false) || is_at_or_below (optional_of (tag_at s j)) f)

-- `has_answered f g`: it does not lag, or it observed this generation
abbrev pub answered_at : Held → Tag → ℕ → ℕ → Bool
answered_at s f g j =
    not (is_below (optional_of (tag_at s (32 + j))) f) || is_number (number_if (get_or s.acknowledged j false) (get_or s.completion_observed j 0)) g
