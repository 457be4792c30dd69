-- Document 01, "Gate", on the state held: the refusals of the calls that give one tag, the indices that are participants, the participants that stay
-- published, and the tests of `begin_tag`. Assumes nothing.
use Rattle.std.specs.Prelude.{Bool, not, cond, ◌&&◌, List, ℕ, ◌+◌, eqb, get_or, set, None, Option, Some}
use Rattle.std.specs.List.{list_all}
use Rattle.std.specs.Option.{is_some}
use Rattle.tags.specs.Tags.{◌≤ₜ◌, within}
use Rattle.records.specs.declared.Refusal.{Refusal}
use Rattle.records.specs.declared.Refusal.TheVariants.{UnsoundState, ImproperTag}
use Rattle.rules.specs.Model.{Tag}
use Rattle.rules.specs.Walk.{among}
use Rattle.rules.specs.Calls.{is_sound}
use Rattle.state.specs.declared.FederateCoordinationState.{FederateCoordinationState as Held}
use Rattle.state.specs.Parts.{place_in}
use Rattle.state.specs.Cells.{optional_of}
use Rattle.state.specs.View.{view, represents}
use Rattle.table.specs.Flags.{Without}

-- "Calls: 27, .. 7, ..", by whether the tag is proper
abbrev pub sound_then_proper : Held → Bool → Option Refusal
sound_then_proper s proper = cond (represents s && is_sound (view s)) (cond proper None (Some ImproperTag)) (Some UnsoundState)

-- each of these indices is a participant's
abbrev pub all_found : Held → List ℕ → Bool
all_found s es = list_all (λ e. is_some (place_in s e)) es

-- "unpublishes the named": qs are the flags of s without those of the participants among es
abbrev pub Unlisted : Held → List ℕ → List Bool → Type 0
Unlisted s es qs = Without (λ j. among (get_or s.enclaves j 0) es) s s.count qs

-- "running, tag at or below that horizon, .. and at or below its granted tag"
abbrev pub permits : Held → Tag → Bool
permits s t = not (eqb s.coordination.phase 6) && t ≤ₜ s.gate.input_horizon && within t (optional_of s.gate.granted)

-- "and then started is this tag": the state with it at place i
abbrev pub started_at : Held → ℕ → Tag → Held
started_at s i t = record s {
  seconds = set s.seconds (64 + i) t.seconds;
  nanoseconds = set s.nanoseconds (64 + i) t.nanoseconds;
  microsteps = set s.microsteps (64 + i) t.microstep;
}
