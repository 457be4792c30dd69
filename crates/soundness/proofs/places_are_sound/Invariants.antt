-- The loop's invariant: `above` is the ceiling of the place before i, and what is asked of all places is asked of those before i.
use mathlib.Core.Path.{◌≡◌}
use Rattle.soundness.specs.Sound.{ceiling}
use Rattle.soundness.proofs.Places.{asked}
use Rattle.soundness.proofs.places_are_sound.Given as goal

abbrev pub invariant-loop-i : goal.invariant-loop-i
invariant-loop-i l = (l.above ≡ ceiling l.state l.i) × (asked l.state l.state.count ≡ asked l.state l.i)
