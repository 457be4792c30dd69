-- `soundness::is_sound` is what 27 asks: by the law of Sound, since its tests are those of the parts and of the places. Assumes nothing.
use mathlib.Core.Path.{refl, ◌∙◌}
use Rattle.soundness.proofs.Sound.{sound-by}
use Rattle.soundness.proofs.is_sound.Goals as goal

pub returns-then-parts_are_sound : goal.returns-then-parts_are_sound
returns-then-parts_are_sound c = rw c.if-parts_are_sound.true at (sound-by c.args.state.now c.parts_are_sound.ensures c.places_are_sound.ensures)

pub returns-else-parts_are_sound : goal.returns-else-parts_are_sound
returns-else-parts_are_sound c =
    c.if-parts_are_sound.false ∙ rw c.if-parts_are_sound.false at (sound-by c.args.state.now c.parts_are_sound.ensures refl)
