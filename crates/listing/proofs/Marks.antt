-- A mark's text is that of its number. Assumes nothing.
use mathlib.Core.Path.{◌≡◌, refl}
use mathlib.Core.Bool.{Bool, true, false}
use mir.Val.{bool_byte}
use Rattle.printing.specs.Printing.{decimal}
use Rattle.fields.specs.Words.{mark_text}

pub marked : (b : Bool) → decimal (bool_byte b) ≡ mark_text b
unfolding decimal
marked true = refl
marked false = refl
