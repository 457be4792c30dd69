-- `acquisition::unless_refused` meets its contract: by the tests of 27 and 8. Assumes nothing.
use mathlib.Core.Path.{sym, ◌∙◌}
use Rattle.state.proofs.Neat.{count-bounds}
use Rattle.calls.proofs.Refusals.{passes}
use Rattle.calls.proofs.Standing.{is-so}
use Rattle.acquisition.proofs.unless_refused.Goals as goal

pub room_first-refusal-requires : goal.room_first-refusal-requires
room_first-refusal-requires c = let s = c.args.state in (count-bounds s (is-so (passes s (sym c.is_sound.ensures ∙ c.if-is_sound.true)).sound)).1
