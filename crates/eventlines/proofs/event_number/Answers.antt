-- `eventlines::event_number`: the names are seventeen, and the word's number among them is the one that it has. Assumes nothing.
use Prim.Native.Nat.{◌+◌}
use mathlib.Core.Path.{ap}
use lib.ListN.{length}
use Rattle.eventlines.proofs.Names.{names-fields, number-start}
use Rattle.eventlines.proofs.event_number.Goals as goal

pub loop-name-init : goal.loop-name-init
loop-name-init c = (number-start c.args.w.now, ap (λ ns. 1 + length ns) names-fields)
