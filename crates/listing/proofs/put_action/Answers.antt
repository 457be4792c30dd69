-- `listing::put_action` meets its contract: the line of this kind, of which the search gives up. Assumes nothing.
use Rattle.std.proofs.Common.{arith}
use Rattle.printing.proofs.Runs.{at_most}
use Rattle.listing.specs.Listing.{action_line}
use Rattle.listing.proofs.put_action.Goals as goal

pub returns-in-CompletionProbe : goal.returns-in-CompletionProbe
unfolding action_line
returns-in-CompletionProbe c = rw c.in-CompletionProbe.is (at_most (rw c.from-in-CompletionProbe.ensures at c.put_line-in-CompletionProbe.ensures) (omega arith))
