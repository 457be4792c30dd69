-- `load::given::number` stays within its limit. Assumes nothing.
use Rattle.std.proofs.Common.{◌≤◌}
use Rattle.load.proofs.given.number.Given as goal

abbrev pub invariant-loop-byte : goal.invariant-loop-byte
invariant-loop-byte l = l.number ≤ l.most
