-- What the rest spells after n is what all spells. Assumes nothing.
use Rattle.std.proofs.Common.{◌≡◌, ◌≤◌, drop}
use Rattle.numerals.specs.Told.{digits_of}
use Rattle.numerals.proofs.digits.Given as goal

abbrev pub invariant-loop-b : goal.invariant-loop-b
invariant-loop-b l = (l.n ≤ l.most) × (digits_of l.most l.n (drop l.b-index l.t) ≡ digits_of l.most 0 l.t)
