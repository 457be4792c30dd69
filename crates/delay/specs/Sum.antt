-- What the sum of two proper durations promises: the proper pair of the total, or none where its seconds leave the range. Assumes nothing.
use Rattle.std.specs.Prelude.{◌≡◌, true, false, ℤ, None, Option, Some}
use Rattle.delay.specs.Delay.{proper_pair, leaves_range}
use Rattle.delay.specs.declared.Duration.{Duration}

abbrev pub Adds : ℤ → Option Duration → Type 0
Adds z None = leaves_range (proper_pair z).seconds ≡ true
Adds z (Some d) = (leaves_range (proper_pair z).seconds ≡ false) × (d ≡ proper_pair z)
