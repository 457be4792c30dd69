-- Document 01's worked delays, P4 among them, by computing `delay_of`. Assumes nothing.
use Rattle.std.specs.Prelude.{None}
use mathlib.Core.Path.{◌≡◌, refl}
use Prim.Native.Nat.{ℕ}
use lib.IntN.{pos, negsuc}
use Rattle.tags.specs.Tags.{forever, proper_time}
use Rattle.records.specs.Numbers.{refusal_number}
use Rattle.delay.specs.declared.Duration.{Duration}
use Rattle.delay.specs.Delay.{answer, stepped_of, moved_of, delay_of}

abbrev nothing : Duration
nothing = record { seconds = pos 0; nanoseconds = pos 0 }

-- "1:500000000 by 0:-600000000 gives 0:900000000", at any microstep; "FOREVER by zero is 10", and returns its tag
pub worked-examples : ((m : ℕ) →
    delay_of (record { seconds = pos 1; nanoseconds = pos 500_000_000; microstep = m }) (record { seconds = pos 0; nanoseconds = negsuc 599_999_999 })
    ≡ answer None (record { seconds = pos 0; nanoseconds = pos 900_000_000; microstep = 0 }))
    × ((refusal_number (delay_of forever nothing).refusal ≡ 10) × ((delay_of forever nothing).tag ≡ forever))
unfolding delay_of stepped_of moved_of proper_time
worked-examples = (λ m. refl, (refl, refl))
