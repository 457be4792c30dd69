-- `proper_pair z` is proper, its total is z, and any proper pair of that total is it: seconds and nanoseconds of one sign, less than a second
-- of nanoseconds, are the quotient and the remainder of their total. Assumes nothing.
use Rattle.std.specs.Prelude.{◌≡◌, ℤ, true}
use Rattle.std.proofs.Common.{arith, ◌∙◌, ap}
use Rattle.std.proofs.lemmas.Int.{ints}
use Rattle.tags.specs.Tags.{proper_time}
use Rattle.delay.specs.declared.Duration.{Duration}
use Rattle.delay.specs.Delay.{total_nanoseconds, proper_pair}

pub pair-is-proper : (z : ℤ) → proper_time (proper_pair z).seconds (proper_pair z).nanoseconds ≡ true
unfolding proper_time
pair-is-proper z = grind (arith, ints)

pub pair-total : (z : ℤ) → total_nanoseconds (proper_pair z) ≡ z
pair-total z = grind (arith, ints)

own-seconds : (d : Duration) → proper_time d.seconds d.nanoseconds ≡ true → d.seconds ≡ (proper_pair (total_nanoseconds d)).seconds
unfolding proper_time
own-seconds d p = grind (arith, ints)

own-nanoseconds : (d : Duration) → proper_time d.seconds d.nanoseconds ≡ true → d.nanoseconds ≡ (proper_pair (total_nanoseconds d)).nanoseconds
unfolding proper_time
own-nanoseconds d p = grind (arith, ints)

pub pair-unique : (d : Duration) (z : ℤ) → proper_time d.seconds d.nanoseconds ≡ true → total_nanoseconds d ≡ z → d ≡ proper_pair z
pair-unique d z p e = (λ i. record { seconds = own-seconds d p i; nanoseconds = own-nanoseconds d p i }) ∙ ap proper_pair e
