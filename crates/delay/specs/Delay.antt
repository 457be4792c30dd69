-- Document 01, "Tags", the last three sentences, with refusals 7 and 10: what `delay` answers. proofs/Pair.antt proves that `proper_pair` is the one
-- proper pair of a total. Assumes nothing.
use Rattle.std.specs.Prelude.{zero, suc, ◌+◌, Bool, true, false, cond, ◌&&◌, ◌||◌, ltb, ℤ, pos, negsuc, ◌+ℤ◌, ◌*ℤ◌, None, Option, Some}
use Rattle.std.specs.Int.Signed.{lt_z, quot_z, rem_z}
use Rattle.tags.specs.Tags.{never, forever, proper_time, is_proper}
use Rattle.tags.specs.declared.Tag.{Tag}
use Rattle.records.specs.declared.Refusal.{Refusal}
use Rattle.records.specs.declared.Refusal.TheVariants.{ImproperTag, DelayOutOfRange}
use Rattle.delay.specs.declared.Duration.{Duration}
use Rattle.delay.specs.declared.Delayed.{Delayed}

-- seconds and nanoseconds as one whole number of nanoseconds
abbrev pub total_nanoseconds : Duration → ℤ
total_nanoseconds d = (d.seconds *ℤ pos 1_000_000_000) +ℤ d.nanoseconds

-- a tag's offset from the origin
abbrev pub offset_of : Tag → Duration
offset_of t = record { seconds = t.seconds; nanoseconds = t.nanoseconds }

-- the seconds toward zero, and the nanoseconds that are left, of the same sign
abbrev pub proper_pair : ℤ → Duration
proper_pair z = record { seconds = quot_z z (pos 1_000_000_000); nanoseconds = rem_z z (pos 1_000_000_000) }

-- below the least seconds or above the greatest
abbrev pub leaves_range : ℤ → Bool
leaves_range s = lt_z s never.seconds || lt_z forever.seconds s

-- the number is 0
abbrev pub is_nought : ℤ → Bool
is_nought (pos zero) = true
is_nought (pos (suc n)) = false
is_nought (negsuc n) = false

abbrev pub is_zero : Duration → Bool
is_zero d = is_nought d.seconds && is_nought d.nanoseconds

abbrev pub answer : Option Refusal → Tag → Delayed
answer n t = record { refusal = n; tag = t }

-- "by zero adds 1 to the microstep"; past 2^64 - 1 it leaves the range
unfoldable pub stepped_of : Tag → Delayed
stepped_of t =
    cond (ltb t.microstep forever.microstep)
    (answer None (record { seconds = t.seconds; nanoseconds = t.nanoseconds; microstep = t.microstep + 1 }))
    (answer (Some DelayOutOfRange) t)

-- the tag at a total of nanoseconds: its microstep is 0
unfoldable pub moved_of : Tag → ℤ → Delayed
moved_of t z =
    cond (leaves_range (proper_pair z).seconds)
    (answer (Some DelayOutOfRange) t)
    (answer None (record { seconds = (proper_pair z).seconds; nanoseconds = (proper_pair z).nanoseconds; microstep = 0 }))

-- "`delay`: 7, 10"; "by any other duration it adds exactly, signs included"; refused, it returns its tag
unfoldable pub delay_of : Tag → Duration → Delayed
delay_of t d =
    cond (is_proper t && proper_time d.seconds d.nanoseconds)
    (cond (is_zero d) (stepped_of t) (moved_of t (total_nanoseconds (offset_of t) +ℤ total_nanoseconds d)))
    (answer (Some ImproperTag) t)
