-- Sums of two proper durations, over whole numbers: where the seconds' sum leaves the range, so do the seconds of the total, since the nanoseconds
-- have the same sign. Assumes nothing.
use Rattle.std.specs.Prelude.{◌≡◌, true, false, ℤ, pos, negsuc, ◌+ℤ◌, ◌*ℤ◌, ◌≤ℤ◌, ◌<ℤ◌}
use Rattle.std.specs.Int.Signed.{quot_z}
use Rattle.std.proofs.Common.{arith}
use Rattle.std.proofs.lemmas.Int.{ints}
use mir.Syntax.{w64}
use mir.Val.{SFits}
use Rattle.tags.specs.Tags.{proper_time}
use Rattle.delay.specs.Delay.{leaves_range}

pub proper_bounds : (s n : ℤ) → proper_time s n ≡ true → (negsuc 999_999_998 ≤ℤ n) × (n ≤ℤ pos 999_999_999)
unfolding proper_time
proper_bounds s n p = grind (arith, ints)

proper_above : (s n : ℤ) → proper_time s n ≡ true → pos 0 <ℤ s → pos 0 ≤ℤ n
unfolding proper_time
proper_above s n p q = grind (arith, ints)

proper_below : (s n : ℤ) → proper_time s n ≡ true → s <ℤ pos 0 → n ≤ℤ pos 0
unfolding proper_time
proper_below s n p q = grind (arith, ints)

quotient_above : (x z : ℤ) → pos 0 ≤ℤ x → (x *ℤ pos 1_000_000_000) ≤ℤ z → x ≤ℤ quot_z z (pos 1_000_000_000)
quotient_above x z p q = grind (arith, ints)

quotient_below : (x z : ℤ) → x ≤ℤ pos 0 → z ≤ℤ (x *ℤ pos 1_000_000_000) → quot_z z (pos 1_000_000_000) ≤ℤ x
quotient_below x z p q = grind (arith, ints)

abbrev both : ℤ → ℤ → ℤ → ℤ → ℤ
both s n t m = ((s *ℤ pos 1_000_000_000) +ℤ n) +ℤ ((t *ℤ pos 1_000_000_000) +ℤ m)

seconds_over : (s n t m : ℤ) → proper_time s n ≡ true → proper_time t m ≡ true → pos 0 <ℤ s → pos 0 <ℤ t
    → (s +ℤ t) ≤ℤ quot_z (both s n t m) (pos 1_000_000_000)
seconds_over s n t m p q x y =
    let a = proper_above s n p x in
    let b = proper_above t m q y in
    quotient_above (s +ℤ t) (both s n t m) (omega (arith, ints)) (omega (arith, ints))

seconds_under : (s n t m : ℤ) → proper_time s n ≡ true → proper_time t m ≡ true → s <ℤ pos 0 → t <ℤ pos 0
    → quot_z (both s n t m) (pos 1_000_000_000) ≤ℤ (s +ℤ t)
seconds_under s n t m p q x y =
    let a = proper_below s n p x in
    let b = proper_below t m q y in
    quotient_below (s +ℤ t) (both s n t m) (omega (arith, ints)) (omega (arith, ints))

over_leaves : (q : ℤ) → pos 9_223_372_036_854_775_807 <ℤ q → leaves_range q ≡ true
over_leaves q h = grind (arith, ints)

under_leaves : (q : ℤ) → q <ℤ negsuc 9_223_372_036_854_775_807 → leaves_range q ≡ true
under_leaves q h = grind (arith, ints)

pub sum_over : (s n t m : ℤ) → proper_time s n ≡ true → proper_time t m ≡ true → SFits w64 s → SFits w64 t
    → pos 9_223_372_036_854_775_807 <ℤ (s +ℤ t) → leaves_range (quot_z (both s n t m) (pos 1_000_000_000)) ≡ true
sum_over s n t m p q f g h =
    let k = seconds_over s n t m p q (omega (arith, ints)) (omega (arith, ints)) in
    over_leaves (quot_z (both s n t m) (pos 1_000_000_000)) (omega (arith, ints))

pub sum_under : (s n t m : ℤ) → proper_time s n ≡ true → proper_time t m ≡ true → SFits w64 s → SFits w64 t
    → (s +ℤ t) <ℤ negsuc 9_223_372_036_854_775_807 → leaves_range (quot_z (both s n t m) (pos 1_000_000_000)) ≡ true
sum_under s n t m p q f g h =
    let k = seconds_under s n t m p q (omega (arith, ints)) (omega (arith, ints)) in
    under_leaves (quot_z (both s n t m) (pos 1_000_000_000)) (omega (arith, ints))

pub fits_stays : (q : ℤ) → SFits w64 q → leaves_range q ≡ false
fits_stays q h = grind (arith, ints)
