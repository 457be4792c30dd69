-- `delay::add_exactly`: the parts' sums have the sum of the totals; seconds whose sum is no i64 leave the range. Assumes nothing.
use Rattle.std.proofs.Common.{rules, arith}
use Rattle.std.proofs.lemmas.Int.{ints, by_lt_z}
use lib.IntN.{pos, negsuc, ◌+ℤ◌}
use Rattle.delay.specs.Delay.{total_nanoseconds}
use Rattle.delay.proofs.Sum.{proper_bounds, sum_over, sum_under}
use Rattle.delay.proofs.add_exactly.Goals as goal

pub returns-in_default : goal.returns-in_default
returns-in_default c =
    let s = c.args.start.seconds in
    let n = c.args.start.nanoseconds in
    let t = c.args.offset.seconds in
    let m = c.args.offset.nanoseconds in
    let p = c.requires.start_is_proper in
    let q = c.requires.offset_is_proper in
    by_lt_z (pos 9_223_372_036_854_775_807) (s +ℤ t)
    (λ h. sum_over s n t m p q (search rules) (search rules) h)
    (λ h. by_lt_z (s +ℤ t) (negsuc 9_223_372_036_854_775_807)
    (λ k. sum_under s n t m p q (search rules) (search rules) k)
    (λ k. absurd (c.in_default.ensures (omega (arith, ints)))))

pub overflow_add-nanoseconds : goal.overflow_add-nanoseconds
overflow_add-nanoseconds c =
    let a = proper_bounds c.args.start.seconds c.args.start.nanoseconds c.requires.start_is_proper in
    let b = proper_bounds c.args.offset.seconds c.args.offset.nanoseconds c.requires.offset_is_proper in
    omega (arith, ints, a.0, a.1, b.0, b.1)

pub carry-requires : goal.carry-requires
carry-requires c =
    let a = proper_bounds c.args.start.seconds c.args.start.nanoseconds c.requires.start_is_proper in
    let b = proper_bounds c.args.offset.seconds c.args.offset.nanoseconds c.requires.offset_is_proper in
    (omega (arith, ints, a.0, a.1, b.0, b.1), omega (arith, ints, a.0, a.1, b.0, b.1))

pub returns : goal.returns
returns c =
    let a = proper_bounds c.args.start.seconds c.args.start.nanoseconds c.requires.start_is_proper in
    let b = proper_bounds c.args.offset.seconds c.args.offset.nanoseconds c.requires.offset_is_proper in
    c.carry.ensures (total_nanoseconds c.args.start +ℤ total_nanoseconds c.args.offset) (omega (arith, ints, a.0, a.1, b.0, b.1, c.in-Some.ensures))
