-- `numerals::digits` meets its contract: a number that no longer fits is above the most that may be read. Assumes nothing.
use Rattle.std.proofs.Common.{◌+◌, ◌-◌, ◌*◌, ◌^◌, ◌≤◌, ◌<◌, get_or, ◌∙◌, arith}
use Rattle.numerals.proofs.Numbers.{digits-over}
use Rattle.numerals.proofs.digits.Goals as goal

pub returns-in_err-checked_mul : goal.returns-in_err-checked_mul
returns-in_err-checked_mul c =
    let a = c.args in
    let i = c.loop-b.b-index in
    let big : 2 ^ 64 ≤ c.loop-b.n * 10 = omega (arith, c.in_err-checked_mul.ensures) in
    c.from_residual.ensures ∙ digits-over a.most c.loop-b.n a.t.now i (omega arith) (omega arith) (omega arith) (omega arith) ∙ c.loop-b.invariant.1

pub returns-in_err-n : goal.returns-in_err-n
returns-in_err-n c =
    let a = c.args in
    let i = c.loop-b.b-index in
    let big : 2 ^ 64 ≤ c.loop-b.n * 10 + (get_or a.t.now i 0 - 48) = omega (arith, c.in_err-n.ensures, c.in_ok-checked_mul.ensures.1) in
    c.from_residual-in_err-n.ensures ∙ digits-over a.most c.loop-b.n a.t.now i (omega arith) (omega arith) (omega arith) (omega arith) ∙ c.loop-b.invariant.1

pub returns-then-most-n : goal.returns-then-most-n
returns-then-most-n c =
    let a = c.args in
    let i = c.loop-b.b-index in
    let big : a.most < c.loop-b.n * 10 + (get_or a.t.now i 0 - 48) = omega (arith, c.in_ok-n.ensures.1, c.in_ok-checked_mul.ensures.1) in
    digits-over a.most c.loop-b.n a.t.now i (omega arith) (omega arith) (omega arith) (omega arith) ∙ c.loop-b.invariant.1
