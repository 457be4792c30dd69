-- `gate::input_publishing` keeps the promise of the call `input`: it refuses 27, then 3, and else stores what the rule says. Assumes nothing.
use Rattle.std.specs.Prelude.{None}
use mathlib.Core.Path.{◌≡◌, refl, ap}
use mathlib.Core.Bool.{true}
use borrow.Author.Rules.{rules}
use Rattle.rules.specs.Model.{input}
use Rattle.state.specs.Parts.{Sized}
use Rattle.calls.specs.Called.{lent}
use Rattle.calls.proofs.Standing.{Standing, standing, promised-27}
use Rattle.gate.proofs.Ends.{few-of}
use Rattle.gate.proofs.Noticing.{opened, ends-unknown, ends-noticed}
use Rattle.gate.proofs.input_publishing.Goals as goal
use Rattle.gate.proofs.input_publishing.Goals.{After-is_sound}

stands : (c : After-is_sound) → c.is_sound.result ≡ true → Standing c.args.state
stands c h = let sized : Sized c.args.state = search rules in standing c.args.state sized c.is_sound.ensures h

pub returns-then-not-is_sound : goal.returns-then-not-is_sound
returns-then-not-is_sound c =
    let a = c.args in
    promised-27 (lent 0 (input a.affected.now)) a.state None c.is_sound.ensures c.if-not-is_sound.true refl c.with_reply.ensures

pub are_known-requires : goal.are_known-requires
are_known-requires c = few-of c.args.state c.is_sound.ensures c.if-not-is_sound.false

pub returns-then-not-are_known : goal.returns-then-not-are_known
returns-then-not-are_known c =
    let st = stands (goal.at.returns-then-not-are_known c).After-is_sound c.if-not-is_sound.false in
    ends-unknown c.args.state c.args.affected.now st c.are_known.ensures _ c.if-not-are_known.true c.with_reply-then-not-are_known.ensures

pub clear-requires : goal.clear-requires
clear-requires c = few-of c.args.state c.is_sound.ensures c.if-not-is_sound.false

pub still_published-state-requires : goal.still_published-state-requires
still_published-state-requires c = few-of c.args.state c.is_sound.ensures c.if-not-is_sound.false

pub returns : goal.returns
returns c =
    let st = stands (goal.at.returns c).After-is_sound c.if-not-is_sound.false in
    ends-noticed c.args.state c.args.affected.now st c.are_known.ensures _ _ _ _ _ _ c.if-not-are_known.false c.still_published-state.ensures c.clear.ensures
    c.revised-state.ensures c.unprobed-state.ensures (ap opened c.dropped.ensures) c.with_reply-2.ensures
