-- `observation::moved_unless_refused`: 27 and 8 first, then the coordination moves, and what it says is written. Assumes nothing.
use Rattle.std.proofs.Common.{◌≡◌, true, sym, ◌∙◌, rules}
use Rattle.state.specs.Parts.{Sized}
use Rattle.calls.proofs.Standing.{Standing, standing}
use Rattle.observation.proofs.Taking.{bare-27, bare-8, bare-taken}
use Rattle.observation.proofs.moved_unless_refused.Goals as goal
use Rattle.observation.proofs.moved_unless_refused.Goals.{After-is_sound}

stands : (c : After-is_sound) → c.is_sound.result ≡ true → Standing c.args.state
stands c h = let sized : Sized c.args.state = search rules in standing c.args.state sized c.is_sound.ensures h

pub returns-then-not-is_sound : goal.returns-then-not-is_sound
returns-then-not-is_sound c = let a = c.args in record {
  promised = λ k t. (bare-27 t a.room.now c.is_sound.ensures c.if-not-is_sound.true c.with_reply.ensures).0;
  bytes = λ k t. (bare-27 t a.room.now c.is_sound.ensures c.if-not-is_sound.true c.with_reply.ensures).1;
}

pub room_first-refusal-requires : goal.room_first-refusal-requires
room_first-refusal-requires c = (stands (goal.at.room_first-refusal-requires c).After-is_sound c.if-not-is_sound.false).few

pub returns-then-is_some : goal.returns-then-is_some
returns-then-is_some c =
    let a = c.args in
    let st = stands (goal.at.returns-then-is_some c).After-is_sound c.if-not-is_sound.false in
    let some = sym c.is_some.ensures ∙ c.if-is_some.true in
    record {
      promised = λ k t. (bare-8 t a.room.now st c.room_first-refusal.ensures some c.with_reply-then-is_some.ensures).0;
      bytes = λ k t. (bare-8 t a.room.now st c.room_first-refusal.ensures some c.with_reply-then-is_some.ensures).1;
    }

pub returns : goal.returns
returns c =
    let a = c.args in
    let st = stands (goal.at.returns c).After-is_sound c.if-not-is_sound.false in
    let none = sym c.is_some.ensures ∙ c.if-is_some.false in
    record {
      promised = λ k t. (bare-taken t a.room.now st c.room_first-refusal.ensures none c.add_notice-written.ensures.adds c.with_reply-2.ensures).0;
      bytes = λ k t. (bare-taken t a.room.now st c.room_first-refusal.ensures none c.add_notice-written.ensures.adds c.with_reply-2.ensures).1;
    }
