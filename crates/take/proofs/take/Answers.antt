-- `take::take` keeps what the call of its event promises: the calls of the gate, which take no room, and the scheduler's messages, whose arms meet before
-- their one call. Assumes nothing.
use mathlib.Core.Path.{◌≡◌, refl}
use borrow.Author.Rules.{rules}
use Rattle.std.proofs.lemmas.List.{take_min}
use Rattle.events.specs.Told.{call_told}
use Rattle.dispatch.specs.Messages.{call_of}
use Rattle.state.specs.View.{view}
use Rattle.state.specs.Parts.{Sized}
use Rattle.take.proofs.Arms.{without-room, horizon-silent, begin-silent, late-silent, done-silent, input-silent, late-keeps, done-keeps, unchanged}
use Rattle.take.proofs.take.Goals as goal
use Rattle.take.proofs.take.Goals.{in-Active, in-Publish, in-Complete, in-Observed, in-Stopped, in-Failed}

pub returns-in-Horizon : goal.returns-in-Horizon
returns-in-Horizon c =
    let a = c.args in
    rw (c.in-Some.is, c.in-Horizon.is) (without-room _ a.state a.room.now _ refl (horizon-silent (view a.state) _) c.set_input_horizon.ensures)

pub returns-in-Begin : goal.returns-in-Begin
returns-in-Begin c =
    let a = c.args in
    rw (c.in-Some.is, c.in-Begin.is) (without-room _ a.state a.room.now _ refl (begin-silent (view a.state) _ _) c.begin_tag.ensures)

pub returns-in-Late : goal.returns-in-Late
returns-in-Late c =
    let a = c.args in
    let z : Sized a.state = search rules in
    rw (c.in-Some.is, c.in-Late.is)
    (without-room _ a.state a.room.now _ refl (late-silent (view a.state) _ _) (unchanged _ a.state z (late-keeps (view a.state) _ _) _ c.input_is_late-reply.ensures))

pub returns-in-Done : goal.returns-in-Done
returns-in-Done c =
    let a = c.args in
    let z : Sized a.state = search rules in
    rw (c.in-Some.is, c.in-Done.is)
    (without-room _ a.state a.room.now _ refl (done-silent (view a.state) _ _) (unchanged _ a.state z (done-keeps (view a.state) _ _) _ c.input_completed-reply.ensures))

pub returns-in-Input : goal.returns-in-Input
returns-in-Input c =
    let a = c.args in
    rw (c.in-Some.is, c.in-Input.is, ← take_min c.in-Input.count a.listed.now, ← c.min-named.ensures)
    (without-room _ a.state a.room.now _ refl (input-silent (view a.state) _) c.input_publishing.ensures)

pub returns : goal.returns
returns c =
    let told : call_told c.in-Some.event c.args.listed.now ≡ call_of c.match-event-2.message =
    elim c.match-event-2.branch [
      | in-Active w ↦ rw (w.in-Active.is, w.message-is) refl
      | in-Publish w ↦ rw (w.in-Publish.is, w.message-is) refl
      | in-Complete w ↦ rw (w.in-Complete.is, w.message-is) refl
      | in-Observed w ↦ rw (w.in-Observed.is, w.message-is) refl
      | in-Stopped w ↦ rw (w.in-Stopped.is, w.message-is) refl
      | in-Failed w ↦ rw (w.in-Failed.is, w.message-is) refl
    ] in
    rw (c.in-Some.is, told) (record { promised = c.handle_scheduler.ensures.promised; bytes = c.handle_scheduler.ensures.bytes })
