-- `acquisition::handle_publication_sent` keeps the promise of the call `sent`: past 27 and 8 it refuses by 7 or is quiet where the publication is not due;
-- else it is an acquisition of its revision and the horizon, which is refused by 27 and 8 as the call is. Assumes nothing.
use Rattle.std.specs.Prelude.{None, Some}
use mathlib.Core.Path.{refl, sym, ◌∙◌}
use lib.ListN.{length}
use borrow.Author.Rules.{rules}
use Rattle.tags.specs.Tags.{proper_if_present}
use Rattle.records.specs.declared.Refusal.TheVariants.{ImproperTag}
use Rattle.rules.specs.Model.{acquire, sent}
use Rattle.state.specs.Parts.{Sized}
use Rattle.calls.specs.Called.{lent}
use Rattle.calls.proofs.Standing.{standing_by}
use Rattle.calls.proofs.Ends.{ends-7, ends-still, refused-alike, ends_as}
use Rattle.acquisition.proofs.Acquiring.{acquire-taken}
use Rattle.acquisition.proofs.Repeats.{listed, sent-taken, sent-nothing, sent-due, horizon-proper}
use Rattle.acquisition.proofs.Unless.{ends-unless}
use Rattle.acquisition.proofs.handle_publication_sent.Goals as goal

-- ---- 7

pub returns-then-not-has_proper_tags : goal.returns-then-not-has_proper_tags
returns-then-not-has_proper_tags c =
    let p = c.args.publication in
    let s = c.args.state in
    let room = c.args.room.now in
    let what = sent p.revision p.next_event p.grant_horizon in
    let improper = listed (proper_if_present p.next_event) (proper_if_present p.grant_horizon) ∙ sym c.has_proper_tags.ensures ∙ c.if-not-has_proper_tags.true in
    let o = ends-unless what s room (Some ImproperTag) refl refl c.unless_refused.ensures (λ st w q. ends-7 (lent (length room) what) s room refl st w improper q) in
    record { promised = o.0; bytes = o.1 }

-- ---- taken: not due, or an acquisition

pub returns-then-not-is_due : goal.returns-then-not-is_due
returns-then-not-is_due c =
    let p = c.args.publication in
    let s = c.args.state in
    let room = c.args.room.now in
    let what = sent p.revision p.next_event p.grant_horizon in
    let proper = sym c.has_proper_tags.ensures ∙ c.if-not-has_proper_tags.false in
    let nothing = sent-nothing s p.revision p.next_event p.grant_horizon c.is_due.result c.is_due.ensures c.if-not-is_due.true in
    let sized : Sized s = search rules in
    let o = ends-unless what s room None refl refl c.unless_refused-then-not-is_due.ensures
    (λ st w q.
    let stands = standing_by s sized st in
    ends-still (lent (length room) what) s room refl stands (sent-taken s p.revision p.next_event p.grant_horizon (length room) stands w proper) nothing q)
    in
    record { promised = o.0; bytes = o.1 }

pub returns : goal.returns
returns c =
    let p = c.args.publication in
    let s = c.args.state in
    let n = length c.args.room.now in
    let what = sent p.revision p.next_event p.grant_horizon in
    let proper = sym c.has_proper_tags.ensures ∙ c.if-not-has_proper_tags.false in
    let due = c.if-not-is_due.false in
    let b = c.is_due.result in
    let sized : Sized s = search rules in
    let o = ends_as (lent n (acquire p.revision s.grant_horizon)) (lent n what) s c.args.room.now c.handle_acquisition.new.room c.handle_acquisition.result
    (refused-alike n (acquire p.revision s.grant_horizon) what s refl refl
    (λ st w.
    let stands = standing_by s sized st in (
      acquire-taken n p.revision s.grant_horizon s stands w (horizon-proper s p.revision p.next_event p.grant_horizon b c.is_due.ensures stands due),
      sent-taken s p.revision p.next_event p.grant_horizon n stands w proper,
    )))
    refl (λ z. sent-due s p.revision p.next_event p.grant_horizon b c.is_due.ensures due)
    (c.handle_acquisition.ensures.promised, c.handle_acquisition.ensures.bytes)
    in
    record { promised = o.0; bytes = o.1 }
