-- `acquisition::input_progress` keeps the promise of the call `progress`: it is the acquisition that is stored, which is refused by 27 and 8 as the
-- call is; or quiet past these two where none is stored. Assumes nothing.
use Rattle.std.specs.Prelude.{None}
use mathlib.Core.Path.{◌≡◌, refl, sym, ◌∙◌}
use mathlib.Core.Bool.{false}
use lib.ListN.{length}
use borrow.Author.Rules.{rules}
use Rattle.rules.specs.Model.{acquire, progress}
use Rattle.state.specs.Cells.{is_absent}
use Rattle.state.specs.Parts.{Sized}
use Rattle.calls.specs.Called.{lent}
use Rattle.calls.proofs.Standing.{standing_by}
use Rattle.calls.proofs.Ends.{ends-still, refused-alike, ends_as}
use Rattle.acquisition.proofs.Acquiring.{acquire-taken}
use Rattle.acquisition.proofs.Repeats.{progress-taken, progress-none, progress-some, stored-proper}
use Rattle.acquisition.proofs.Unless.{ends-unless}
use Rattle.acquisition.proofs.input_progress.Goals as goal

pub returns-then-is_absent : goal.returns-then-is_absent
returns-then-is_absent c =
    let s = c.args.state in
    let room = c.args.room.now in
    let none = progress-none s (sym c.is_absent.ensures ∙ c.if-is_absent.true) in
    let sized : Sized s = search rules in
    let o = ends-unless progress s room None refl refl c.unless_refused.ensures
    (λ p w q. let st = standing_by s sized p in ends-still (lent (length room) progress) s room refl st (progress-taken s (length room) st w) none q)
    in
    record { promised = o.0; bytes = o.1 }

pub returns : goal.returns
returns c =
    let s = c.args.state in
    let n = length c.args.room.now in
    let r = s.gate.stored_revision in
    let t = s.gate.stored_granted in
    let present : is_absent t ≡ false = sym c.is_absent.ensures ∙ c.if-is_absent.false in
    let sized : Sized s = search rules in
    let o = ends_as (lent n (acquire r t)) (lent n progress) s c.args.room.now c.handle_acquisition.new.room c.handle_acquisition.result
    (refused-alike n (acquire r t) progress s refl refl
    (λ p w. let st = standing_by s sized p in (acquire-taken n r t s st w (stored-proper s st present), progress-taken s n st w)))
    refl (λ z. progress-some s present) (c.handle_acquisition.ensures.promised, c.handle_acquisition.ensures.bytes)
    in
    record { promised = o.0; bytes = o.1 }
