-- `federate::place_for` is `place_for`: past 27 the state stands as its calls ask. Assumes nothing.
use mathlib.Core.Path.{◌≡◌}
use mathlib.Core.Bool.{true}
use borrow.Author.Rules.{rules}
use Rattle.state.specs.Parts.{Sized}
use Rattle.state.proofs.Rows.{apart}
use Rattle.calls.proofs.Standing.{Standing, standing}
use Rattle.federate.proofs.place_for.Goals as goal
use Rattle.federate.proofs.place_for.Goals.{After-is_sound}

stands : (c : After-is_sound) → c.is_sound.result ≡ true → Standing c.args.state.now
stands c h = standing c.args.state.now sized c.is_sound.ensures h
  where
    sized : Sized c.args.state.now
    sized = record { enclaves = search rules; published = search rules; observation = search rules; acknowledged = search rules; observed = search rules; seconds = search rules; nanoseconds = search rules; microsteps = search rules }

pub place_of-place-requires : goal.place_of-place-requires
place_of-place-requires c = let st = stands (goal.at.place_of-place-requires c).After-is_sound c.if-not-is_sound.false in (st.few, apart c.args.state.now st.ascends)

pub room_first-requires : goal.room_first-requires
room_first-requires c = (stands (goal.at.room_first-requires c).After-is_sound c.if-not-is_sound.false).few
