-- `acquisition::handle_acquisition` keeps the promise of the call `acquire`: it refuses by 27, 8 and 7 in this order, and else answers what `acquire`
-- decided, with the records of AdvanceHorizon and the Grants where it grants. Assumes nothing.
use mathlib.Core.Path.{◌≡◌, refl, sym, ap, ◌∙◌}
use mathlib.Core.Bool.{Bool, true, false, ◌&&◌}
use Prim.Native.Nat.{◌+◌, ◌*◌, ◌≤◌}
use native.Mathlib.Omega.{arith}
use lib.ListN.{length}
use borrow.Author.Rules.{rules}
use Rattle.std.specs.Option.{is_some}
use Rattle.tags.specs.Tags.{is_proper}
use Rattle.records.specs.Numbers.{refusal_number}
use Rattle.rules.specs.Model.{acquire}
use Rattle.state.specs.Parts.{Sized}
use Rattle.calls.specs.Called.{lent, room_first}
use Rattle.calls.proofs.Refusals.{refuses, refuses-none}
use Rattle.calls.proofs.Standing.{Standing, standing, is-so}
use Rattle.calls.proofs.Ends.{First, ends-27, ends-first, first-none}
use Rattle.acquisition.proofs.Acquiring.{acquire-taken, stays-promised, moves-promised}
use Rattle.acquisition.proofs.handle_acquisition.Goals as goal
use Rattle.acquisition.proofs.handle_acquisition.Goals.{After-is_sound, After-room_first-refusal}

-- ---- the places on the way

stands : (c : After-is_sound) → c.is_sound.result ≡ true → Standing c.args.state
stands c h = let sized : Sized c.args.state = search rules in standing c.args.state sized c.is_sound.ensures h

-- one proper tag
alone : (b : Bool) → b ≡ (b && true)
alone true = refl
alone false = refl

-- the test of 8 and 7
first : (c : After-room_first-refusal) → let a = c.args in
    First (lent (length a.room.now) (acquire a.acquisition.revision a.acquisition.granted)) a.state c.is_proper-proper.result true c.room_first-refusal.result
first c =
    let a = c.args in
    record {
      takes = refl;
      proper = c.is_proper-proper.ensures ∙ alone (is_proper a.acquisition.granted);
      known = refl;
      is = c.room_first-refusal.ensures ∙ ap (room_first (length a.room.now) a.state.count) c.tag_first.ensures;
    }

-- past both
none : (c : After-room_first-refusal) → is_some c.room_first-refusal.result ≡ false → let a = c.args in
    (56 * (a.state.count + 2) ≤ length a.room.now) × (is_proper a.acquisition.granted ≡ true)
none c h =
    let a = c.args in
    let w = first-none (lent (length a.room.now) (acquire a.acquisition.revision a.acquisition.granted)) a.state (first c) (ap refusal_number (refuses-none c.room_first-refusal.result h)) in
    (w.0, sym c.is_proper-proper.ensures ∙ w.1)

-- ---- 27

pub returns-then-not-is_sound : goal.returns-then-not-is_sound
returns-then-not-is_sound c =
    let a = c.args in
    let o = ends-27 (lent (length a.room.now) (acquire a.acquisition.revision a.acquisition.granted)) a.state a.room.now refl
    c.is_sound.ensures c.if-not-is_sound.true c.with_reply.ensures
    in
    record { promised = o.0; bytes = o.1 }

-- ---- 8 and 7

pub room_first-refusal-requires : goal.room_first-refusal-requires
room_first-refusal-requires c = (stands (goal.at.room_first-refusal-requires c).After-is_sound c.if-not-is_sound.false).few

pub returns-then-is_some : goal.returns-then-is_some
returns-then-is_some c =
    let a = c.args in
    let at = goal.at.returns-then-is_some c in
    let o = ends-first (lent (length a.room.now) (acquire a.acquisition.revision a.acquisition.granted)) a.state (first at.After-room_first-refusal) a.room.now refl
    (stands at.After-is_sound c.if-not-is_sound.false).passing (λ z. let l = refuses c.room_first-refusal.result (sym c.is_some.ensures ∙ c.if-is_some.true) in omega arith)
    c.with_reply-then-is_some.ensures
    in
    record { promised = o.0; bytes = o.1 }

-- ---- taken: nothing more, or grants

pub add_grants-written-requires : goal.add_grants-written-requires
add_grants-written-requires c =
    let n = (stands (goal.at.add_grants-written-requires c).After-is_sound c.if-not-is_sound.false).few in
    let k = c.add-advanced.ensures.few in
    (omega arith, n)

pub unpublished-state-requires : goal.unpublished-state-requires
unpublished-state-requires c = (stands (goal.at.unpublished-state-requires c).After-is_sound c.if-not-is_sound.false).few

pub returns-in_default : goal.returns-in_default
returns-in_default c =
    let a = c.args in
    let at = goal.at.returns-in_default c in
    let st = stands at.After-is_sound c.if-not-is_sound.false in
    let w = none at.After-room_first-refusal (sym c.is_some.ensures ∙ c.if-is_some.false) in
    let n = length a.room.now in
    let passed = acquire-taken n a.acquisition.revision a.acquisition.granted a.state st w.0 w.1 in
    let decided = c.acquire-acquired.ensures a.state st.good (is-so w.1) refl refl refl in
    let o = stays-promised n a.acquisition.revision a.acquisition.granted a.state st passed c.acquire-acquired.result decided
    a.room.now _ c.in_default.is c.with_reply-in_default.ensures
    in
    record { promised = o.0; bytes = o.1 }

pub returns : goal.returns
returns c =
    let a = c.args in
    let at = goal.at.returns c in
    let st = stands at.After-is_sound c.if-not-is_sound.false in
    let w = none at.After-room_first-refusal (sym c.is_some.ensures ∙ c.if-is_some.false) in
    let n = length a.room.now in
    let passed = acquire-taken n a.acquisition.revision a.acquisition.granted a.state st w.0 w.1 in
    let decided = c.acquire-acquired.ensures a.state st.good (is-so w.1) refl refl refl in
    let o = moves-promised n a.acquisition.revision a.acquisition.granted a.state st passed c.acquire-acquired.result decided c.in-Some.granted c.in-Some.is
    a.room.now _ _ _ _ _ _ w.0 c.add-advanced.ensures.adds c.add_grants-written.ensures c.unpublished-state.ensures c.with_reply-2.ensures
    in
    record { promised = o.0; bytes = o.1 }
