-- `observation::handle_observation` meets its promise: 27, 8, 3 and 4 first; an observation that is ignored or a repeat changes nothing; any other is stored,
-- and once all have it all are cleared and the rule moves the coordination. Assumes nothing.
use Rattle.std.proofs.Common.{◌≡◌, ◌+◌, true, refl, sym, ap, ◌∙◌, length, rules, arith}
use Rattle.rules.specs.Model.{observe}
use Rattle.state.specs.Parts.{Sized}
use Rattle.state.proofs.Rows.{seated-in}
use Rattle.state.proofs.Neat.{phase-bound}
use Rattle.calls.specs.Called.{lent}
use Rattle.calls.proofs.Standing.{Standing, standing}
use Rattle.calls.proofs.Ends.{ends-27}
use Rattle.observation.proofs.Taking.{Enters, Sits, Counted, large_room, short_ends, said-written, observe-3}
use Rattle.observation.proofs.Taking.{observe-4, observe-ignored, observe-repeat, observe-stored, observe-agreed}
use Rattle.observation.proofs.handle_observation.Goals as goal
use Rattle.observation.proofs.handle_observation.Goals.{After-is_sound, Else-is_some, In-Some, After-from-cell}

-- ---- the places on the way

stands : (c : After-is_sound) → c.is_sound.result ≡ true → Standing c.args.state
stands c h = let sized : Sized c.args.state = search rules in standing c.args.state sized c.is_sound.ensures h

-- past 27 and 8
enters : (c : Else-is_some) → Standing c.args.state → Enters c.args.state c.args.room.now
enters c st = record { stands = st; large = large_room c.args.state c.args.room.now c.room_first-refusal.ensures (sym c.is_some.ensures ∙ c.if-is_some.false) }

-- past 3
sits : (c : In-Some) → let a = c.args in Sits a.enclave a.revision a.observation a.state a.room.now c.in-Some.place
sits c =
    let at = goal.at.judged-requires c in
    let n = enters at.Else-is_some (stands at.After-is_sound c.if-not-is_sound.false) in
    record { enters = n; seat = seated-in c.args.state c.args.enclave n.stands.ascends c.in-Some.ensures }

-- ---- 27, 8 and 3

pub returns-then-not-is_sound : goal.returns-then-not-is_sound
returns-then-not-is_sound c =
    let a = c.args in
    let o = ends-27 (lent (length a.room.now) (observe a.enclave a.revision a.observation)) a.state a.room.now refl
    c.is_sound.ensures c.if-not-is_sound.true c.with_reply.ensures
    in
    record { promised = o.0; bytes = o.1 }

pub room_first-refusal-requires : goal.room_first-refusal-requires
room_first-refusal-requires c = (stands (goal.at.room_first-refusal-requires c).After-is_sound c.if-not-is_sound.false).few

pub returns-then-is_some : goal.returns-then-is_some
returns-then-is_some c =
    let a = c.args in
    let st = stands (goal.at.returns-then-is_some c).After-is_sound c.if-not-is_sound.false in
    let o = short_ends a.state a.room.now c.room_first-refusal.ensures (observe a.enclave a.revision a.observation) refl refl st
    (sym c.is_some.ensures ∙ c.if-is_some.true) c.with_reply-then-is_some.ensures
    in
    record { promised = o.0; bytes = o.1 }

pub find-requires : goal.find-requires
find-requires c = (stands (goal.at.find-requires c).After-is_sound c.if-not-is_sound.false).few

pub returns-in_default : goal.returns-in_default
returns-in_default c =
    let a = c.args in
    let at = goal.at.returns-in_default c in
    let n = enters at.Else-is_some (stands at.After-is_sound c.if-not-is_sound.false) in
    let o = observe-3 a.enclave a.revision a.observation n c.in_default.ensures c.with_reply-in_default.ensures in
    record { promised = o.0; bytes = o.1 }

pub judged-requires : goal.judged-requires
judged-requires c = phase-bound _ (sits c).enters.stands.good.neat

-- ---- ignored, refused, a repeat, stored, agreed

pub bounds-state-place : goal.bounds-state-place
bounds-state-place c = let n = sits (goal.at.bounds-state-place c).In-Some in omega (arith, n.seat.within, n.enters.stands.few)

pub bounds-state-place-in-Counts : goal.bounds-state-place-in-Counts
bounds-state-place-in-Counts c = let n = sits (goal.at.bounds-state-place-in-Counts c).In-Some in omega (arith, n.seat.within, n.enters.stands.few)

pub all_observed-requires : goal.all_observed-requires
all_observed-requires c = (sits (goal.at.all_observed-requires c).In-Some).enters.stands.few

pub clear-requires : goal.clear-requires
clear-requires c = (sits (goal.at.clear-requires c).In-Some).enters.stands.few

pub returns-in-Ignored : goal.returns-in-Ignored
returns-in-Ignored c =
    let o = observe-ignored (sits (goal.at.returns-in-Ignored c).In-Some) c.judged.ensures c.in-Ignored.is c.with_reply-in-Ignored.ensures in
    record { promised = o.0; bytes = o.1 }

pub returns-in-Refused : goal.returns-in-Refused
returns-in-Refused c =
    let o = observe-4 (sits (goal.at.returns-in-Refused c).In-Some) c.judged.ensures c.in-Refused.is c.with_reply-in-Refused.ensures in
    record { promised = o.0; bytes = o.1 }

-- one that counts
counted : (c : After-from-cell) → let a = c.args in Counted a.enclave a.revision a.observation a.state a.room.now c.in-Some.place (c.from-cell.result + 1)
counted c = record {
  sits = sits (goal.at.bounds-state-place c).In-Some;
  counts = sym c.in-Counts.is ∙ c.judged.ensures;
  cell = ap (λ x. x + 1) c.from-cell.ensures;
}

pub returns-then-state-place : goal.returns-then-state-place
returns-then-state-place c =
    let o = observe-repeat (counted (goal.at.returns-then-state-place c).After-from-cell) c.if-state-place.true c.with_reply-then-state-place.ensures in
    record { promised = o.0; bytes = o.1 }

pub returns-then-not-all_observed : goal.returns-then-not-all_observed
returns-then-not-all_observed c =
    let o = observe-stored (counted (goal.at.returns-then-not-all_observed c).After-from-cell) c.if-state-place.false c.all_observed.ensures c.if-not-all_observed.true
    c.with_reply-then-not-all_observed.ensures
    in
    record { promised = o.0; bytes = o.1 }

pub returns-else-not-all_observed : goal.returns-else-not-all_observed
returns-else-not-all_observed c =
    let k = counted (goal.at.returns-else-not-all_observed c).After-from-cell in
    let moved = c.agreed-moved.result in
    let said = said-written moved c.args.state.count k.sits.enters.large c.add_notice-written.ensures.adds in
    let o = observe-agreed k c.if-state-place.false c.all_observed.ensures c.if-not-all_observed.false moved (λ h. c.agreed-moved.ensures _ h refl refl)
    said.number said.bytes (c.with_reply-in-Counts.ensures ∙ rw c.clear.ensures refl)
    in
    record { promised = o.0; bytes = o.1 }
