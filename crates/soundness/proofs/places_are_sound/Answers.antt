-- `soundness::places_are_sound` is `rises` and `sound_at` at every place: each return, and each further place, by the laws of Places. Assumes nothing.
use Rattle.std.proofs.Common.{◌-◌, sym, ◌∙◌, arith}
use Rattle.soundness.proofs.Places.{ceiling-at, index-fails, place-fails, place-passes, all_none}
use Rattle.soundness.proofs.places_are_sound.Goals as goal
use Rattle.soundness.proofs.places_are_sound.Goals.{then-above-index-via-then-above-index, then-above-index-via-else-above-index+then-not-place_is_sound}

pub returns-then-above-index : goal.returns-then-above-index
returns-then-above-index c =
    let s = c.args.state.now in
    let l = c.loop-i in
    elim c.then-above-index.branch [
      | then-above-index-via-then-above-index w ↦ index-fails s l.i c.loop-i-test.true l.invariant.0 w.if-above-index.true ∙ sym l.invariant.1
      | then-above-index-via-else-above-index+then-not-place_is_sound w ↦
          place-fails s l.i c.loop-i-test.true l.invariant.0 w.place_is_sound.ensures w.if-not-place_is_sound.true ∙ sym l.invariant.1
    ]

pub loop-i-preserved : goal.loop-i-preserved
loop-i-preserved c =
    let s = c.args.state.now in
    let l = c.loop-i in (
      ceiling-at s (l.i - 1) (omega arith),
      l.invariant.1 ∙ place-passes s l.i c.loop-i-test.true l.invariant.0 c.if-above-index.false c.place_is_sound.ensures c.if-not-place_is_sound.false,
    )

pub returns : goal.returns
returns c = all_none _ c.loop-i.i (omega arith) ∙ sym c.loop-i.invariant.1
