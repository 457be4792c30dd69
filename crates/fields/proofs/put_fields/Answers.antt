-- `fields::put_fields` meets its contract: one field more, right after those before it. Assumes nothing.
use Rattle.std.proofs.Common.{refl, arith}
use Rattle.printing.proofs.Runs.{put-nothing}
use Rattle.fields.specs.declared.Field.TheVariants.{Number}
use Rattle.fields.proofs.Lines.{room_more, then-field}
use Rattle.fields.proofs.put_fields.Goals as goal

pub loop-field-init : goal.loop-field-init
loop-field-init c = (refl, put-nothing c.args.out.now c.args.at 0)

pub put_field-place-requires : goal.put_field-place-requires
put_field-place-requires c = let p = c.loop-field.invariant.1 in omega (arith, room_more c.args.fields.now c.loop-field.field-index (Number 0) c.loop-field-test.true)

pub loop-field-preserved : goal.loop-field-preserved
loop-field-preserved c =
    let p = c.loop-field.invariant.1 in
    let q = c.put_field-place.ensures in
    let fits = room_more c.args.fields.now c.loop-field.field-index (Number 0) c.loop-field-test.true in
    (omega arith, then-field c.args.fields.now c.loop-field.field-index (Number 0) c.loop-field-test.true p q (omega arith))
