-- The first fields stand in the room. Assumes nothing.
use Rattle.std.proofs.Common.{◌≡◌, length, take}
use Rattle.printing.specs.Runs.{Puts}
use Rattle.fields.specs.Fields.{room_for, fields_text}
use Rattle.fields.proofs.put_fields.Given as goal

abbrev pub invariant-loop-field : goal.invariant-loop-field
invariant-loop-field l = (length l.out ≡ length l.initial.out)
    × Puts l.initial.out l.at (fields_text (take l.field-index l.fields)) (room_for (take l.field-index l.fields)) l.place l.out
