-- `actions::write_action` meets its contract: the record is made of the action's fields. Assumes nothing.
use Rattle.actions.proofs.Record.{record-written}
use Rattle.actions.proofs.write_action.Goals as goal

pub returns : goal.returns
returns c =
    let w = record-written _ _ c.args.room.now _ _ _ c.fields_of.ensures (c.write_fields.ensures.value, c.write_fields.ensures.bytes) in
    record { value = w.0; bytes = w.1 }
