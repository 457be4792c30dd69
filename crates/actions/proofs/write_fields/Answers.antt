-- `actions::write_fields` meets its contract: a place below the room's length by 56 is one where 56 bytes still fit. Assumes nothing.
use Prim.Native.Nat.{◌+◌, ◌*◌, ◌≤◌}
use mathlib.Core.Path.{sym, ◌∙◌}
use native.Mathlib.Omega.{arith}
use lib.ListN.{length}
use borrow.Author.Tests.{le-leb}
use Rattle.octets.proofs.Runs.{written-fits, written-not}
use Rattle.actions.specs.Record.{bytes_of}
use Rattle.actions.proofs.Record.{length-bytes}
use Rattle.actions.proofs.write_fields.Goals as goal

pub returns-then-room-place : goal.returns-then-room-place
returns-then-room-place c = let a = c.args in
    let w = written-not a.room.now (56 * a.place) (bytes_of a.f) (omega (arith, length-bytes a.f)) in
    record { value = w.0; bytes = w.1 }

pub returns : goal.returns
returns c = let a = c.args in
    let fits : 56 * a.place + length (bytes_of a.f) ≤ length a.room.now = omega (arith, length-bytes a.f) in
    record { value = sym (le-leb _ _ fits); bytes = c.put_fields.ensures ∙ sym (written-fits a.room.now (56 * a.place) (bytes_of a.f) fits) }
