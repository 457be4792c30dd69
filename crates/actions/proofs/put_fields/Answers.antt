-- `actions::put_fields` meets its contract: head, tag and second tag, put one right after the other, are one run. Assumes nothing.
use mathlib.Core.Path.{refl, ◌∙◌}
use native.Mathlib.Omega.{arith}
use Rattle.actions.specs.Record.{head_bytes, optional_bytes, bytes_of}
use Rattle.actions.proofs.Record.{length-optional, put_three}
use Rattle.actions.proofs.put_fields.Goals as goal

pub returns : goal.returns
unfolding bytes_of
returns c = let a = c.args in
    c.put_run-3.ensures
    ∙ rw (c.put_run-2.ensures, c.put_run.ensures)
    (rw (c.optional_bytes-2.ensures, c.optional_bytes.ensures, c.head_bytes.ensures)
    (put_three a.room.now a.at (head_bytes a.f) (optional_bytes a.f.first) (optional_bytes a.f.second) refl
    (length-optional a.f.first) (length-optional a.f.second) (omega arith)))
