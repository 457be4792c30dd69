-- `session::list_end` lists nothing in less than 240 bytes, else the last line, of what the queries answer. Assumes nothing.
use Rattle.std.proofs.Common.{sym, ◌∙◌}
use Rattle.session.proofs.Opens.{lists-line, end_refused, end-told}
use Rattle.session.proofs.list_end.Goals as goal

pub returns-then-not-is_sound : goal.returns-then-not-is_sound
returns-then-not-is_sound c =
    lists-line c.if-out-lt240.false c.put_end.ensures (end_refused c.args.state (sym c.is_sound.ensures ∙ c.if-not-is_sound.true))

pub returns : goal.returns
returns c =
    lists-line c.if-out-lt240.false c.put_end-2.ensures
    (end-told c.args.state (sym c.is_sound.ensures ∙ c.if-not-is_sound.false) c.phase_of-phase.ensures c.optional_of-completed.ensures
    c.optional_of-granted.ensures c.no_publication_and_no_probe-settled.ensures)
