-- `listing::put_record` meets its contract: what lies past the bytes is no record, and has no line. Assumes nothing.
use Rattle.std.proofs.Common.{◌<◌, length, sym, ap, ◌∙◌, arith}
use Rattle.printing.proofs.Runs.{put-nothing}
use Rattle.actions.specs.Reading.{read_action}
use Rattle.listing.proofs.Records.{part-read, past-read}
use Rattle.listing.proofs.put_record.Goals as goal

pub returns-in_default : goal.returns-in_default
returns-in_default c = let a = c.args in
    let past : length a.records.now < a.from = grind arith in
    rw (past-read a.records.now a.from past) (put-nothing a.out.now a.at 160)

pub returns-in-Err : goal.returns-in-Err
returns-in-Err c = let a = c.args in
    let found = sym (c.read_action.ensures ∙ ap read_action c.in-Some.ensures.lookup.0.2 ∙ part-read a.records.now a.from) ∙ c.in-Err.is in
    rw found (put-nothing a.out.now a.at 160)
