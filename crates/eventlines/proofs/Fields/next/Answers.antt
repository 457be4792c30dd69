-- `eventlines::Fields::next`: no field, or the one up to the next space and those from there on. Assumes nothing.
use Prim.Native.Nat.{◌+◌, ◌-◌}
use mathlib.Core.Path.{ap, ◌∙◌}
use native.Mathlib.Omega.{arith}
use lib.ListN.{length, drop, length-drop}
use lib.Seq.{take_all}
use Rattle.numerals.specs.Numerals.{space}
use Rattle.numerals.specs.Told.{until}
use Rattle.eventlines.proofs.Between.{fields-end, fields-next}
use Rattle.eventlines.proofs.Fields.next.Goals as goal

pub returns-then-line-self : goal.returns-then-line-self
returns-then-line-self c = let f = c.args.self.now in fields-end f.line.now f.at c.if-line-self.true

pub returns : goal.returns
returns c = let f = c.args.self.now in
    let line = f.line.now in
    let rest = take_all (length line - (f.at + 1)) (drop (f.at + 1) line) (rw length-drop (omega arith)) in
    fields-next line f.at _ (omega arith) (ap (λ n. f.at + 1 + n) (c.find.ensures.0 ∙ ap (until space) rest))
