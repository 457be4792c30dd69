-- `reader::line` is the line at a place: the part up to its end, which lies within the script, or nothing past it. Assumes nothing.
use native.Mathlib.Omega.{arith}
use Rattle.reader.proofs.Lines.{end-within}
use Rattle.reader.proofs.line.Goals as goal

pub slice_bounds-result-end : goal.slice_bounds-result-end
slice_bounds-result-end c =
    let given = c.args.reader in
    omega (arith, end-within given.script.now given.at (omega arith), c.end_of-end.ensures)
