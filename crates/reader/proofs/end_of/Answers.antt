-- `reader::end_of` is where the line ends: as many bytes on as stand before the first LF, or at the place itself past the script. Assumes nothing.
use Rattle.reader.proofs.Lines.{end-found}
use Rattle.reader.proofs.end_of.Goals as goal

pub returns : goal.returns
returns c = end-found _ _ _ c.find-length.ensures.0
