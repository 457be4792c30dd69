-- `octets::le` meets its contract: the lowest bytes of std's are those. Assumes nothing.
use Rattle.std.proofs.Common.{take, ap, ◌∙◌}
use Rattle.octets.proofs.LittleEndian.{take_bytes}
use Rattle.octets.proofs.le.Goals as goal

pub returns : goal.returns
returns g c = c.copy_from_slice.ensures.after ∙ ap (take g.row.N) c.to_le_bytes-all.ensures ∙ take_bytes g.row.N c.args.n c.requires
