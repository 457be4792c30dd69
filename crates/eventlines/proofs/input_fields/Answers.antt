-- `eventlines::input_fields`: the count is at most the 32 that its reading was given. Assumes nothing.
use mathlib.Core.Path.{sym}
use Rattle.numerals.proofs.Numbers.{number-le}
use Rattle.eventlines.proofs.input_fields.Goals as goal

pub listed_enclaves-requires : goal.listed_enclaves-requires
listed_enclaves-requires c = number-le 32 _ c.in_ok-n.n (sym c.in_ok-n.ensures)
