-- The most digits that are left to write falls. Assumes nothing.
use Rattle.printing.proofs.+put_digits.Given as goal

abbrev pub decreases-put_digits : goal.decreases-put_digits
decreases-put_digits l = l.most
