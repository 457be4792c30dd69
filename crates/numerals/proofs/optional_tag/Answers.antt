-- `numerals::optional_tag` meets its contract: `-`, and else what `tag` promises. Assumes nothing.
use mathlib.Core.Path.{sym, ◌∙◌}
use Rattle.numerals.specs.Numerals.{optional_tag_of}
use Rattle.numerals.proofs.optional_tag.Goals as goal

pub returns-then-same_bytes : goal.returns-then-same_bytes
unfolding optional_tag_of
returns-then-same_bytes c = rw (sym c.same_bytes.ensures ∙ c.if-same_bytes.true)

pub returns-in_err-tag : goal.returns-in_err-tag
unfolding optional_tag_of
returns-in_err-tag c = rw (c.from_residual.ensures, sym c.same_bytes.ensures ∙ c.if-same_bytes.false, sym c.tag.ensures ∙ c.in_err-tag.was)

pub returns : goal.returns
unfolding optional_tag_of
returns c = rw (sym c.same_bytes.ensures ∙ c.if-same_bytes.false, sym c.tag.ensures ∙ c.in_ok-tag.was)
