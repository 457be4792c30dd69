-- `script::header` is the count after the word: by the spaces of the line, and by its word where it has one space. Assumes nothing.
use mathlib.Core.Path.{refl, sym, ◌∙◌}
use native.Mathlib.Omega.{arith}
use Rattle.script.proofs.Headers.{header-one, header-three, header-two}
use Rattle.script.proofs.header.Goals as goal

pub returns-then-line-first : goal.returns-then-line-first
returns-then-line-first c = header-one _ _ _ _ c.find-first.ensures.0 c.if-line-first.true

pub returns-then-second-rest : goal.returns-then-second-rest
returns-then-second-rest c = header-three _ _ _ _ c.find-first.ensures.0 (omega arith) _ refl _ c.find-second.ensures.0 c.if-second-rest.true

pub returns-then-same_bytes : goal.returns-then-same_bytes
returns-then-same_bytes c = let two = header-two _ _ _ _ c.find-first.ensures.0 c.if-line-first.false _ refl _ c.find-second.ensures.0 c.if-second-rest.false in
    c.number.ensures ∙ sym (two ∙ rw (sym c.same_bytes.ensures ∙ c.if-same_bytes.true) refl)

pub returns : goal.returns
returns c = let two = header-two _ _ _ _ c.find-first.ensures.0 c.if-line-first.false _ refl _ c.find-second.ensures.0 c.if-second-rest.false in
    sym (two ∙ rw (sym c.same_bytes.ensures ∙ c.if-same_bytes.false) refl)
