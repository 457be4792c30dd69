-- `numerals::find` meets its contract: std's place of the first byte c, or the length. Assumes nothing.
use Rattle.std.proofs.Common.{◌≡◌, ◌≢◌, ℕ, ◌+◌, List, ◌∷◌, refl, sym, ◌∙◌, rules, add-one}
use Rattle.std.proofs.lemmas.Iterator.{IsFirst-from_position, index_from_first, YieldsList-from_slice}
use Rattle.std.proofs.lemmas.Bool.{eq-eqb}
use borrow.Author.Tests.{tests, ne_eqb}
use Rattle.numerals.specs.Told.{until}
use Rattle.numerals.proofs.find.Goals as goal

here : (c x : ℕ) (xs : List ℕ) → x ≡ c → until c (x ∷ xs) ≡ 0
here c x xs e = rw (eq-eqb x c e)

later : (c x : ℕ) (xs : List ℕ) → x ≢ c → until c (x ∷ xs) ≡ until c xs + 1
later c x xs e = rw (ne_eqb x c e, add-one (until c xs))

pub returns : goal.returns
returns c =
    let a = c.args in
    let first = IsFirst-from_position _ _ c.position.result (λ b. b ≡ a.c) (λ b. b ≢ a.c) c.position.ensures.ran
    (YieldsList-from_slice a.s.now c.iter.ensures.rest) (λ x q k. search (rules, tests)) (λ x q k. search (rules, tests)) in
    (c.unwrap_or.ensures ∙ sym (index_from_first (until a.c) _ _ refl (here a.c) (later a.c) a.s.now _ first), search rules)
