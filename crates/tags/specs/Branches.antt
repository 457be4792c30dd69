-- How a proof follows the code through a choice: each test of the code is a call whose result `r` is the definition's test `p`, and the lemmas turn
-- that, with `r ≡ true` or `r ≡ false`, into the side of `cond`, `&&` or `||` that the definition takes. No contract cites this file; it stands in
-- specs/ so that the proofs of every crate can. Assumes nothing.
use Rattle.std.specs.Prelude.{Bool, true, false, not, cond, ◌&&◌, ◌||◌, ◌≡◌, refl}
use Rattle.std.proofs.Common.{sym, ap, ◌∙◌}

pub yes : {A : Type 0} {p : Bool} {a x : A} (b : A) → p ≡ true → x ≡ a → x ≡ cond p a b
yes b e h = rw e h

pub no : {A : Type 0} {p : Bool} {b x : A} (a : A) → p ≡ false → x ≡ b → x ≡ cond p a b
no a e h = rw e h

-- the same where the test went through a call's result
pub yes-by : {A : Type 0} {p r : Bool} {a x : A} (b : A) → r ≡ p → r ≡ true → x ≡ a → x ≡ cond p a b
yes-by b e t h = yes b (sym e ∙ t) h

pub no-by : {A : Type 0} {p r : Bool} {b x : A} (a : A) → r ≡ p → r ≡ false → x ≡ b → x ≡ cond p a b
no-by a e t h = no a (sym e ∙ t) h

-- the same under a function
pub yes-in : {A B : Type 0} (g : A → B) (p : Bool) (a b : A) {r : Bool} {x : B} → r ≡ p → r ≡ true → x ≡ g a → x ≡ g (cond p a b)
yes-in g p a b e t h = rw (sym e ∙ t) h

pub no-in : {A B : Type 0} (g : A → B) (p : Bool) (a b : A) {r : Bool} {x : B} → r ≡ p → r ≡ false → x ≡ g b → x ≡ g (cond p a b)
no-in g p a b e t h = rw (sym e ∙ t) h

pub not_same : {p q : Bool} → p ≡ q → not p ≡ not q
not_same e = ap not e

-- and, or: the second test is made only where the first leaves it open
pub and_yes : {p r x : Bool} (q : Bool) → r ≡ p → r ≡ true → x ≡ q → x ≡ (p && q)
and_yes q e t h = rw (sym e ∙ t) h

pub and_no : {p r : Bool} (q : Bool) → r ≡ p → r ≡ false → false ≡ (p && q)
and_no q e t = rw (sym e ∙ t) refl

pub or_yes : {p r : Bool} (q : Bool) → r ≡ p → r ≡ true → true ≡ (p || q)
or_yes q e t = rw (sym e ∙ t) refl

pub or_no : {p r x : Bool} (q : Bool) → r ≡ p → r ≡ false → x ≡ q → x ≡ (p || q)
or_no q e t h = rw (sym e ∙ t) h

-- a test's value by the call that made it
pub is_true : {p r : Bool} → r ≡ p → r ≡ true → p ≡ true
is_true e t = sym e ∙ t

pub is_false : {p r : Bool} → r ≡ p → r ≡ false → p ≡ false
is_false e t = sym e ∙ t

-- what `search` follows the branches of a function by: `search (rules, branches)`
pub ruleset branches = (yes-by, no-by, yes, no, yes-in, no-in, not_same, and_yes, and_no, or_yes, or_no)
