-- The named among a list, by std's search of it. Assumes nothing.
use mathlib.Core.Path.{◌≡◌, refl, sym, ap₂}
use Rattle.std.specs.List.{list_any}
use mathlib.Core.Bool.{Bool, true, false, ◌||◌}
use mathlib.Core.List.{List, [], ◌∷◌}
use Prim.Native.Nat.{ℕ}
use borrow.Author.Tests.{eq-eqb, ne_eqb, eqb-true, eqb-false}
use lib.Dec.{eqb}
use Rattle.rules.specs.Walk.{among}

eqb-sym : (a b : ℕ) → eqb a b ≡ eqb b a
eqb-sym a b = go (eqb b a) refl
  where
    go : (x : Bool) → eqb b a ≡ x → eqb a b ≡ x
    go true e = eq-eqb a b (sym (eqb-true b a e))
    go false e = ne_eqb a b (λ z. eqb-false b a e (sym z))

pub among-any : (e : ℕ) (es : List ℕ) → list_any (λ y. eqb y e) es ≡ among e es
among-any e [] = refl
among-any e (y ∷ es) = ap₂ ◌||◌ (eqb-sym y e) (among-any e es)
