-- One turn of the loop over the Grants, on plain values: those up to the place in hand are added. A candidate that is granted is there. Assumes nothing.
use Rattle.std.specs.Prelude.{None, Some}
use mathlib.Core.Path.{◌≡◌, refl, sym, subst}
use mathlib.Core.Bool.{Bool, true, false, cond, ◌&&◌}
use mathlib.Core.List.{List, [], ◌∷◌}
use Prim.Native.Nat.{ℕ, ◌+◌}
use lib.ListN.{get_or}
use Rattle.tags.specs.Tags.{is_at_or_below}
use Rattle.rules.specs.Model.{Tag, Grant}
use Rattle.rules.specs.Acquisition.{tag_or}
use Rattle.state.specs.declared.FederateCoordinationState.{FederateCoordinationState as Held}
use Rattle.state.specs.Cells.{is_absent, optional_of}
use Rattle.state.specs.View.{tag_at}
use Rattle.emission.specs.Written.{Adds}
use Rattle.emission.proofs.Adding.{add_none, add_turn}
use Rattle.grants.specs.Acquire.{grantable_at, grant_at, grants_of}

-- ---- a candidate that is granted is there

pub granted-candidate : (c t : Tag) (p : Bool) → (p && is_at_or_below (optional_of c) t) ≡ true → tag_or t (optional_of c) ≡ c
granted-candidate c t p = go (is_absent c) p
  where
    go : (b p : Bool) → (p && is_at_or_below (cond b None (Some c)) t) ≡ true → tag_or t (cond b None (Some c)) ≡ c
    go true true h = cc
    go true false h = cc
    go false p h = refl

-- ---- the records

module _ (s : Held) (t : Tag) (i : ℕ) (room room₁ : List ℕ) (n n₁ : ℕ) (before : Adds (grants_of s t i) room n room₁ n₁) where
  pub granted-turn : grantable_at s t i ≡ true → (room₂ : List ℕ) (n₂ : ℕ) → Adds (Grant (get_or s.enclaves i 0) (tag_at s i) ∷ []) room₁ n₁ room₂ n₂
      → Adds (grants_of s t (i + 1)) room n room₂ n₂
  granted-turn y room₂ n₂ one =
      add_turn (grantable_at s t) (grant_at s t) i room room₁ room₂ n n₁ n₂ before
      (subst (λ b. Adds (cond b (grant_at s t i ∷ []) []) room₁ n₁ room₂ n₂) (sym y)
      (subst (λ c. Adds (Grant (get_or s.enclaves i 0) c ∷ []) room₁ n₁ room₂ n₂) (sym (granted-candidate (tag_at s i) t (get_or s.published i false) y)) one))

  pub passed-turn : grantable_at s t i ≡ false → Adds (grants_of s t (i + 1)) room n room₁ n₁
  passed-turn y =
      add_turn (grantable_at s t) (grant_at s t) i room room₁ room₁ n n₁ n₁ before
      (subst (λ b. Adds (cond b (grant_at s t i ∷ []) []) room₁ n₁ room₁ n₁) (sym y) (add_none room₁ n₁))
