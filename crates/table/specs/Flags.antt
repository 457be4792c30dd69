-- The published flags of a state, cleared at some of its first n places. Assumes nothing.
use Rattle.std.specs.Prelude.{◌≡◌, Bool, false, not, ◌&&◌, List, ℕ, ◌≤◌, ◌<◌, length, get_or}
use Rattle.state.specs.declared.FederateCoordinationState.{FederateCoordinationState as Held}

-- qs are the flags of s without those of the first n places that f names
pub record Without (f : ℕ → Bool) (s : Held) (n : ℕ) (qs : List Bool) : Type 0 where
  pub long : length qs ≡ length s.published
  pub within : (j : ℕ) → j < n → get_or qs j false ≡ (get_or s.published j false && not (f j))
  pub beyond : (j : ℕ) → n ≤ j → get_or qs j false ≡ get_or s.published j false

-- the same, where a call of place j may answer b if P j b
pub record Cleared (P : ℕ → Bool → Type 0) (s : Held) (n : ℕ) (qs : List Bool) : Type 0 where
  pub long : length qs ≡ length s.published
  pub within : (j : ℕ) → j < n → (b : Bool) × P j b × (get_or qs j false ≡ (get_or s.published j false && not b))
  pub beyond : (j : ℕ) → n ≤ j → get_or qs j false ≡ get_or s.published j false
