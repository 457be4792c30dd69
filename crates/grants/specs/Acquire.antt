-- Document 01, "Acquisition", as the code takes it: what the functions that decide, unpublish and write promise of a state. Assumes nothing.
use Rattle.std.specs.Prelude.{◌≡◌, Bool, false, not, ◌&&◌, ◌||◌, List, ◌∷◌, ℕ, T, eqb, get_or, None, Some}
use Rattle.tags.specs.Tags.{is_at_or_below}
use Rattle.rules.specs.Model.{Tag, CoordinationAction, AdvanceHorizon, Grant}
use Rattle.rules.specs.Walk.{quiet, emit}
use Rattle.rules.specs.Acquisition.{tag_or, not_above, acquisition_of}
use Rattle.state.specs.declared.FederateCoordinationState.{FederateCoordinationState as Held}
use Rattle.state.specs.declared.Coordination.{Coordination}
use Rattle.state.specs.declared.Gate.{Gate}
use Rattle.state.specs.Cells.{optional_of, is_neat}
use Rattle.state.specs.Walk.{each_from}
use Rattle.state.specs.View.{tag_at, view, neat_coordination, neat_gate}
use Rattle.state.specs.Parts.{with_gate}
use Rattle.table.specs.Flags.{Without}
use Rattle.grants.specs.declared.Granted.{Granted}
use Rattle.grants.specs.declared.Acquired.{Acquired}

-- ---- small parts

-- "stopped or .. of another revision"
abbrev pub is_stale : ℕ → Coordination → Bool
is_stale r c = eqb c.phase 6 || not (eqb r c.revision)

-- "no publication is pending, and there is no horizon or the tag is not above it"
abbrev pub brings_nothing : Tag → Held → Bool
brings_nothing t s = not s.coordination.pending && not_above t (optional_of s.grant_horizon)

-- the acquisition is stored
abbrev pub storing : ℕ → Tag → Gate → Gate
storing r t g = record g { stored_revision = r; stored_granted = t }

-- the tag is granted to all
abbrev pub granting : Tag → Gate → Gate
granting t g = record g { granted = t }

-- ---- the participant at place j is granted, and with which action

abbrev pub grantable_at : Held → Tag → ℕ → Bool
grantable_at s t j = get_or s.published j false && is_at_or_below (optional_of (tag_at s j)) t

abbrev pub grant_at : Held → Tag → ℕ → CoordinationAction
grant_at s t j = Grant (get_or s.enclaves j 0) (tag_or t (optional_of (tag_at s j)))

-- the Grants up to a tag, of the first n places
abbrev pub grants_of : Held → Tag → ℕ → List CoordinationAction
grants_of s t n = each_from (grantable_at s t) (grant_at s t) 0 n

-- qs are the flags of s without those that are granted
abbrev pub Unpublished : Held → Tag → List Bool → Type 0
Unpublished s t qs = Without (grantable_at s t) s s.count qs

-- ---- the whole

-- the state with this gate, these flags and what is granted
abbrev pub granted_in : Held → Gate → Granted → List Bool → Held
granted_in s k g qs = record s { published = qs; coordination = g.coordination; gate = k; grant_horizon = g.horizon }

-- the acquisition of revision r and tag t grants g in s, with this gate
pub record Grants (r : ℕ) (t : Tag) (s : Held) (k : Gate) (g : Granted) : Type 0 where
  pub neat : T (neat_coordination g.coordination)
  pub cell : T (is_neat g.horizon)
  pub moves : (qs : List Bool) → Unpublished s g.tag qs
      → acquisition_of r t (view s) ≡ emit (AdvanceHorizon g.horizon ∷ grants_of s g.tag s.count) (view (granted_in s k g qs))

-- a is the acquisition of revision r and tag t in s
pub record Acquires (r : ℕ) (t : Tag) (s : Held) (a : Acquired) : Type 0 where
  pub tidy : T (neat_gate a.gate)
  pub stays : a.granted ≡ None → acquisition_of r t (view s) ≡ quiet (view (with_gate a.gate s))
  pub moves : (g : Granted) → a.granted ≡ Some g → Grants r t s a.gate g
