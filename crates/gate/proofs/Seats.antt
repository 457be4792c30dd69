-- Which enclaves of a list are known is found by their places. Assumes nothing.
use Rattle.std.specs.Prelude.{None, Option, Some}
use Rattle.std.specs.Option.{is_some}
use mathlib.Core.Path.{◌≡◌, refl, ap₂}
use mathlib.Core.Bool.{◌&&◌}
use mathlib.Core.List.{List, [], ◌∷◌}
use Prim.Native.Nat.{ℕ}
use lib.Dec.{T}
use Rattle.rules.specs.Walk.{knows}
use Rattle.rules.specs.Calls.{ascending, knows_all}
use Rattle.state.specs.declared.FederateCoordinationState.{FederateCoordinationState as Held}
use Rattle.state.specs.View.{rows_of}
use Rattle.state.specs.Parts.{place_in}
use Rattle.state.proofs.Rows.{known, nobody, seated-in}
use Rattle.gate.specs.Parts.{all_found}

-- every enclave of a list is known where each has a place
pub knows-found : (s : Held) → T (ascending (rows_of s)) → (es : List ℕ) → knows_all es (rows_of s) ≡ all_found s es
knows-found s a [] = refl
knows-found s a (e ∷ es) = ap₂ ◌&&◌ (go (place_in s e) refl) (knows-found s a es)
  where
    go : (m : Option ℕ) → m ≡ place_in s e → knows e (rows_of s) ≡ is_some m
    go (Some i) h = known s e i (seated-in s e a h)
    go None h = nobody s e h
