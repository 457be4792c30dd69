-- First halves of own rules: the tests on the phase as the code makes them, and the participants after a change of one enclave's parts.
-- By the laws of the columns' participants and of the bounds. Assumes nothing.
use Rattle.std.specs.Prelude.{None, Option}
use mathlib.Core.Path.{◌≡◌, refl, sym, ap, ◌∙◌, subst}
use mathlib.Core.Bool.{Bool, true, false}
use mathlib.Core.List.{List, map}
use Prim.Native.Nat.{ℕ, ◌<◌}
use native.Mathlib.Omega.{arith}
use lib.Dec.{T, eqb}
use borrow.Author.Tests.{eqb-true, eqb-false}
use Rattle.rules.specs.Model.{Active, Participant, State, Step}
use Rattle.rules.specs.Set.{with_participants}
use Rattle.rules.specs.Walk.{at, is, is_stopped, quiet}
use Rattle.rules.specs.Publication.{forget}
use Rattle.state.specs.declared.FederateCoordinationState.{FederateCoordinationState as Held}
use Rattle.state.specs.declared.Parts.{Parts}
use Rattle.state.specs.declared.Notice.{Notice}
use Rattle.state.specs.declared.Next.TheVariants.{Says}
use Rattle.state.specs.declared.Decided.{Decided}
use Rattle.state.specs.View.{row_at, rows_of, view, represents}
use Rattle.state.specs.Parts.{Seated, parts_of, row_put, rebuilt, cleared}
use Rattle.state.specs.Decides.{Decides, Good, conclusion, halfway}
use Rattle.state.proofs.Rows.{map-tab, only_row, rows-cleared, rows-rebuilt, tab-same}
use Rattle.state.proofs.Neat.{phase-bound, count-bounds}
use Rattle.state.proofs.Round.{phase-number}

-- ---- the phase

module _ (s : Held) (h : T (represents s)) where
  pub stopped-is : is_stopped (view s) ≡ eqb s.coordination.phase 6
  stopped-is = ap (λ n. eqb n 6) (phase-number s.coordination.phase (phase-bound s h))

  pub active-is : is Active (view s) ≡ eqb s.coordination.phase 0
  active-is = ap (λ n. eqb n 0) (phase-number s.coordination.phase (phase-bound s h))

-- ---- the participants after a change of enclave e's parts

-- a change is seen at e's place alone
at_agree : (s : Held) (e i : ℕ) (f g : Participant → Participant) → Seated s e i → f (row_at s i) ≡ g (row_at s i)
    → map (at e f) (rows_of s) ≡ map (at e g) (rows_of s)
at_agree s e i f g d h =
    map-tab (at e f) (row_at s) 0 s.count ∙
    tab-same (λ j. at e f (row_at s j)) (λ j. at e g (row_at s j)) 0 s.count (λ j p q. place j (omega arith) (eqb j i) refl) ∙
    sym (map-tab (at e g) (row_at s) 0 s.count)
  where
    place : (j : ℕ) → j < s.count → (b : Bool) → eqb j i ≡ b → at e f (row_at s j) ≡ at e g (row_at s j)
    place j q true y = let m = eqb-true j i y in rw (m, d.here) h
    place j q false y = let m = eqb-false j i y in rw (d.others j q m) refl

module _ (s : Held) (e i : ℕ) (p : Parts) (g : Good s) (d : Seated s e i) where
  pub rows-only : (f : Participant → Participant) → row_put p.row (row_at s i) ≡ f (row_at s i)
      → rows_of (rebuilt s i p s.observation s.gate) ≡ map (at e f) (rows_of s)
  rows-only f h = rows-rebuilt s e i p g.sized (count-bounds s g.sound).1 d ∙ at_agree s e i (row_put p.row) f d h

  pub rows-kept : row_put p.row (row_at s i) ≡ row_at s i → rows_of (rebuilt s i p s.observation s.gate) ≡ rows_of s
  rows-kept h = rows-rebuilt s e i p g.sized (count-bounds s g.sound).1 d ∙ sym (only_row s s e i (row_put p.row) d refl (sym h) (λ j q n. refl))

  pub rows-forgotten : (f : Participant → Participant) → row_put p.row (row_at s i) ≡ f (row_at s i)
      → rows_of (rebuilt s i p (cleared s.count s.observation) s.gate) ≡ map forget (map (at e f) (rows_of s))
  rows-forgotten f h = rows-cleared s i p g.sized (count-bounds s g.sound).1 ∙ ap (map forget) (rows-only f h)

pub view-kept : (s : Held) (e i : ℕ) → Good s → Seated s e i → view (rebuilt s i (parts_of s i) s.observation s.gate) ≡ view s
view-kept s e i g d = ap (λ (ps : List Participant). with_participants ps (view s)) (rows-kept s e i (parts_of s i) g d refl)

-- ---- a decision that depends on the parts alone

-- nothing but this action, if any
abbrev pub saying : Option Notice → Parts → Decided
saying k p = record { parts = p; forgets = false; next = Says k }

-- in s, with enclave e at place i, the rule is d and what d goes on with
abbrev pub Goes : (State → Step) → ℕ → (Parts → Decided) → Held → ℕ → Type 0
Goes rule e d s i = rule (view s) ≡ conclusion e (d (parts_of s i)).next (view (halfway s i (d (parts_of s i))))

pub goes-nothing : (rule : State → Step) (e : ℕ) (s : Held) (i : ℕ) → Good s → Seated s e i → rule (view s) ≡ quiet (view s) → Goes rule e (saying None) s i
unfolding conclusion
goes-nothing rule e s i g d h = h ∙ ap quiet (sym (view-kept s e i g d))

pub decides-by : (rule : State → Step) (e : ℕ) (C : Parts → Type 0) (d : Parts → Decided)
    → ((s : Held) (i : ℕ) → Good s → Seated s e i → C (parts_of s i) → Goes rule e d s i) → (p : Parts) → C p → Decides rule e p (d p)
decides-by rule e C d h p k s i g seat q =
    subst (λ (z : Parts). C z → rule (view s) ≡ conclusion e (d z).next (view (halfway s i (d z)))) q (h s i g seat) k
