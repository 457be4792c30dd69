-- What holds of runs: they take the first calls of a script, a run of more budget goes on where a run of less ended. By induction on the number of
-- events, one line at a time. Assumes nothing.
use mathlib.Core.Path.{◌≡◌, refl, sym, ap, ◌∙◌}
use mathlib.Core.List.{List, [], ◌∷◌, ◌++◌, append_assoc}
use Prim.Native.Nat.{ℕ, zero, suc, ◌+◌, ◌*◌, ◌≤◌, min}
use native.Mathlib.Omega.{arith}
use lib.ListN.{length, take}
use lib.Seq.{length-take-le}
use Rattle.rules.specs.Model.{Call}
use Rattle.state.specs.declared.FederateCoordinationState.{FederateCoordinationState as Held}
use Rattle.calls.specs.Called.{state_of}
use Rattle.events.specs.Events.{event_of}
use Rattle.script.specs.Lines.{Reading, Bad, Good, and_then, item, items}
use Rattle.script.proofs.Good.{good-script-reads-again}
use Rattle.budget.specs.Run.{given, event_lines, run_state, run_lines, calls_by, calls_from, place_by, place_from, allowance}
use Rattle.budget.proofs.Counts.{step_count_lem}
use Rattle.budget.specs.Demands.{TakesTheLesser, TakesTheFirst, MoreExtendsLess}

-- ---- what was read after something else: each part was

bad-good : {X : Type 0} {Z : Type 0} (place : ℕ) (x : X) (n : ℕ) → ◌≡◌ {A = Reading X} (Bad place) (Good x n) → Z
bad-good place x n e = let z : ◌≡◌ {A = ℕ} 0 1 = cc in absurd (omega arith)

then-good : {X Y Z : Type 0} (r : Reading X) (f : X → ℕ → Reading Y) (y : Y) (n : ℕ) → and_then r f ≡ Good y n
    → ((x : X) (next : ℕ) → r ≡ Good x next → f x next ≡ Good y n → Z) → Z
then-good (Bad place) f y n e k = bad-good place y n e
then-good (Good x next) f y n e k = k x next refl e

good-value : {X : Type 0} (x y : X) (m n : ℕ) → ◌≡◌ {A = Reading X} (Good x m) (Good y n) → x ≡ y
good-value x y m n e = cc

-- ---- the first calls

calls-first : (m n : ℕ) (bytes : List ℕ) (at : ℕ) (cs : List Call) (last : ℕ) → items n event_of bytes at ≡ Good cs last → m ≤ n
    → calls_from m bytes at ≡ take m cs
unfolding items calls_from
calls-first zero n bytes at cs last e h = refl
calls-first (suc m) zero bytes at cs last e h = absurd (omega arith)
calls-first (suc m) (suc n) bytes at cs last e h =
    then-good (item event_of bytes at) _ cs last e
    (λ c next found rest. then-good (items n event_of bytes next) _ cs last rest
    (λ tail end ok same. ap (λ r. calls_by r (λ q. calls_from m bytes q)) found ∙ ap (λ l. c ∷ l) (calls-first m n bytes next tail end ok (omega arith))
    ∙ ap (take (suc m)) (good-value (c ∷ tail) cs end last same)))

-- ---- more budget

no-calls : {Z : Type 0} (m : ℕ) → length {A = Call} [] ≡ suc m → Z
no-calls m e = absurd (omega arith)

extends-calls : (m n : ℕ) (bytes : List ℕ) (at : ℕ) → length (calls_from m bytes at) ≡ m
    → calls_from (m + n) bytes at ≡ calls_from m bytes at ++ calls_from n bytes (place_from m bytes at)
unfolding calls_from place_from
extends-calls zero n bytes at e = let k : 0 + n ≡ n = omega arith in ap (λ j. calls_from j bytes at) k
extends-calls (suc m) n bytes at e = let k : suc m + n ≡ suc (m + n) = omega arith in
    ap (λ j. calls_from j bytes at) k ∙ go (λ next f. extends-calls m n bytes next f) (item event_of bytes at) e
  where
    go : ((next : ℕ) → length (calls_from m bytes next) ≡ m
        → calls_from (m + n) bytes next ≡ calls_from m bytes next ++ calls_from n bytes (place_from m bytes next))
        → (r : Reading Call) → length (calls_by r (λ q. calls_from m bytes q)) ≡ suc m
        → calls_by r (λ q. calls_from (m + n) bytes q) ≡ calls_by r (λ q. calls_from m bytes q) ++ calls_from n bytes (place_by r at (λ q. place_from m bytes q))
    go less (Bad place) f = no-calls m f
    go less (Good c next) f = ap (λ l. c ∷ l) (less next (omega arith))

append-state : (cs ds : List Call) (s : Held) → run_state (cs ++ ds) s ≡ run_state ds (run_state cs s)
unfolding run_state
append-state [] ds s = refl
append-state (c ∷ cs) ds s = append-state cs ds (state_of (given c) s)

append-lines : (k : ℕ) (cs ds : List Call) (s : Held) → run_lines k (cs ++ ds) s ≡ run_lines k cs s ++ run_lines (k + length cs) ds (run_state cs s)
unfolding run_state run_lines
append-lines k [] ds s = let j : k ≡ k + length {A = Call} [] = omega arith in ap (λ i. run_lines i ds s) j
append-lines k (c ∷ cs) ds s =
    let t = state_of (given c) s in
    let j : k + 1 + length cs ≡ k + length (c ∷ cs) = omega arith in
    ap (λ l. event_lines k c s ++ l) (append-lines (k + 1) cs ds t ∙ ap (λ i. run_lines (k + 1) cs t ++ run_lines i ds (run_state cs t)) j)
    ∙ sym (append_assoc (event_lines k c s) (run_lines (k + 1) cs t) (run_lines (k + length (c ∷ cs)) ds (run_state cs t)))

pub more-extends-less : MoreExtendsLess
more-extends-less bytes at m n number s e =
    let cs = calls_from m bytes at in
    let ds = calls_from n bytes (place_from m bytes at) in
    let x = extends-calls m n bytes at e in (
      x,
      ap (λ l. run_state l s) x ∙ append-state cs ds s,
      ap (λ l. run_lines number l s) x ∙ append-lines number cs ds s
          ∙ ap (λ k. run_lines number cs s ++ run_lines (number + k) ds (run_state cs s)) e,
    )

-- ---- a script's own events

pub takes-the-first : TakesTheFirst
takes-the-first bytes s last n e h = calls-first n (length s.events) bytes s.events_at s.events last (good-script-reads-again bytes s last e).reads h

enough : (budget left room : ℕ) → 5600 * min budget left ≤ room → allowance budget left room ≡ min budget left
unfolding allowance
enough budget left room h = omega arith

pub takes-the-lesser : TakesTheLesser
takes-the-lesser bytes s last budget room held e h =
    let left = length s.events in
    let n = enough budget left room h in
    let few : min budget left ≤ left = omega arith in
    step_count_lem (calls_from (allowance budget left room) bytes s.events_at) held ∙ ap (λ k. length (calls_from k bytes s.events_at)) n
    ∙ ap length (takes-the-first bytes s last (min budget left) e few) ∙ length-take-le (min budget left) s.events few
