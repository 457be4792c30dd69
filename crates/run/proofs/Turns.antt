-- The turns of a run: what the run of the events left gives from here is what the whole run gives. An event's lines fit in 5,600 bytes, so those of the
-- events left fit in the room left. Assumes nothing.
use mathlib.Core.Path.{◌≡◌, refl, sym, ap, ◌∙◌}
use Rattle.std.specs.Prelude.{None, Some}
use mathlib.Core.List.{List, [], ◌∷◌, ◌++◌}
use Prim.Native.Nat.{ℕ, suc, ◌+◌, ◌-◌, ◌*◌, ◌≤◌, ◌<◌}
use native.Mathlib.Omega.{arith}
use lib.ListN.{length, length-append}
use Rattle.octets.specs.Runs.{put_at}
use Rattle.octets.proofs.Runs.{put-append, put-nil, length-put}
use Rattle.rules.specs.Model.{Call}
use Rattle.state.specs.declared.FederateCoordinationState.{FederateCoordinationState as Held}
use Rattle.calls.specs.Called.{state_of}
use Rattle.events.specs.Events.{event_of}
use Rattle.script.specs.Lines.{Reading, Bad, Good, item}
use Rattle.budget.specs.Run.{given, event_lines, run_state, run_lines, step_count, calls_by, place_by, calls_from, place_from, allowance}
use Rattle.budget.proofs.Counts.{calls-few, step_count_lem}
use Rattle.run.specs.declared.Stepped.{Stepped}
use Rattle.run.specs.declared.Running.{Running}
use Rattle.run.specs.declared.Ran.{Ran}
use Rattle.run.specs.Promises.{next_number, StepsBy, Runs}
use Rattle.run.proofs.Lengths.{event-short}

-- ---- lengths

pub lines-short : (k : ℕ) (cs : List Call) (s : Held) → length (run_lines k cs s) ≤ 5600 * length cs
unfolding run_lines
lines-short k [] s = omega arith
lines-short k (c ∷ cs) s =
    rw (length-append (event_lines k c s) (run_lines (k + 1) cs (state_of (given c) s)))
    (omega (arith, event-short k c s, lines-short (k + 1) cs (state_of (given c) s)))

-- ---- what is left of a run

pub record Left (script : List ℕ) (n before : ℕ) (s₀ : Held) (at₀ : ℕ) (out₀ out : List ℕ) (s : Held) (at taken written : ℕ) : Type 0 where
  pub few : taken ≤ n
  pub fits : written + 5600 * (n - taken) ≤ length out
  pub same : length out ≡ length out₀
  pub calls : taken + length (calls_from (n - taken) script at) ≡ length (calls_from n script at₀)
  pub states : run_state (calls_from (n - taken) script at) s ≡ run_state (calls_from n script at₀) s₀
  pub places : place_from (n - taken) script at ≡ place_from n script at₀
  pub lengths : written + length (run_lines (before + taken + 1) (calls_from (n - taken) script at) s)
      ≡ length (run_lines (before + 1) (calls_from n script at₀) s₀)
  pub bytes : put_at out written (run_lines (before + taken + 1) (calls_from (n - taken) script at) s)
      ≡ put_at out₀ 0 (run_lines (before + 1) (calls_from n script at₀) s₀)

module _ (script : List ℕ) (n before : ℕ) (s₀ : Held) (at₀ : ℕ) (out₀ : List ℕ) where
  pub begins : 5600 * n ≤ length out₀ → Left script n before s₀ at₀ out₀ out₀ s₀ at₀ 0 0
  begins h =
      let z : n - 0 ≡ n = omega arith in
      let f : before + 0 + 1 ≡ before + 1 = omega arith in
      record {
        few = omega arith;
        fits = omega arith;
        same = refl;
        calls = rw z (omega arith);
        states = rw z refl;
        places = rw z refl;
        lengths = rw (z, f) (omega arith);
        bytes = rw (z, f) refl;
      }

-- an event more
module _ (script : List ℕ) (n before : ℕ) (s₀ : Held) (at₀ : ℕ) (out₀ out out' : List ℕ) (s : Held) (at taken written : ℕ)
    (l : Left script n before s₀ at₀ out₀ out s at taken written) (more : taken < n)
    (c : Call) (next : ℕ) (found : item event_of script at ≡ Good c next) (put : out' ≡ put_at out written (event_lines (before + taken + 1) c s)) where
  turn : n - taken ≡ suc (n - (taken + 1))
  turn = omega arith

  this : calls_from (n - taken) script at ≡ c ∷ calls_from (n - (taken + 1)) script next
  unfolding calls_from
  this = ap (λ k. calls_from k script at) turn ∙ ap (λ r. calls_by r (λ q. calls_from (n - (taken + 1)) script q)) found

  rest : List ℕ
  rest = run_lines (before + (taken + 1) + 1) (calls_from (n - (taken + 1)) script next) (state_of (given c) s)

  lines : run_lines (before + taken + 1) (calls_from (n - taken) script at) s ≡ event_lines (before + taken + 1) c s ++ rest
  unfolding run_lines rest
  lines =
      ap (λ cs. run_lines (before + taken + 1) cs s) this
      ∙ ap (λ k. event_lines (before + taken + 1) c s ++ run_lines k (calls_from (n - (taken + 1)) script next) (state_of (given c) s)) (omega arith)

  short : length (event_lines (before + taken + 1) c s) ≤ 5600
  short = event-short (before + taken + 1) c s

  rest-short : length rest ≤ 5600 * (n - (taken + 1))
  unfolding rest
  rest-short =
      omega (
        arith,
        lines-short (before + (taken + 1) + 1) (calls_from (n - (taken + 1)) script next) (state_of (given c) s),
        calls-few (n - (taken + 1)) script next,
      )

  pub goes_on : Left script n before s₀ at₀ out₀ out' (state_of (given c) s) next (taken + 1) (written + length (event_lines (before + taken + 1) c s))
  unfolding run_state place_from rest
  goes_on =
      let w = event_lines (before + taken + 1) c s in
      let fit = l.fits in
      let lens : length out' ≡ length out = ap length put ∙ length-put out written w (omega (arith, short)) in
      record {
        few = omega arith;
        fits = omega (arith, short, lens);
        same = lens ∙ l.same;
        calls = omega (arith, l.calls, ap length this);
        states = sym (ap (λ cs. run_state cs s) this) ∙ l.states;
        places = sym (ap (λ k. place_from k script at) turn ∙ ap (λ r. place_by r at (λ q. place_from (n - (taken + 1)) script q)) found) ∙ l.places;
        lengths = omega (arith, l.lengths, ap length lines ∙ length-append w rest);
        bytes =
            ap (λ o. put_at o (written + length w) rest) put ∙ put-append out written w rest (written + length w) refl (omega (arith, short, rest-short))
            ∙ ap (put_at out written) (sym lines) ∙ l.bytes;
      }

-- ---- no event is left, or none stands here

module _ (n taken : ℕ) (script : List ℕ) (at : ℕ) where
  pub all-taken : n ≤ taken → calls_from (n - taken) script at ≡ []
  unfolding calls_from
  all-taken h = let z : n - taken ≡ 0 = omega arith in rw z refl

  pub all_here : n ≤ taken → place_from (n - taken) script at ≡ at
  unfolding place_from
  all_here h = let z : n - taken ≡ 0 = omega arith in rw z refl

  module _ (more : taken < n) (place : ℕ) (none_here : item event_of script at ≡ Bad place) where
    pub none_found : calls_from (n - taken) script at ≡ []
    unfolding calls_from
    none_found = let z : n - taken ≡ suc (n - (taken + 1)) = omega arith in
        ap (λ k. calls_from k script at) z ∙ ap (λ r. calls_by r (λ q. calls_from (n - (taken + 1)) script q)) none_here

    pub none-moved : place_from (n - taken) script at ≡ at
    unfolding place_from
    none-moved = let z : n - taken ≡ suc (n - (taken + 1)) = omega arith in
        ap (λ k. place_from k script at) z ∙ ap (λ r. place_by r at (λ q. place_from (n - (taken + 1)) script q)) none_here

-- ---- by what a step answers

module _ (script : List ℕ) (n before : ℕ) (s₀ : Held) (at₀ : ℕ) (out₀ out out' : List ℕ) (s : Held) (at taken written : ℕ) (more : taken < n) where
  pub turns-on : Left script n before s₀ at₀ out₀ out s at taken written → (q : Stepped) (r : Reading Call) → item event_of script at ≡ r
      → StepsBy r s (before + taken + 1) written out out' (Some q) → Left script n before s₀ at₀ out₀ out' q.state q.at (taken + 1) q.written
  turns-on l q (Bad place) found (e, kept) = let z : ◌≡◌ {A = ℕ} 0 1 = cc in absurd (omega arith)
  turns-on l q (Good c next) found (e, put) =
      let is : q ≡ record { state = state_of (given c) s; at = next; written = written + length (event_lines (before + taken + 1) c s) } = cc in
      rw is (goes_on script n before s₀ at₀ out₀ out out' s at taken written l more c next found put)

  pub turns-not : (r : Reading Call) → item event_of script at ≡ r → StepsBy r s (before + taken + 1) written out out' None
      → (calls_from (n - taken) script at ≡ []) × (place_from (n - taken) script at ≡ at) × (out' ≡ out)
  turns-not (Bad place) found (e, kept) = (none_found n taken script at more place found, none-moved n taken script at more place found, kept)
  turns-not (Good c next) found (e, put) = let z : ◌≡◌ {A = ℕ} 0 1 = cc in absurd (omega arith)

-- ---- nothing more: all were taken, or no event stands here

module _ (script : List ℕ) (n before : ℕ) (s₀ : Held) (at₀ : ℕ) (out₀ out : List ℕ) (s : Held) (at taken written : ℕ)
    (l : Left script n before s₀ at₀ out₀ out s at taken written)
    (none_left : calls_from (n - taken) script at ≡ []) (here : place_from (n - taken) script at ≡ at) where
  pub ends-taken : taken ≡ length (calls_from n script at₀)
  ends-taken = omega (arith, l.calls, ap length none_left)

  pub ends-state : s ≡ run_state (calls_from n script at₀) s₀
  unfolding run_state
  ends-state = sym (ap (λ cs. run_state cs s) none_left) ∙ l.states

  pub ends-place : at ≡ place_from n script at₀
  ends-place = sym here ∙ l.places

  no_lines : run_lines (before + taken + 1) (calls_from (n - taken) script at) s ≡ []
  unfolding run_lines
  no_lines = ap (λ cs. run_lines (before + taken + 1) cs s) none_left

  pub ends-written : written ≡ length (run_lines (before + 1) (calls_from n script at₀) s₀)
  ends-written = omega (arith, l.lengths, ap length no_lines)

  pub ends-bytes : out ≡ put_at out₀ 0 (run_lines (before + 1) (calls_from n script at₀) s₀)
  ends-bytes = sym (ap (put_at out written) no_lines ∙ put-nil out written) ∙ l.bytes

-- ---- the run's promise, where nothing is left

pub ended : (script : List ℕ) (p : Running) (budget : ℕ) (out₀ out : List ℕ) (s : Held) (at taken written n before : ℕ)
    → n ≡ allowance budget p.left (length out₀) → before ≡ p.events - p.left
    → Left script n before p.state p.at out₀ out s at taken written → calls_from (n - taken) script at ≡ [] → place_from (n - taken) script at ≡ at
    → (r : Ran) → r ≡ record { rest = record { state = s; at = at; events = p.events; left = p.left - taken }; taken = taken; written = written }
    → Runs script p budget out₀ out r
ended script p budget out₀ out s at taken written n before e f l none_left here r h =
    record {
      taken =
          ap (λ x. x.taken) h ∙ ends-taken script n before p.state p.at out₀ out s at taken written l none_left here
          ∙ sym (step_count_lem (calls_from n script p.at) p.state) ∙ ap (λ m. step_count (calls_from m script p.at) p.state) e;
      state =
          ap (λ x. x.rest.state) h ∙ ends-state script n before p.state p.at out₀ out s at taken written l none_left here
          ∙ ap (λ m. run_state (calls_from m script p.at) p.state) e;
      place =
          ap (λ x. x.rest.at) h ∙ ends-place script n before p.state p.at out₀ out s at taken written l none_left here
          ∙ ap (λ m. place_from m script p.at) e;
      events = ap (λ x. x.rest.events) h;
      left = ap (λ x. x.rest.left) h ∙ ap (λ k. p.left - k) (sym (ap (λ x. x.taken) h));
      written = ap (λ x. x.written) h ∙ ends-written script n before p.state p.at out₀ out s at taken written l none_left here ∙ ap length all_lines;
      bytes = ends-bytes script n before p.state p.at out₀ out s at taken written l none_left here ∙ ap (put_at out₀ 0) all_lines;
    }
  where
    all_lines : run_lines (before + 1) (calls_from n script p.at) p.state
        ≡ run_lines (next_number p) (calls_from (allowance budget p.left (length out₀)) script p.at) p.state
    all_lines =
        ap (λ k. run_lines (k + 1) (calls_from n script p.at) p.state) f ∙ ap (λ m. run_lines (next_number p) (calls_from m script p.at) p.state) e
