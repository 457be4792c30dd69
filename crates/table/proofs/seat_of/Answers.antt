-- `table::seat_of`: what stands at the place of the enclave's own number stands nowhere before it; else `find` answers. Assumes nothing.
use mathlib.Core.Path.{ap, ◌∙◌}
use Prim.Native.Nat.{ℕ}
use lib.Dec.{eqb}
use lib.ListN.{get_or}
use Rattle.std.specs.Prelude.{Option}
use Rattle.std.specs.Option.{unwrap_or}
use Rattle.table.proofs.Loops.{place-only, place-or-count}
use Rattle.table.proofs.seat_of.Goals as goal

pub returns-then-state-guess : goal.returns-then-state-guess
returns-then-state-guess c = let s = c.args.state.now in place-only s.enclaves s.count c.args.enclave _ c.requires.1 c.if-guess-state.true c.if-state-guess.true

pub returns : goal.returns
returns c = let s = c.args.state.now in
    c.unwrap_or.ensures ∙ ap (λ (m : Option ℕ). unwrap_or m s.count) c.find.ensures ∙ place-or-count (λ j. eqb (get_or s.enclaves j 0) c.args.enclave) s.count
