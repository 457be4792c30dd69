use Rattle.std.specs.Prelude.{Some}
use Prim.Native.Nat.{ℕ, ◌≤◌}
use mathlib.Core.Path.{◌≡◌}
use lib.ListN.{length, take, get_or}
use Rattle.events.specs.Events.{listed}
use Rattle.eventlines.specs.Named.{fields_of}
use Rattle.eventlines.proofs.Listed.{listed_from}
use Rattle.eventlines.proofs.listed_enclaves.Given as goal

abbrev pub invariant-loop-k : goal.invariant-loop-k
invariant-loop-k l = record {
  long : length l.enclaves ≡ 32;
  read : listed_from (take l.k l.enclaves) l.k l.n (fields_of l.fields) ≡ listed (Some l.n) (fields_of l.fn.fields);
  zeros : (i : ℕ) → l.k ≤ i → get_or l.enclaves i 0 ≡ 0;
}
