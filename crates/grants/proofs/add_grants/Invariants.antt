use Prim.Native.Nat.{◌≤◌, ◌+◌}
use Rattle.emission.specs.Written.{Adds}
use Rattle.grants.specs.Acquire.{grants_of}
use Rattle.grants.proofs.add_grants.Given as goal

abbrev pub invariant-loop-place : goal.invariant-loop-place
invariant-loop-place l = record {
  few : l.total ≤ l.written + l.place;
  adds : Adds (grants_of l.state l.tag l.place) l.initial.room l.written l.room l.total;
}
