-- The bytes from the k-th on are read: they spell n, which they hold. Assumes nothing.
use Rattle.std.proofs.Common.{◌≡◌, ◌+◌, ◌-◌, ◌^◌, ◌<◌}
use Rattle.octets.specs.LittleEndian.{num_at}
use Rattle.octets.proofs.get.Given as goal

abbrev pub invariant-loop-k : goal.invariant-loop-k
invariant-loop-k g l = record {
  value : l.n ≡ num_at (g.row.N - l.k) l.s (l.at + l.k);
  bound : l.n < 256 ^ (g.row.N - l.k);
}
