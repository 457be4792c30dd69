use mathlib.Core.Path.{◌≡◌}
use Prim.Native.Nat.{◌-◌}
use lib.ListN.{length, replicate}
use Rattle.events.specs.Events.{word_of}
use Rattle.script.specs.Lines.{items}
use Rattle.script.specs.Told.{gathered}
use Rattle.script.proofs.read_participants.Given as goal

abbrev pub invariant-loop-k : goal.invariant-loop-k
invariant-loop-k l = record {
  rest : gathered (replicate 33 0) 0 (items l.number word_of l.script l.from) ≡ gathered l.indices l.k (items (l.number - l.k) word_of l.script l.at);
  long : length l.indices ≡ 33;
}
