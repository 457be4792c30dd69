-- `script::read_participants` gathers so many indices: what is gathered of the rest from here, over the places filled, is what is gathered of all.
-- Assumes nothing.
use mathlib.Core.Path.{◌≡◌, ap, ◌∙◌}
use Prim.Native.Nat.{min}
use native.Mathlib.Omega.{arith}
use borrow.Author.Rules.{rules}
use lib.ListN.{length, length-set}
use Rattle.numerals.proofs.Numbers.{number-le}
use Rattle.events.specs.Events.{word_of}
use Rattle.script.proofs.Items.{good-tells}
use Rattle.script.proofs.Turns.{exit, good-is, gather-bad, gather-turn, gather-done}
use Rattle.script.proofs.read_participants.Goals as goal

pub returns-in_err-index : goal.returns-in_err-index
returns-in_err-index c = let l = c.loop-k in
    exit _ _ c.from_residual.ensures.1 ∙ gather-bad word_of _ _ c.args.number l.k l.at _ l.invariant.rest _ (omega arith) c.in_err-index.ensures

pub put_index-requires : goal.put_index-requires
put_index-requires c =
    (number-le _ _ _ (good-tells word_of _ _ _ _ (good-is c.in_ok-index.ensures)).reads, c.loop-k.invariant.long)

pub loop-k-preserved : goal.loop-k-preserved
loop-k-preserved c = let l = c.loop-k in
    record {
      rest =
          gather-turn word_of _ _ c.args.number l.k l.at _ l.invariant.rest _ _ _ (omega arith) c.in_ok-index.ensures c.put_index.ensures;
      long = ap length c.put_index.ensures ∙ length-set _ _ _ ∙ l.invariant.long;
    }

pub returns : goal.returns
returns c = let l = c.loop-k in
    let few : c.min-count.result ≡ min 33 c.args.number = search rules in
    gather-done word_of _ _ c.args.number l.k l.at _ l.invariant.rest _ (omega arith) few
