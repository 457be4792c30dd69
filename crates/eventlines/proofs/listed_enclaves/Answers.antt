-- `eventlines::listed_enclaves` meets its contract. The invariant: what the fields left are after those that were read is what all are. Assumes nothing.
use Prim.Native.Nat.{◌+◌, ◌<◌}
use mathlib.Core.Path.{◌≡◌, refl, sym, ap, ◌∙◌}
use mathlib.Core.List.{[], ◌∷◌, ◌++◌}
use native.Mathlib.Numerals.{add-one}
use native.Mathlib.Omega.{arith}
use lib.ListN.{length, take, set, length-set}
use lib.Seq.{take-suc-set, get_or-set_other}
use Rattle.numerals.proofs.Numbers.{number-le}
use Rattle.eventlines.specs.Named.{fields_of, named_of}
use Rattle.eventlines.proofs.Listed.{listed_start, listed-short, listed-bad, listed-over, listed-all, listed_more, padded-zero, named-is}
use Rattle.eventlines.proofs.listed_enclaves.Goals as goal

pub loop-k-init : goal.loop-k-init
loop-k-init c = let a = c.args in record { long = refl; read = listed_start a.n (fields_of a.fields); zeros = λ i h. padded-zero 32 i }

pub returns-in_err-field : goal.returns-in_err-field
returns-in_err-field c = let l = c.loop-k in
    c.from_residual.ensures
    ∙ ap named_of (sym (listed-short (take l.k l.enclaves) l.k c.args.n (omega arith)) ∙ (rw c.in_err-field.ensures at l.invariant.read))

pub returns-in_err-enclave : goal.returns-in_err-enclave
returns-in_err-enclave c = let l = c.loop-k in
    c.from_residual-in_err-enclave.ensures
    ∙ ap named_of
    (sym (listed-bad (take l.k l.enclaves) l.k c.args.n c.in_ok-field.field.now (fields_of c.next.new.self) (sym c.in_err-enclave.ensures))
    ∙ (rw c.in_ok-field.ensures at l.invariant.read))

pub overflow_cast-enclaves : goal.overflow_cast-enclaves
overflow_cast-enclaves c = omega (arith, number-le _ _ c.in_ok-enclave.enclave (sym c.in_ok-enclave.ensures))

pub loop-k-preserved : goal.loop-k-preserved
loop-k-preserved c = let l = c.loop-k in
    let e = c.in_ok-enclave.enclave in
    let here : l.k < length l.enclaves = omega arith in
    let t : take (l.k + 1) (set l.enclaves l.k e) ≡ take l.k l.enclaves ++ (e ∷ []) = rw (add-one l.k) (take-suc-set l.enclaves l.k e here) in
    record {
      long = rw length-set l.invariant.long;
      read =
          rw t
          (listed_more (take l.k l.enclaves) l.k c.args.n c.in_ok-field.field.now (fields_of c.next.new.self) e (sym c.in_ok-enclave.ensures)
          ∙ (rw c.in_ok-field.ensures at l.invariant.read));
      zeros = λ i h. get_or-set_other l.enclaves l.k i e 0 (λ q. omega arith) ∙ l.invariant.zeros i (omega arith);
    }

pub returns-in-None : goal.returns-in-None
returns-in-None c = let l = c.loop-k in
    let n = c.args.n in
    let all : l.k ≡ n = omega arith in
    named-is l.enclaves n l.invariant.long (omega arith) (λ i h. l.invariant.zeros i (omega arith))
    ∙ ap named_of (sym (listed-all (take n l.enclaves) n n refl) ∙ (rw c.in-None.ensures at (rw all at l.invariant.read)))

pub returns-in-Some : goal.returns-in-Some
returns-in-Some c = let l = c.loop-k in
    ap named_of
    (sym (listed-over (take l.k l.enclaves) l.k c.args.n c.in-Some.field-0.now (fields_of c.next-2.new.self) (omega arith))
    ∙ (rw c.in-Some.ensures at l.invariant.read))
