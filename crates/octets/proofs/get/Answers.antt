-- `octets::get` meets its contract: the byte in front of those that are read is the k-th of the rest, or 0 past the end. Assumes nothing.
use Rattle.std.proofs.Common.{◌≡◌, refl, ℕ, suc, ◌+◌, ◌-◌, ◌*◌, ◌^◌, ◌≤◌, ◌<◌, ◌⊎◌, inl, inr, List, [], length, get_or, drop, sym, ap, ◌∙◌, le_refl, arith, Bor, slice_range}
use Rattle.std.specs.Prelude.{Option, None, Some}
use Rattle.std.specs.Option.{MatchOption, unwrap_or}
use Rattle.std.proofs.lemmas.List.{get_or-drop}
use Rattle.std.proofs.lemmas.Slice.{between_to_end}
use Rattle.std.proofs.Math.Nat.{pow-succ'}
use Rattle.std.proofs.Math.ListN.{drop_of_length-le}
use Rattle.octets.specs.LittleEndian.{num_at}
use Rattle.octets.proofs.LittleEndian.{num_front, pow_8}
use Rattle.octets.proofs.get.Goals as goal

-- what `s.get(at..).unwrap_or(&[])` is the list of
rest-is : (s : List ℕ) (at : ℕ) (o : Option (Bor (List ℕ))) (d : Bor (List ℕ)) → d.now ≡ []
    → MatchOption o ((length s < at) ⊎ (length s < length s))
    (λ x. (at ≤ length s) × (length s ≤ length s) × (x.now ≡ slice_range s at (length s)) × (length x.now + at ≡ length s))
    → (unwrap_or o d).now ≡ drop at s
rest-is s at None d e (inl h) = e ∙ sym (drop_of_length-le s (omega arith))
rest-is s at None d e (inr h) = absurd (omega arith)
rest-is s at (Some x) d e h = h.2 ∙ between_to_end s at (length s) (le_refl _)

pub overflow_mul-n : goal.overflow_mul-n
overflow_mul-n g c = let j = g.row.N - c.loop-k.k in
    record { fits = omega (arith, pow_8 (suc j) (omega arith), pow-succ' 256 j, c.loop-k.invariant.bound) }

module _ (g : _) (c : goal.After-from g) where
  byte : c.from.result ≡ get_or c.args.s.now (c.args.at + (c.loop-k.k - 1)) 0
  byte = let a = c.args in
      let at = c.loop-k.k - 1 in
      let found = c.get-in-loop-k.ensures.lookup.4 (le_refl at) 0 in
      let rest : c.unwrap_or-rest.result.now ≡ drop a.at a.s.now =
      ap (λ r. r.now) c.unwrap_or-rest.ensures ∙ rest-is a.s.now a.at c.get.result _ refl c.get.ensures.lookup.0 in
      c.from.ensures ∙ c.unwrap_or.ensures ∙ ap (λ o. unwrap_or o 0) c.copied.ensures ∙ found ∙ ap (λ (l : List ℕ). get_or l at 0) rest ∙ get_or-drop a.at a.s.now at 0

  next : (c.loop-k.n * 256 + c.from.result ≡ num_at (g.row.N - (c.loop-k.k - 1)) c.args.s.now (c.args.at + (c.loop-k.k - 1))) × (c.loop-k.n * 256 + c.from.result < 256 ^ (g.row.N - (c.loop-k.k - 1)))
  next = let i = c.loop-k.invariant in
      num_front g.row.N c.loop-k.k c.args.at c.loop-k.n c.from.result c.args.s.now (omega arith) (omega arith) byte (omega (arith, c.unwrap_or.type_inv)) i.value i.bound

pub overflow_add-n : goal.overflow_add-n
overflow_add-n g c = let p = pow_8 (g.row.N - (c.loop-k.k - 1)) (omega arith) in let q = (next g c).1 in
    record { fits = omega arith }

pub loop-k-preserved : goal.loop-k-preserved
loop-k-preserved g c = let n = next g c in record { value = n.0; bound = n.1 }
