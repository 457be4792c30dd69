-- `actions::is_confirmed` meets its contract: the action's record, written into room of its own length, is compared with the first 56 bytes, and
-- both tags are tested. Assumes nothing.
use Rattle.std.proofs.Common.{◌≡◌, true, false, take, refl, sym, ap, ◌∙◌, replicate}
use Rattle.tags.specs.Tags.{proper_if_present}
use Rattle.octets.specs.Runs.{same_bytes}
use Rattle.actions.specs.Record.{fields_of, record_of}
use Rattle.actions.proofs.Record.{written-alone}
use Rattle.actions.proofs.is_confirmed.Goals as goal
use Rattle.actions.proofs.is_confirmed.Goals.{then-same, else-same}

pub returns-then-proper_if_present : goal.returns-then-proper_if_present
returns-then-proper_if_present c =
    let a = c.args.action in
    let compared : c.same_bytes-same.result ≡ same_bytes (record_of a) (take 56 c.args.s.now) =
    c.same_bytes-same.ensures ∙ ap (λ l. same_bytes l (take 56 c.args.s.now)) (c.write_action.ensures.bytes ∙ written-alone a (replicate 56 0) refl) in
    let second : c.proper_if_present-then-proper_if_present.result ≡ proper_if_present (fields_of a).second =
    c.proper_if_present-then-proper_if_present.ensures ∙ ap (λ f. proper_if_present f.second) c.fields_of-f.ensures in
    elim c.if-same.branch [
      | then-same w ↦
          let same : same_bytes (record_of a) (take 56 c.args.s.now) ≡ true = sym compared ∙ w.if-same.true in
          let first : proper_if_present (fields_of a).first ≡ true =
          ap (λ f. proper_if_present f.first) (sym c.fields_of-f.ensures) ∙ sym w.proper_if_present.ensures ∙ sym w.value-is ∙ c.if-proper_if_present.true in
          rw (same, first) second
      | else-same w ↦ cc
    ]

pub returns-else-proper_if_present : goal.returns-else-proper_if_present
returns-else-proper_if_present c =
    let a = c.args.action in
    let compared : c.same_bytes-same.result ≡ same_bytes (record_of a) (take 56 c.args.s.now) =
    c.same_bytes-same.ensures ∙ ap (λ l. same_bytes l (take 56 c.args.s.now)) (c.write_action.ensures.bytes ∙ written-alone a (replicate 56 0) refl) in
    elim c.if-same.branch [
      | then-same w ↦
          let same : same_bytes (record_of a) (take 56 c.args.s.now) ≡ true = sym compared ∙ w.if-same.true in
          let first : proper_if_present (fields_of a).first ≡ false =
          ap (λ f. proper_if_present f.first) (sym c.fields_of-f.ensures) ∙ sym w.proper_if_present.ensures ∙ sym w.value-is ∙ c.if-proper_if_present.false in
          rw (same, first) c.if-proper_if_present.false
      | else-same w ↦
          let other : same_bytes (record_of a) (take 56 c.args.s.now) ≡ false = sym compared ∙ w.if-same.false in
          rw other c.if-proper_if_present.false
    ]
