-- An event taken and listed: its line and the lines of the records that its call wrote are the event's lines. The records hold the call's actions, each
-- of which can be written, so each reads back. Assumes nothing.
use mathlib.Core.Path.{◌≡◌, ap, ◌∙◌}
use mathlib.Core.List.{List, ◌++◌}
use Prim.Native.Nat.{ℕ, ◌+◌, ◌*◌, ◌≤◌}
use native.Mathlib.Omega.{arith}
use lib.ListN.{length, drop}
use Rattle.records.specs.Numbers.{refusal_number}
use Rattle.octets.specs.Runs.{put_at}
use Rattle.octets.proofs.Runs.{length-put}
use Rattle.actions.specs.Record.{records_of}
use Rattle.actions.specs.Demands.{Writable}
use Rattle.rules.specs.Model.{Call}
use Rattle.rules.specs.Demands.{Each}
use Rattle.state.specs.declared.FederateCoordinationState.{FederateCoordinationState as Held}
use Rattle.calls.specs.declared.Called.{Called}
use Rattle.calls.specs.Called.{lent, refusal_of, state_of, actions_of, answer_of}
use Rattle.printing.specs.Runs.{Puts}
use Rattle.printing.proofs.Runs.{then-more}
use Rattle.listing.specs.Listing.{event_line, action_lines}
use Rattle.listing.specs.Records.{record_lines}
use Rattle.listing.proofs.Records.{record-lines}
use Rattle.take.specs.Takes.{TakesCall}
use Rattle.budget.specs.Run.{given, event_lines}
use Rattle.run.specs.Promises.{ListsBy}
use Rattle.run.proofs.Lengths.{actions-few}

-- a taken event has at most 34 actions
pub takes-few : (c : Call) (s : Held) (before after : List ℕ) (r : Called) → TakesCall c s before after r → r.reply.actions ≤ 34
takes-few c s before after r t = omega (arith, t.promised.actions, actions-few (length before) c s)

-- a run put within the room keeps its length
pub length-kept : {out out' run : List ℕ} {at n : ℕ} → Puts out at run 160 n out' → at + 5600 ≤ length out → length out' ≡ length out
length-kept {out = out} {run = run} {at = at} p h = ap length p.bytes ∙ length-put out at run (omega (arith, p.after, p.within))

module _ (c : Call) (s : Held) (number written told end : ℕ) (zeros room out out' out'' : List ℕ) (r : Called) (long : length zeros ≡ 1904)
    (t : TakesCall c s zeros room r)
    (writes : Each Writable (actions_of (given c) s)) where
  acts-as : actions_of (lent (length zeros) c) s ≡ actions_of (given c) s
  acts-as = ap (λ n. actions_of (lent n c) s) long

  lines-read : record_lines r.reply.actions room ≡ action_lines (actions_of (given c) s)
  unfolding put_at
  lines-read =
      let acts = actions_of (given c) s in
      let n : r.reply.actions ≡ length acts = t.promised.actions ∙ ap length acts-as in
      let here : room ≡ records_of acts ++ drop (0 + length (records_of acts)) zeros = t.bytes ∙ ap (λ l. put_at zeros 0 (records_of l)) acts-as in
      ap (λ k. record_lines k room) n ∙ ap (record_lines (length acts)) here ∙ record-lines acts (drop (0 + length (records_of acts)) zeros) writes

  line-told : event_line number (refusal_number r.reply.refusal) r.reply.answer r.reply.actions
      ≡ event_line number (refusal_of (given c) s) (answer_of (given c) s) (length (actions_of (given c) s))
  line-told =
      ap (λ n. event_line number n r.reply.answer r.reply.actions) (t.promised.refusal ∙ ap (λ n. refusal_of (lent n c) s) long)
      ∙ ap (λ a. event_line number (refusal_of (given c) s) a r.reply.actions) (t.promised.answer ∙ ap (λ n. answer_of (lent n c) s) long)
      ∙ ap (event_line number (refusal_of (given c) s) (answer_of (given c) s)) (t.promised.actions ∙ ap length acts-as)

  -- what a `list_event` leaves
  pub lists-call : Puts out written (event_line number (refusal_number r.reply.refusal) r.reply.answer r.reply.actions) 160 told out'
      → Puts out' told (record_lines r.reply.actions room) (160 * r.reply.actions) end out'' → end ≤ length out
      → ListsBy c s number written out out'' (record { state = r.state; written = end })
  unfolding event_lines
  lists-call p q fits =
      let whole = then-more p q fits in
      let both : event_line number (refusal_number r.reply.refusal) r.reply.answer r.reply.actions
      ++ record_lines r.reply.actions room ≡ event_lines number c s =
      ap (λ l. l ++ record_lines r.reply.actions room) line-told
      ∙ ap (λ l. event_line number (refusal_of (given c) s) (answer_of (given c) s) (length (actions_of (given c) s)) ++ l) lines-read in
      let state : r.state ≡ state_of (given c) s = t.promised.state ∙ ap (λ n. state_of (lent n c) s) long in
      let after : end ≡ written + length (event_lines number c s) = whole.after ∙ ap (λ l. written + length l) both in (
        ap (λ x. record { state = x; written = end }) state ∙ ap (λ n. record { state = state_of (given c) s; written = n }) after,
        whole.bytes ∙ ap (put_at out written) both,
      )
