-- `federate::handle_scheduler` meets its promise: 27, 8, 7 and 3 first; then the own rule's first half is decided and stored, its second half concluded, the
-- completion step taken; 9 puts the enclave's cells back, and else the records of what was said stand in the room. Assumes nothing.
use mathlib.Core.Path.{◌≡◌, refl, sym, ap, ◌∙◌, subst}
use Prim.Native.Nat.{ℕ}
use lib.Dec.{T}
use lib.ListN.{get_or}
use borrow.Author.Rules.{rules}
use Rattle.rules.specs.Calls.{own_step}
use Rattle.state.specs.declared.FederateCoordinationState.{FederateCoordinationState as Held}
use Rattle.state.specs.declared.Decided.{Decided}
use Rattle.state.specs.Parts.{Sized, parts_of, with_row}
use Rattle.state.specs.Decides.{Decides, halfway, neat_parts}
use Rattle.calls.proofs.Standing.{is-so}
use Rattle.completion.specs.declared.Advanced.{Advanced}
use Rattle.completion.specs.Advance.{Advances}
use Rattle.dispatch.specs.declared.Concluded.{Concluded}
use Rattle.dispatch.specs.Messages.{call_of, Concludes}
use Rattle.federate.proofs.Scheduler.{own_end, whole_end}
use Rattle.federate.proofs.Entering.{Enters, enters, near, out-first}
use Rattle.federate.proofs.Taking.{observed_end, stored_end, end-stored, end-aside, end-cleared, end_kept, end-dropped, end-held, halfway-listed, own-beside, decides, neat, halfway-holds, own-holds, ends-9, ends-0}
use Rattle.federate.proofs.handle_scheduler.Goals as goal
use Rattle.federate.proofs.handle_scheduler.Goals.{In-Ok, After-advance_completion, Joined-decided}
use Rattle.federate.proofs.handle_scheduler.Goals.{then-not-is_about_completion, else-not-is_about_completion, then-decided, else-decided, in-Announcement, in_default}

sized : (c : In-Ok) → Sized c.args.state
sized c = record { enclaves = search rules; published = search rules; observation = search rules; acknowledged = search rules; observed = search rules; seconds = search rules; nanoseconds = search rules; microsteps = search rules }

entered : (c : In-Ok) → Enters c.args.room.now c.args.message c.args.state c.in-Ok.place
entered c = enters c.args.room.now c.args.message c.args.state (sized c) c.in-Ok.place c.in-Ok.ensures

-- ---- the two halves and the completion step

module _ (c : After-advance_completion) (n : Enters c.args.room.now c.args.message c.args.state c.in-Ok.place) where
  abbrev index : ℕ
  index = get_or c.args.state.enclaves c.in-Ok.place 0

  decides_at : Decides (own_step (call_of c.args.message)) index (parts_of c.args.state c.in-Ok.place) c.own_step-decided.result
  decides_at = decides _ _ _ _ n _ c.parts_at-parts.ensures c.own_step-decided.result c.own_step-decided.ensures.step

  neat-at : T (neat_parts c.own_step-decided.result.parts)
  neat-at = neat _ _ _ _ n _ c.parts_at-parts.ensures c.own_step-decided.result c.own_step-decided.ensures.neat

  -- the state between
  abbrev between : Held
  between = halfway c.args.state c.in-Ok.place c.own_step-decided.result

  concludes-at : Concludes between index c.own_step-decided.result.next c.conclude-concluded.result
  concludes-at =
      c.conclude-concluded.ensures.concludes between index (halfway-holds _ _ _ _ n c.own_step-decided.result neat-at)
      (halfway-listed c.args.state c.in-Ok.place c.own_step-decided.result c.put_row.ensures) refl refl

  -- the state after the own rule
  abbrev after : Held
  after = own_end c.args.state c.in-Ok.place c.own_step-decided.result c.conclude-concluded.result

  advances-at : Advances after c.advance_completion.result
  advances-at =
      c.advance_completion.ensures after
      (own-holds _ _ _ _ n c.own_step-decided.result neat-at decides_at c.conclude-concluded.result concludes-at)
      (own-beside c.args.state c.in-Ok.place c.own_step-decided.result c.conclude-concluded.result c.put_row.ensures) refl refl

-- ---- the stores

module _ (c : Joined-decided) where
  abbrev s : Held
  s = c.args.state

  abbrev i : ℕ
  i = c.in-Ok.place

  abbrev d : Decided
  d = c.own_step-decided.result

  abbrev k : Concluded
  k = c.conclude-concluded.result

  abbrev m : Advanced
  m = c.in-Ok-advance_completion.advanced

  stored-so : c.if-not-is_about_completion.state ≡ stored_end s i d k m
  stored-so =
      elim c.if-not-is_about_completion.branch [
        | then-not-is_about_completion w ↦ w.state-is ∙ end-stored s i d k m _ c.put_row.ensures
        | else-not-is_about_completion w ↦
            let x = c.own_step-decided.ensures.aside (is-so (sym c.is_about_completion.ensures ∙ w.if-not-is_about_completion.false)) in
            w.state-is ∙ end-aside s i d k m _ c.put_row.ensures _ c.parts_at-parts.ensures x (c.conclude-concluded.ensures.aside x.unannounced).0
      ]

  observed-so : c.if-decided.state ≡ observed_end s i d k m
  observed-so =
      elim c.if-decided.branch [
        | then-decided w ↦ w.state-is ∙ end-cleared s i d k m _ stored-so _ w.clear.ensures w.if-decided.true
        | else-decided w ↦ w.state-is ∙ end_kept s i d k m _ stored-so w.if-decided.false
      ]

-- ---- the goals

pub returns-in-Err : goal.returns-in-Err
returns-in-Err c =
    let e = out-first c.args.room.now c.args.message c.args.state sized_here c.in-Err.refusal c.in-Err.ensures _ c.with_reply.ensures in
    record { promised = e.0; bytes = e.1 }
  where
    sized_here : Sized c.args.state
    sized_here = record { enclaves = search rules; published = search rules; observation = search rules; acknowledged = search rules; observed = search rules; seconds = search rules; nanoseconds = search rules; microsteps = search rules }

pub parts_at-parts-requires : goal.parts_at-parts-requires
parts_at-parts-requires c = near _ _ _ _ (entered (goal.at.parts_at-parts-requires c).In-Ok)

pub put_row-requires : goal.put_row-requires
put_row-requires c = near _ _ _ _ (entered (goal.at.put_row-requires c).In-Ok)

pub conclude-concluded-requires : goal.conclude-concluded-requires
conclude-concluded-requires c = rw c.put_row.ensures (entered (goal.at.conclude-concluded-requires c).In-Ok).stands.few

pub advance_completion-requires : goal.advance_completion-requires
advance_completion-requires c = rw c.put_row.ensures (entered (goal.at.advance_completion-requires c).In-Ok).stands.few

pub put_row-requires-in-Err-advance_completion : goal.put_row-requires-in-Err-advance_completion
put_row-requires-in-Err-advance_completion c = near _ _ _ _ (entered (goal.at.put_row-requires-in-Err-advance_completion c).In-Ok)

pub returns-in-Err-advance_completion : goal.returns-in-Err-advance_completion
returns-in-Err-advance_completion c =
    let p = goal.at.returns-in-Err-advance_completion c in
    let a = p.After-advance_completion in
    let n = entered p.In-Ok in
    let e =
    ends-9 _ _ _ _ n c.own_step-decided.result (neat-at a n) (decides_at a n) c.conclude-concluded.result (concludes-at a n) _
    (subst (Advances (after a n)) c.in-Err-advance_completion.is (advances-at a n)) c.own_step-decided.result.parts.row _ (ap (λ p. p.row) c.parts_at-parts.ensures) _
    (c.put_row-in-Err-advance_completion.ensures ∙ ap (λ t. with_row t c.in-Ok.place c.parts_at-parts.result.row) c.put_row.ensures) _ c.with_reply-in-Err-advance_completion.ensures in
    record { promised = e.0; bytes = e.1 }

pub clear-requires : goal.clear-requires
clear-requires c = (entered (goal.at.clear-requires c).In-Ok).stands.few

pub add_step-total-requires : goal.add_step-total-requires
add_step-total-requires c =
    let p = goal.at.add_step-total-requires c in
    let n = entered p.In-Ok in
    (rw (observed-so p.Joined-decided) n.stands.few, near _ _ _ _ n)

pub returns : goal.returns
returns c =
    let p = goal.at.returns c in
    let a = p.After-advance_completion in
    let n = entered p.In-Ok in
    let j = p.Joined-decided in
    let so = observed-so j in
    let end : c.match-concluded.state ≡ whole_end (s j) (i j) (d j) (k j) (m j) =
    elim c.match-concluded.branch [
      | in-Announcement w ↦ w.state-is ∙ end-dropped (s j) (i j) (d j) (k j) (m j) _ so _ w.dropped-state.ensures _ w.in-Announcement.is
      | in_default w ↦ w.state-is ∙ end-held (s j) (i j) (d j) (k j) (m j) _ so w.in_default.not-Announcement
    ] in
    let e =
    ends-0 _ _ _ _ n c.own_step-decided.result (neat-at a n) (decides_at a n) c.conclude-concluded.result (concludes-at a n) _
    (subst (Advances (after a n)) c.in-Ok-advance_completion.is (advances-at a n)) c.if-decided.state so c.match-concluded.state end _ _ c.add_step-total.ensures _ c.with_reply-2.ensures in
    record { promised = e.0; bytes = e.1 }
