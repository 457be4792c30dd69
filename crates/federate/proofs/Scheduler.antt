-- A scheduler message, taken: its own rule in two halves, then the completion step, give `take_step` of the rules, and the state with the parts stored
-- represents its state. The state between is sound because the rules keep it so. Assumes nothing.
use mathlib.Core.Path.{◌≡◌, refl, ap, ◌∙◌, subst}
use mathlib.Core.Bool.{Bool, ◌&&◌}
use mathlib.Core.List.{◌++◌}
use Prim.Native.Nat.{ℕ, ◌<◌}
use lib.Dec.{T}
use lib.ListN.{get_or}
use Rattle.tags.specs.Tags.{proper_if_present}
use Rattle.records.specs.declared.SchedulerMessage.{SchedulerMessage}
use Rattle.rules.specs.Model.{Step}
use Rattle.rules.specs.Calls.{facts, also, then_advance, own_step, take_step, is_sound, is_spent}
use Rattle.rules.proofs.Sound.{own-keeps-sound}
use Rattle.state.specs.declared.FederateCoordinationState.{FederateCoordinationState as Held}
use Rattle.state.specs.declared.Decided.{Decided}
use Rattle.state.specs.View.{view, represents}
use Rattle.state.specs.Parts.{parts_of, with_coordination, with_completion, with_gate}
use Rattle.state.specs.Decides.{Good, Decides, neat_parts, halfway}
use Rattle.state.proofs.Neat.{count-bounds, neat-gate, neat-rebuilt, neat-with-coordination, neat-with-completion, neat-with-gate}
use Rattle.state.proofs.Put.{Beyond, beyond-rebuilt, beyond-trans, beyond-sized, beyond-columns}
use Rattle.publication.specs.Announce.{dropped_if}
use Rattle.publication.proofs.Announcing.{dropped-neat}
use Rattle.completion.specs.Advance.{sayings, Steps}
use Rattle.completion.specs.declared.Advanced.{Advanced}
use Rattle.dispatch.specs.Messages.{call_of, enclave_of, tag_of, actions_of, drops, Concludes}
use Rattle.dispatch.specs.declared.Concluded.{Concluded}
use Rattle.federate.proofs.Message.{is-message, message-proper, Sits}

-- the state after the message's own rule
abbrev pub own_end : Held → ℕ → Decided → Concluded → Held
own_end s i d k = with_gate (dropped_if (drops k.said) s.gate) (with_completion k.completion (with_coordination k.coordination (halfway s i d)))

-- the state after the completion step
abbrev pub whole_end : Held → ℕ → Decided → Concluded → Advanced → Held
whole_end s i d k a = with_completion a.completion (own_end s i d k)

module _ (s : Held) (i : ℕ) (d : Decided) (good : Good s) (here : i < s.count) (neat : T (neat_parts d.parts)) where
  halfway-beyond : Beyond s (halfway s i d)
  halfway-beyond = beyond-rebuilt s i d.parts d.forgets s.gate good.sized (count-bounds s good.sound).1 here

  pub halfway-neat : T (represents (halfway s i d))
  halfway-neat = neat-rebuilt s i d.parts d.forgets s.gate good.sized (count-bounds s good.sound).1 good.neat neat (neat-gate s good.neat)

module _ (s : Held) (m : SchedulerMessage) (i : ℕ) (d : Decided) (k : Concluded) (good : Good s) (place : Sits (enclave_of m) s i) (proper : T (proper_if_present (tag_of m)))
    (decides : Decides (own_step (call_of m)) (get_or s.enclaves i 0) (parts_of s i) d) (neat : T (neat_parts d.parts))
    (concludes : Concludes (halfway s i d) (get_or s.enclaves i 0) d.next k) where
  pub own_is : own_step (call_of m) (view s) ≡ record { state = view (own_end s i d k); actions = actions_of (get_or s.enclaves i 0) k.said k.coordination }
  own_is = decides s i good place.seat refl ∙ concludes.step

  own-beyond : Beyond s (own_end s i d k)
  own-beyond =
      beyond-trans s (halfway s i d) (own_end s i d k) (halfway-beyond s i d good place.seat.within neat)
      (beyond-columns (halfway s i d) (own_end s i d k) refl refl refl refl refl refl refl refl refl)

  own-neat : T (represents (own_end s i d k))
  own-neat =
      let h = halfway s i d in
      let c = with_coordination k.coordination h in
      let p = neat-with-coordination h (halfway-neat s i d good place.seat.within neat) k.coordination concludes.coordination in
      let q = neat-with-completion c p k.completion concludes.completion in
      neat-with-gate (with_completion k.completion c) q (dropped_if (drops k.said) s.gate) (dropped-neat (drops k.said) s.gate (neat-gate s good.neat))

  pub own-good : Good (own_end s i d k)
  own-good = record {
    sized = beyond-sized s (own_end s i d k) own-beyond good.sized;
    neat = own-neat;
    sound = subst (λ (o : Step). T (is_sound o.state)) own_is (own-keeps-sound (call_of m) (view s) good.sound (rw (message-proper m) proper));
  }

  pub spent-is : (b : Bool) → is_spent (view (own_end s i d k)) ≡ b → ((facts (call_of m)).message && is_spent (own_step (call_of m) (view s)).state) ≡ b
  spent-is b h = rw (is-message m) (ap (λ (o : Step). is_spent o.state) own_is ∙ h)

  module _ (a : Advanced) (steps : Steps (own_end s i d k) a) where
    pub end-beyond : Beyond s (whole_end s i d k a)
    end-beyond = beyond-trans s (own_end s i d k) (whole_end s i d k a) own-beyond (beyond-columns (own_end s i d k) (whole_end s i d k a) refl refl refl refl refl refl refl refl refl)

    pub end-neat : T (represents (whole_end s i d k a))
    end-neat = neat-with-completion (own_end s i d k) own-neat a.completion steps.neat

    pub step_is : take_step (call_of m) (view s) ≡ record { state = view (whole_end s i d k a); actions = actions_of (get_or s.enclaves i 0) k.said k.coordination ++ sayings (own_end s i d k) a.saying a.completion.completion_generation }
    unfolding take_step
    step_is = rw (is-message m) (ap then_advance own_is ∙ ap (λ (o : Step). also (record { state = view (own_end s i d k); actions = actions_of (get_or s.enclaves i 0) k.said k.coordination }) o) steps.step)
