-- What taking an event promises, in numbers; and that an opening of nobody leaves the blank state. Assumes nothing.
use Rattle.std.specs.Prelude.{None, Option, Some}
use mathlib.Core.Path.{◌≡◌, refl, ap, subst}
use mathlib.Core.List.{List, []}
use Prim.Native.Nat.{ℕ}
use Rattle.rules.specs.Model.{LifecyclePolicy, Call}
use Rattle.rules.specs.Opening.{opening_refusal}
use Rattle.state.specs.declared.FederateCoordinationState.{FederateCoordinationState as Held}
use Rattle.calls.specs.declared.Called.{Called}
use Rattle.opening.specs.Opened.{blank, opened_held}
use Rattle.take.specs.Takes.{Takes}
use Rattle.plain.specs.Replied.{numbers_of}
use Rattle.exports.specs.After.{state_after, reply_after, room_after, Gives}

taken-numbered : (o : Option Call) (s : Held) (before after : List ℕ) (r : Called) → Takes o s before after r
    → Gives o s before r.state (numbers_of r.reply) after
unfolding state_after reply_after room_after
taken-numbered None s before after r h = (ap (λ (z : Called). z.state) h.0, ap (λ (z : Called). numbers_of z.reply) h.0, h.1)
taken-numbered (Some c) s before after r h = (h.promised.state, rw (h.promised.refusal, h.promised.answer, h.promised.actions), h.bytes)

-- of the call that the event tells
pub called-numbered : (o p : Option Call) → o ≡ p → (s : Held) (before after : List ℕ) (r : Called) → Takes o s before after r
    → Gives p s before r.state (numbers_of r.reply) after
called-numbered o p e s before after r h = taken-numbered p s before after r (subst (λ z. Takes z s before after r) e h)

pub nobody-blank : (policy : LifecyclePolicy) (revision generation : ℕ) → opened_held [] policy revision generation ≡ blank 0
unfolding opened_held opening_refusal
nobody-blank policy revision generation = refl
