-- A state that passes 27, with what every later test of a call rests on: its columns are of their lengths, and it has 1 to 32 participants, who ascend.
-- And what a call promises that lends no room: refused, the state as it came; taken, a state that shows the rule's. Assumes nothing.
use Rattle.std.specs.Prelude.{None, Option, Some}
use mathlib.Core.Path.{◌≡◌, refl, sym, ap, ◌∙◌, subst}
use mathlib.Core.Bool.{Bool, true, false, ◌&&◌}
use mathlib.Core.List.{List}
use Prim.Native.Nat.{ℕ, ◌≤◌, ◌<◌}
use native.Mathlib.Omega.{arith}
use lib.Dec.{T}
use lib.ListN.{length}
use Rattle.records.specs.Numbers.{refusal_number}
use Rattle.records.specs.declared.Refusal.{Refusal}
use Rattle.records.specs.declared.Refusal.TheVariants.{UnsoundState}
use Rattle.rules.specs.Model.{CoordinationAction, Step, Given}
use Rattle.rules.specs.Walk.{quiet}
use Rattle.rules.specs.Calls.{facts, take_step, is_sound, ascending, refused_answer}
use Rattle.rules.proofs.Sound.{sound-ascending}
use Rattle.state.specs.declared.FederateCoordinationState.{FederateCoordinationState as Held}
use Rattle.state.specs.View.{rows_of, view, represents}
use Rattle.state.specs.Parts.{Sized}
use Rattle.state.specs.Decides.{Good}
use Rattle.state.proofs.Neat.{count-bounds}
use Rattle.state.proofs.Put.{Beyond, beyond-refl, holds-is-put}
use Rattle.calls.specs.Called.{refusal_of, Promised, replied}
use Rattle.calls.specs.declared.Called.{Called}
use Rattle.calls.proofs.Refusals.{Passes, passes, refusal-27, refused, taken}

-- ---- a state that passes 27

-- a test's answer as a fact
pub is-so : {b : Bool} → b ≡ true → T b
is-so e = subst T (sym e) tt

pub record Standing (s : Held) : Type 0 where
  pub passing : Passes s
  pub good : Good s
  pub one : 1 ≤ s.count
  pub few : s.count ≤ 32
  pub ascends : T (ascending (rows_of s))

pub standing_by : (s : Held) → Sized s → Passes s → Standing s
standing_by s z p =
    let sound : T (is_sound (view s)) = is-so p.sound in
    let n = count-bounds s sound in
    record { passing = p; good = record { sized = z; neat = is-so p.neat; sound = sound }; one = n.0; few = n.1; ascends = sound-ascending (view s) sound }

-- by the test of 27 that the code makes
pub standing : (s : Held) → Sized s → {b : Bool} → b ≡ (represents s && is_sound (view s)) → b ≡ true → Standing s
standing s z {b} e h = standing_by s z (passes s (sym e ∙ h))

-- ---- what is promised where no room is lent

module _ (g : Given) (s : Held) {r : Called} where
  pub promised-refused : (n : Option Refusal) (a : Option Bool) → refusal_number n ≡ refusal_of g s → 0 < refusal_number n → a ≡ refused_answer ((facts g.what).answer (view s))
      → r ≡ replied s n a 0 → Promised g s r
  promised-refused n a h l x e = subst (Promised g s) (sym e) (refused g s n a h l x)

  pub promised-27 : (a : Option Bool) {b : Bool} → b ≡ (represents s && is_sound (view s)) → b ≡ false → a ≡ refused_answer ((facts g.what).answer (view s))
      → r ≡ replied s (Some UnsoundState) a 0 → Promised g s r
  promised-27 a {b} q h x e = promised-refused (Some UnsoundState) a (refusal-27 g s (sym q ∙ h)) (omega arith) x e

  module _ (st : Standing s) (free : 0 ≡ refusal_of g s) (a : Option Bool) (says : a ≡ (facts g.what).answer (view s)) where
    pub promised-taken : (t : Held) (l : List CoordinationAction) → Beyond s t → T (represents t) → take_step g.what (view s) ≡ record { state = view t; actions = l }
        → {k : ℕ} → k ≡ length l → r ≡ replied t None a k → Promised g s r
    promised-taken t l b h q {k} j e =
        subst (Promised g s) (sym e)
        (taken g s t a k free says (j ∙ ap (λ (o : Step). length o.actions) (sym q))
        (holds-is-put s t (take_step g.what (view s)).state st.good.sized st.one st.few b h (ap (λ (o : Step). o.state) (sym q))))

    pub promised-still : take_step g.what (view s) ≡ quiet (view s) → r ≡ replied s None a 0 → Promised g s r
    promised-still q e = promised-taken s _ (beyond-refl s) st.good.neat q refl e
