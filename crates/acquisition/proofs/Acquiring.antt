-- A taken acquisition keeps its promise: the state with what `acquire` decided holds a state of document 01, is the entry state past the count and
-- shows the rule's, and the records written one after the other are those of the rule's actions. Assumes nothing.
use Rattle.std.specs.Prelude.{None, Some}
use mathlib.Core.Path.{◌≡◌, refl, sym, ap, subst}
use mathlib.Core.Bool.{Bool, true, false}
use mathlib.Core.List.{List, [], ◌∷◌}
use Prim.Native.Nat.{ℕ, ◌+◌, ◌*◌, ◌≤◌}
use native.Mathlib.Omega.{arith}
use lib.Dec.{T}
use lib.IntN.{pos}
use lib.ListN.{length}
use Rattle.tags.specs.Tags.{is_proper}
use Rattle.rules.specs.Model.{Tag, AdvanceHorizon, acquire}
use Rattle.rules.specs.Calls.{own_step, take_step}
use Rattle.emission.specs.Written.{Adds}
use Rattle.emission.proofs.Adding.{none_written}
use Rattle.state.specs.declared.FederateCoordinationState.{FederateCoordinationState as Held}
use Rattle.state.specs.View.{represents}
use Rattle.state.specs.Parts.{with_gate}
use Rattle.state.proofs.Neat.{neat-parts, represents-of}
use Rattle.state.proofs.Columns.{place}
use Rattle.state.proofs.Put.{plain, Past, Beyond, past_same}
use Rattle.calls.specs.declared.Called.{Called}
use Rattle.calls.specs.Called.{lent, refusal_of, replied}
use Rattle.calls.proofs.Refusals.{refusal-0}
use Rattle.calls.proofs.Standing.{Standing}
use Rattle.calls.proofs.Ends.{Ends, roomy, ends-taken, ends-quiet, actions-fit}
use Rattle.grants.specs.declared.Granted.{Granted}
use Rattle.grants.specs.declared.Acquired.{Acquired}
use Rattle.grants.specs.Acquire.{grants_of, granted_in, Unpublished, Grants, Acquires}

-- neither 27, 8, 7 nor any later number
pub acquire-taken : (n r : ℕ) (t : Tag) (s : Held) → Standing s → 56 * (s.count + 2) ≤ n → is_proper t ≡ true
    → 0 ≡ refusal_of (lent n (acquire r t)) s
acquire-taken n r t s st h p = refusal-0 (lent n (acquire r t)) s st.passing (roomy (acquire r t) s n h) (rw p refl) refl refl refl

module _ (n r : ℕ) (t : Tag) (s : Held) (st : Standing s) (zero_is : 0 ≡ refusal_of (lent n (acquire r t)) s) where
  -- a state with other flags and small parts
  beyond-but : (u : Held) → u ≡ granted_in s u.gate (record { tag = t; horizon = u.grant_horizon; coordination = u.coordination }) u.published
      → Past plain false s.count s.published u.published → Beyond s u
  beyond-but u same past = subst (Beyond s) (sym same) (record {
    count = refl;
    enclaves = past_same plain 0 s.count s.enclaves s.enclaves refl;
    published = past;
    observation = past_same plain 0 s.count s.observation s.observation refl;
    acknowledged = past_same plain false s.count s.acknowledged s.acknowledged refl;
    observed = past_same plain 0 s.count s.completion_observed s.completion_observed refl;
    seconds = past_same place (pos 0) s.count s.seconds s.seconds refl;
    nanoseconds = past_same place (pos 0) s.count s.nanoseconds s.nanoseconds refl;
    microsteps = past_same place 0 s.count s.microsteps s.microsteps refl;
  })

  module _ (a : Acquired) (decided : Acquires r t s a) where
    pub stays-promised : (room : List ℕ) (c : Called) → a.granted ≡ None → c ≡ replied (with_gate a.gate s) None None 0
        → Ends (lent n (acquire r t)) s c room room
    unfolding take_step own_step
    stays-promised room c h e =
        ends-quiet (lent n (acquire r t)) s room refl st zero_is (with_gate a.gate s)
        (beyond-but (with_gate a.gate s) refl (past_same plain false s.count s.published s.published refl)) neat (decided.stays h) e
      where
        neat : T (represents (with_gate a.gate s))
        neat =
            let v = neat-parts s st.good.neat in
            represents-of (with_gate a.gate s) (record {
              places = v.places;
              coordination = v.coordination;
              completion = v.completion;
              gate = decided.tidy;
              horizon = v.horizon;
              failure = v.failure;
              policy = v.policy;
            })

    -- what is granted is asked of the state with the gate stored
    pub moves-promised : (g : Granted) → a.granted ≡ Some g → (room room₁ room₂ : List ℕ) (k₁ k₂ : ℕ) (qs : List Bool) (c : Called) → 56 * (s.count + 2) ≤ length room
        → Adds (AdvanceHorizon g.horizon ∷ []) room 0 room₁ k₁ → Adds (grants_of s g.tag s.count) room₁ k₁ room₂ k₂
        → Unpublished (with_gate a.gate s) g.tag qs → c ≡ replied (granted_in s a.gate g qs) None None k₂
        → Ends (lent n (acquire r t)) s c room room₂
    unfolding take_step own_step
    moves-promised g h room room₁ room₂ k₁ k₂ qs c fits advances grants u e =
        let acts = AdvanceHorizon g.horizon ∷ grants_of s g.tag s.count in
        let past : Past plain false s.count s.published qs = record { long = u.long; cells = λ k j p q. u.beyond j p } in
        let w = decided.moves g h in
        let step = w.moves qs (record { long = u.long; within = u.within; beyond = u.beyond }) in
        let size = ap (λ o. length o.actions) step in
        let demand = actions-fit (lent n (acquire r t)) s st.passing zero_is in
        let all = grants room (AdvanceHorizon g.horizon ∷ []) (advances room [] (none_written room) (omega arith)) (omega arith) in
        ends-taken (lent n (acquire r t)) s room refl st zero_is (granted_in s a.gate g qs) acts (beyond-but (granted_in s a.gate g qs) refl past) (neat g w qs) step all.number all.bytes e
      where
        neat : (g : Granted) → Grants r t s a.gate g → (qs : List Bool) → T (represents (granted_in s a.gate g qs))
        neat g w qs =
            let v = neat-parts s st.good.neat in
            represents-of (granted_in s a.gate g qs) (record {
              places = v.places;
              coordination = w.neat;
              completion = v.completion;
              gate = decided.tidy;
              horizon = w.cell;
              failure = v.failure;
              policy = v.policy;
            })
