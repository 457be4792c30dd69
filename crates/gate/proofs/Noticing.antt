-- `input_publishing` on plain values: the state with the observations cleared, the named unpublished and the small parts revised and dropped is the
-- rule's. By the participants place by place. Assumes nothing.
use Rattle.std.specs.Prelude.{None, Some}
use mathlib.Core.Path.{◌≡◌, refl, sym, ◌∙◌, subst}
use mathlib.Core.Bool.{Bool, true, false}
use mathlib.Core.List.{List, map, map-map, []}
use Prim.Native.Nat.{ℕ, ◌≤◌, ◌<◌}
use native.Mathlib.Omega.{arith}
use lib.Dec.{T}
use lib.IntN.{pos}
use Rattle.records.specs.declared.Refusal.TheVariants.{UnknownEnclave}
use Rattle.rules.specs.Model.{input}
use Rattle.rules.specs.Walk.{quiet}
use Rattle.rules.specs.Publication.{forget, revise_of}
use Rattle.rules.specs.Gate.{noticed, input_publishing_of}
use Rattle.rules.specs.Calls.{own_step, take_step, knows_all}
use Rattle.state.specs.declared.FederateCoordinationState.{FederateCoordinationState as Held}
use Rattle.state.specs.declared.Coordination.{Coordination}
use Rattle.state.specs.declared.Completion.{Completion}
use Rattle.state.specs.declared.Gate.{Gate}
use Rattle.state.specs.Cells.{absent, observation_of}
use Rattle.state.specs.View.{row_at, rows_of, view, represents}
use Rattle.state.specs.Parts.{cleared}
use Rattle.state.specs.Decides.{Good}
use Rattle.state.proofs.Rows.{cleared-within, every-row, neat-cell}
use Rattle.state.proofs.Neat.{neat-parts, represents-of, place-parts, place-whole, gate-parts, gate-whole}
use Rattle.state.proofs.Put.{Beyond, plain, past_same, past-cleared}
use Rattle.state.proofs.Columns.{place}
use Rattle.calls.specs.declared.Called.{Called}
use Rattle.calls.specs.Called.{Promised, lent, replied}
use Rattle.publication.specs.Announce.{dropped_of}
use Rattle.publication.specs.Revise.{revised_of, unprobed_of}
use Rattle.publication.proofs.Neat.{neat-revised, neat-unprobed}
use Rattle.gate.specs.Parts.{all_found, Unlisted}
use Rattle.gate.proofs.Seats.{knows-found}
use Rattle.calls.proofs.Standing.{Standing, promised-refused, promised-taken}
use Rattle.gate.proofs.Ends.{input-3, input-0}

-- the state with these flags, observations and small parts
abbrev pub storing : Held → List Bool → List ℕ → Coordination → Completion → Gate → Held
storing s published observation coordination completion gate =
    record s { published = published; observation = observation; coordination = coordination; completion = completion; gate = gate }

-- "drops .. all granted tags"
abbrev pub opened : Gate → Gate
opened g = record g { granted = absent }

-- "drops the stored acquisition and all granted tags"
abbrev dropped : Gate → Gate
dropped g = opened (dropped_of g)

abbrev noticed_state : Held → List Bool → Held
noticed_state s qs =
    storing s qs (cleared s.count s.observation) (revised_of s.coordination) (unprobed_of s.completion) (dropped s.gate)

module _ (s : Held) (es : List ℕ) (g : Good s) (few : s.count ≤ 32) (qs : List Bool) (u : Unlisted s es qs) where
  abbrev then : Held
  then = noticed_state s qs

  noticed-rows : rows_of then ≡ map (noticed es) (map forget (rows_of s))
  noticed-rows = every-row s then (λ p. noticed es (forget p)) refl row ∙ sym (map-map (noticed es) forget (rows_of s))
    where
      row : (j : ℕ) → j < s.count → row_at (noticed_state s qs) j ≡ noticed es (forget (row_at s j))
      row j h =
          λ k. record (row_at s j) {
            published = u.within j h k;
            observation = observation_of (cleared-within s.count s.observation j h k);
            granted = None;
          }

  step-noticed : take_step (input es) (view s) ≡ quiet (view then)
  unfolding take_step own_step input_publishing_of revise_of
  step-noticed = λ k. quiet (record (view then) { participants = sym noticed-rows k })

  noticed-neat : T (represents then)
  noticed-neat =
      let v = neat-parts s g.neat in
      let w = gate-parts s.gate v.gate in
      represents-of then (record {
        places = λ j l. let p = place-parts s j (v.places j l) in place-whole then j (record {
          candidate = p.candidate;
          completed = p.completed;
          started = p.started;
          observed = p.observed;
          observation = subst (λ n. n ≤ 3) (sym (cleared-within s.count s.observation j l)) (omega arith);
        });
        coordination = neat-revised s.coordination;
        completion = neat-unprobed s.completion v.completion;
        gate = gate-whole (dropped s.gate) (record { input_horizon = w.input_horizon; granted = neat-cell None tt; stored = neat-cell None tt; revision = tt });
        horizon = v.horizon;
        failure = v.failure;
        policy = v.policy;
      })

  noticed-beyond : Beyond s then
  noticed-beyond = let n = s.count in let z = g.sized in record {
    count = refl;
    enclaves = past_same plain 0 n s.enclaves s.enclaves refl;
    published = record { long = u.long; cells = λ k j p q. u.beyond j p };
    observation = past-cleared n s.observation (let l = z.observation in omega arith);
    acknowledged = past_same plain false n s.acknowledged s.acknowledged refl;
    observed = past_same plain 0 n s.completion_observed s.completion_observed refl;
    seconds = past_same place (pos 0) n s.seconds s.seconds refl;
    nanoseconds = past_same place (pos 0) n s.nanoseconds s.nanoseconds refl;
    microsteps = past_same place 0 n s.microsteps s.microsteps refl;
  }

-- ---- the two answers

module _ (s : Held) (es : List ℕ) (st : Standing s) {known : Bool} (q : known ≡ all_found s es) where
  knowing : knows_all es (rows_of s) ≡ known
  knowing = knows-found s st.ascends es ∙ sym q

  pub ends-unknown : (r : Called) → known ≡ false → r ≡ replied s (Some UnknownEnclave) None 0 → Promised (lent 0 (input es)) s r
  ends-unknown r h e = promised-refused (lent 0 (input es)) s (Some UnknownEnclave) None (input-3 es s st.passing (knowing ∙ h)) (omega arith) refl e

  pub ends-noticed : (published : List Bool) (observation : List ℕ) (c : Coordination) (k : Completion) (g : Gate) (r : Called) → known ≡ true
      → Unlisted s es published → observation ≡ cleared s.count s.observation → c ≡ revised_of s.coordination
      → k ≡ unprobed_of s.completion → g ≡ dropped s.gate → r ≡ replied (storing s published observation c k g) None None 0 → Promised (lent 0 (input es)) s r
  ends-noticed published observation c k g r h u o x y z e =
      let few = st.few in
      promised-taken (lent 0 (input es)) s st (input-0 es s st.passing (knowing ∙ h)) None refl (noticed_state s published) []
      (noticed-beyond s es st.good few published u) (noticed-neat s es st.good few published u) (step-noticed s es st.good few published u) refl
      (e ∙ (λ i. replied (storing s published (o i) (x i) (y i) (z i)) None None 0))
