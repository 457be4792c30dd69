-- A scheduler call past 27, 8, 7 and 3, told of plain values: the first half is decided for the enclave's place, the second concluded from the state between,
-- the completion step taken from the state after it; a spent generation puts the enclave's cells back, and else the room has the records of what
-- both steps say. Assumes nothing.
use Rattle.std.specs.Prelude.{None, Some}
use mathlib.Core.Path.{◌≡◌, refl, sym, ap, ◌∙◌, subst}
use mathlib.Core.Bool.{Bool, true, false}
use mathlib.Core.List.{List, [], ◌++◌}
use Prim.Native.Nat.{ℕ, ◌+◌, ◌*◌, ◌≤◌, ◌<◌}
use native.Mathlib.Omega.{arith}
use lib.Dec.{T}
use lib.IntN.{pos}
use lib.ListN.{length, get_or}
use Rattle.records.specs.declared.Refusal.{Refusal}
use Rattle.records.specs.declared.SchedulerMessage.{SchedulerMessage}
use Rattle.rules.specs.Model.{CoordinationAction, Step}
use Rattle.rules.specs.Calls.{facts, all_proper, own_step, take_step}
use Rattle.state.specs.declared.FederateCoordinationState.{FederateCoordinationState as Held}
use Rattle.state.specs.declared.Decided.{Decided}
use Rattle.state.specs.declared.Row.{Row}
use Rattle.state.specs.declared.Gate.{Gate}
use Rattle.state.specs.declared.Parts.{Parts}
use Rattle.state.specs.Beside.{SameListed, Beside}
use Rattle.state.specs.View.{view, represents}
use Rattle.state.specs.Parts.{Sized, row_of, with_row, parts_of, rebuilt, cleared, with_coordination, with_completion, with_gate}
use Rattle.state.specs.Decides.{Aside, Good, Decides, halfway, neat_parts}
use Rattle.state.proofs.Neat.{place-parts, neat-place, neat-coordination, neat-completion, neat-failure}
use Rattle.publication.specs.Announce.{dropped_of}
use Rattle.publication.proofs.Neat.{parts_whole, row-whole}
use Rattle.calls.specs.Called.{lent, refusal_of, replied}
use Rattle.calls.specs.declared.Called.{Called}
use Rattle.calls.proofs.Standing.{is-so}
use Rattle.calls.proofs.Ends.{Ends, ends-taken, actions-fit}
use Rattle.completion.specs.declared.Advanced.{Advanced}
use Rattle.completion.specs.declared.Saying.{Saying}
use Rattle.completion.specs.declared.Saying.TheVariants.{Nothing, Probes, Completes}
use Rattle.completion.specs.Advance.{Spends, Steps, sayings}
use Rattle.dispatch.specs.declared.Concluded.{Concluded}
use Rattle.dispatch.specs.declared.Said.{Said}
use Rattle.dispatch.specs.declared.Said.TheVariants.{Word, Announcement, Completion as Completing}
use Rattle.dispatch.specs.Messages.{call_of, enclave_of, Names, actions_of, drops, Concludes}
use Rattle.emission.specs.Written.{Written, Adds}
use Rattle.emission.proofs.Adding.{none_written}
use Rattle.federate.proofs.Message.{is-silent, message-proper}
use Rattle.federate.proofs.Scheduler.{own_end, whole_end, halfway-neat, own-good, spent-is, end-beyond, end-neat, step_is}
use Rattle.federate.proofs.Refusing.{out-spent, open-call}
use Rattle.federate.proofs.Entering.{Enters}
use Rattle.federate.proofs.Undo.{set_back, set-back-two}

-- ---- the cells put back

pub undone : (s : Held) (i : ℕ) (x w : Row) → Sized s → i < 32 → w ≡ row_of s i → with_row (with_row s i x) i w ≡ s
undone s i x w z h q =
    let a = z.published in let b = z.acknowledged in let c = z.observed in let d = z.seconds in let e = z.nanoseconds in let f = z.microsteps in
    rw (
      q,
      set_back false s.published i x.published (omega arith),
      set_back false s.acknowledged i x.acknowledged (omega arith),
      set_back 0 s.completion_observed i x.completion_observed (omega arith),
      set-back-two (pos 0) s.seconds i (32 + i) x.candidate.seconds x.completed.seconds (omega arith) (omega arith),
      set-back-two (pos 0) s.nanoseconds i (32 + i) x.candidate.nanoseconds x.completed.nanoseconds (omega arith) (omega arith),
      set-back-two 0 s.microsteps i (32 + i) x.candidate.microstep x.completed.microstep (omega arith) (omega arith),
    ) refl

-- ---- what is asked of the state whose row alone is stored is asked of the state between, and of the state after the own rule

pub halfway-listed : (s : Held) (i : ℕ) (d : Decided) {t : Held} → t ≡ with_row s i d.parts.row → SameListed (halfway s i d) t
halfway-listed s i d e =
    subst (SameListed (halfway s i d)) (sym e)
    (record { published = refl; seconds = refl; nanoseconds = refl; microsteps = refl; count = refl; grant_horizon = refl; lifecycle = refl })

pub own-beside : (s : Held) (i : ℕ) (d : Decided) (k : Concluded) {t : Held} → t ≡ with_row s i d.parts.row → Beside (own_end s i d k) t
own-beside s i d k e =
    subst (Beside (own_end s i d k)) (sym e)
    (record { published = refl; acknowledged = refl; completion_observed = refl; seconds = refl; nanoseconds = refl; microsteps = refl; count = refl; grant_horizon = refl })

-- ---- the end in the order of the stores

abbrev pub with_observation : List ℕ → Held → Held
with_observation o s = record {
  count = s.count;
  enclaves = s.enclaves;
  published = s.published;
  observation = o;
  acknowledged = s.acknowledged;
  completion_observed = s.completion_observed;
  seconds = s.seconds;
  nanoseconds = s.nanoseconds;
  microsteps = s.microsteps;
  coordination = s.coordination;
  completion = s.completion;
  gate = s.gate;
  grant_horizon = s.grant_horizon;
  failed = s.failed;
  lifecycle = s.lifecycle;
  first_failure = s.first_failure;
}

abbrev pub with_failure : Parts → Held → Held
with_failure p s = record {
  count = s.count;
  enclaves = s.enclaves;
  published = s.published;
  observation = s.observation;
  acknowledged = s.acknowledged;
  completion_observed = s.completion_observed;
  seconds = s.seconds;
  nanoseconds = s.nanoseconds;
  microsteps = s.microsteps;
  coordination = s.coordination;
  completion = s.completion;
  gate = s.gate;
  grant_horizon = s.grant_horizon;
  failed = p.failed;
  lifecycle = s.lifecycle;
  first_failure = p.first_failure;
}

-- only an announcement drops
undropped : (a : Said) → ((resume : Bool) → a ≡ Announcement resume → ⊥) → drops a ≡ false
undropped (Word n) other = refl
undropped (Announcement resume) other = absurd (other resume refl)
undropped (Completing k) other = refl

module _ (s : Held) (i : ℕ) (d : Decided) (k : Concluded) (a : Advanced) where
  -- before the observations and the gate
  abbrev pub stored_end : Held
  stored_end = with_completion a.completion (with_coordination k.coordination (rebuilt s i d.parts s.observation s.gate))

  module _ (r : Held) (row : r ≡ with_row s i d.parts.row) where
    pub end-stored : with_failure d.parts (with_coordination k.coordination (with_completion a.completion r)) ≡ stored_end
    end-stored = rw row refl

    -- a message about completion leaves the rest alone
    pub end-aside : (p : Parts) → p ≡ parts_of s i → Aside p d → k.coordination ≡ d.parts.coordination → with_completion a.completion r ≡ stored_end
    end-aside p read x y =
        let c : k.coordination ≡ s.coordination = y ∙ x.coordination ∙ ap (λ (z : Parts). z.coordination) read in
        let f : d.parts.failed ≡ s.failed = x.failed ∙ ap (λ (z : Parts). z.failed) read in
        let n : d.parts.first_failure ≡ s.first_failure = x.failure ∙ ap (λ (z : Parts). z.first_failure) read in
        rw (row, c, f, n) refl

  -- before the gate
  abbrev pub observed_end : Held
  observed_end = with_completion a.completion (with_coordination k.coordination (halfway s i d))

  module _ (t : Held) where
    pub end-cleared : t ≡ stored_end → (o : List ℕ) → o ≡ cleared s.count t.observation → d.forgets ≡ true → with_observation o t ≡ observed_end
    end-cleared q o h e = rw (h, q, e) refl

    pub end_kept : t ≡ stored_end → d.forgets ≡ false → t ≡ observed_end
    end_kept q e = rw (q, e) refl

    pub end-dropped : t ≡ observed_end → (g : Gate) → g ≡ dropped_of t.gate → (resume : Bool) → k.said ≡ Announcement resume → with_gate g t ≡ whole_end s i d k a
    end-dropped q g h resume e = rw (h, q, e) refl

    pub end-held : t ≡ observed_end → ((resume : Bool) → k.said ≡ Announcement resume → ⊥) → t ≡ whole_end s i d k a
    end-held q other = rw (q, undropped k.said other) refl

-- ---- what is said, as the columns have it

said-by : (s t : Held) → t.enclaves ≡ s.enclaves → t.seconds ≡ s.seconds → t.nanoseconds ≡ s.nanoseconds → t.microsteps ≡ s.microsteps → t.count ≡ s.count
    → (p : Saying) (g : ℕ) → sayings t p g ≡ sayings s p g
said-by s t a b c d e Nothing g = refl
said-by s t a b c d e (Probes f) g = rw (a, b, c, d, e) refl
said-by s t a b c d e (Completes f) g = refl

module _ (room : List ℕ) (m : SchedulerMessage) (s : Held) (i : ℕ) (n : Enters room m s i) where
  good : Good s
  good = n.stands.good

  within : i < s.count
  within = n.place.seat.within

  proper : T (all_proper (facts (call_of m)).tags)
  proper = is-so (message-proper m ∙ n.proper)

  neat-own : T (neat_parts (parts_of s i))
  neat-own =
      let h = good.neat in
      let p = place-parts s i (neat-place s h i within) in
      parts_whole (parts_of s i) (record {
        row = row-whole (row_of s i) (record { candidate = p.candidate; completed = p.completed; observed = p.observed });
        coordination = neat-coordination s h;
        completion = neat-completion s h;
        failure = neat-failure s h;
      })

  -- ---- the first half, as `own_step` promises it of the parts that were read

  module _ (p : Parts) (read : p ≡ parts_of s i) (d : Decided) where
    pub decides : ((e : ℕ) → Names (enclave_of m) e → T (all_proper (facts (call_of m)).tags) → Decides (own_step (call_of m)) e p d)
        → Decides (own_step (call_of m)) (get_or s.enclaves i 0) (parts_of s i) d
    decides steps = rw (← read) (steps (get_or s.enclaves i 0) n.place.named proper)

    pub neat : (T (all_proper (facts (call_of m)).tags) → T (neat_parts p) → T (neat_parts d.parts)) → T (neat_parts d.parts)
    neat keeps = keeps proper (rw read neat-own)

  -- ---- the state between, and the state after the own rule

  module _ (d : Decided) (neat : T (neat_parts d.parts)) where
    pub halfway-holds : T (represents (halfway s i d))
    halfway-holds = halfway-neat s i d good within neat

    module _ (decides : Decides (own_step (call_of m)) (get_or s.enclaves i 0) (parts_of s i) d) (k : Concluded)
        (concludes : Concludes (halfway s i d) (get_or s.enclaves i 0) d.next k) where
      pub own-holds : T (represents (own_end s i d k))
      own-holds = (own-good s m i d k good n.place (is-so n.proper) decides neat concludes).neat

      pub ends-9 : (e : Refusal) → Spends (own_end s i d k) e → (x w : Row) → w ≡ row_of s i → (t : Held) → t ≡ with_row (with_row s i x) i w
          → (r : Called) → r ≡ replied t (Some e) None 0 → Ends (lent (length room) (call_of m)) s r room room
      ends-9 e spends x w row t p r q =
          out-spent room m s n.stands n.wide n.proper i n.place (spent-is s m i d k good n.place (is-so n.proper) decides neat concludes true spends.spent)
          t refl (p ∙ undone s i x w good.sized (let z = n.stands.few in let y = within in omega arith) row)
          (q ∙ ap (λ (x : Refusal). replied t (Some x) None 0) spends.refusal)

      module _ (a : Advanced) (steps : Steps (own_end s i d k) a) where
        abbrev said : List CoordinationAction
        said = actions_of (get_or s.enclaves i 0) k.said k.coordination

        abbrev later : Held → List CoordinationAction
        later t = sayings t a.saying a.completion.completion_generation

        -- whatever the state is called that was stored before the records were written, and the one handed back
        pub ends-0 : (u : Held) → u ≡ observed_end s i d k a → (t : Held) → t ≡ whole_end s i d k a → (room₁ : List ℕ) (total : ℕ)
            → Adds (actions_of (get_or u.enclaves i 0) k.said k.coordination ++ later u) room 0 room₁ total
            → (r : Called) → r ≡ replied t None None total → Ends (lent (length room) (call_of m)) s r room room₁
        ends-0 u y t z room₁ total adds r q =
            ends-taken (lent (length room) (call_of m)) s room (is-silent m (view s)) n.stands unrefused (whole_end s i d k a) (said ++ later (own_end s i d k))
            (end-beyond s m i d k good n.place (is-so n.proper) decides neat concludes a steps)
            (end-neat s m i d k good n.place (is-so n.proper) decides neat concludes a steps) step written.number written.bytes
            (q ∙ ap (λ (x : Held). replied x None None total) z)
          where
            unrefused : 0 ≡ refusal_of (lent (length room) (call_of m)) s
            unrefused =
                open-call room m s n.stands n.wide n.proper i n.place
                (spent-is s m i d k good n.place (is-so n.proper) decides neat concludes false steps.unspent) refl

            step : take_step (call_of m) (view s) ≡ record { state = view (whole_end s i d k a); actions = said ++ later (own_end s i d k) }
            step = step_is s m i d k good n.place (is-so n.proper) decides neat concludes a steps

            fits : 56 * length (said ++ later (own_end s i d k)) ≤ 56 * (s.count + 2)
            fits =
                subst (λ (o : Step). 56 * length o.actions ≤ 56 * (s.count + 2)) step
                (actions-fit (lent (length room) (call_of m)) s n.stands.passing unrefused)

            added : Adds (said ++ later (own_end s i d k)) room 0 room₁ total
            added = rw (y, said-by (own_end s i d k) (observed_end s i d k a) refl refl refl refl refl a.saying a.completion.completion_generation) at adds

            written : Written room (said ++ later (own_end s i d k)) room₁ total
            written = added room [] (none_written room) (let z = fits in let y = n.wide in omega arith)
