-- Every declared state is of its widths: `StateFits`, from what it is to be a value of the declared type, and so is every declared tag. Assumes nothing.
use Rattle.std.specs.Prelude.{None, Option, Some}
use Prim.Native.Nat.{ℕ, zero, suc}
use mathlib.Core.List.{List, [], ◌∷◌}
use lib.ListN.{get_or}
use mir.Syntax.{w32, w64}
use mir.Val.{Val, Fits, SFits}
use mir.Facts.{Fits-lit, sfits_lit}
use base.Fml.{Fml}
use denote.Shadow.{shadow}
use denote.Laws.{Is}
use denote.Array.{each}
use denote.Builtin.{i32, i64, u64}
use denote.Struct.Declared.{row}
use denote.Enum.Declared as enum
use Rattle.tags.specs.declared.Tag.{Tag}
use Rattle.tags.specs.contracts.Tag as tag
use Rattle.std.specs.contracts.option.Option as optional
use Rattle.records.specs.declared.FederateAcquisition.{FederateAcquisition}
use Rattle.records.specs.declared.FederatePublication.{FederatePublication}
use Rattle.records.specs.declared.SchedulerMessage.{SchedulerMessage}
use Rattle.records.specs.declared.SchedulerMessage.TheVariants.{Active, Publish, CompleteTag, CompletionObserved, ParticipantStopped, Failed}
use Rattle.records.specs.contracts.FederateAcquisition as acquisition
use Rattle.records.specs.contracts.FederatePublication as publication
use Rattle.records.specs.contracts.SchedulerMessage as message
use Rattle.actions.specs.Demands.{FitsTag, FitsOptional}
use Rattle.state.specs.declared.FederateCoordinationState.{FederateCoordinationState as Held}
use Rattle.state.specs.contracts.FederateCoordinationState as held
use Rattle.writable.specs.Demands.{MessageFits, StateFits}

-- what holds of every value of an element's type holds at every place of an array
entries : {X : Type 0} (own : X → List Val → Fml) (Q : X → Type 0) → ((x : X) (vs : List Val) → shadow (own x vs) → Q x) → (other : X) → Q other
    → (xs : List X) (us : List Val) → shadow (each X own xs us) → (i : ℕ) → Q (get_or xs i other)
entries own Q f other d [] us h i = d
entries own Q f other d (x ∷ xs) [] h i = absurd h
entries own Q f other d (x ∷ xs) (u ∷ us) h zero = f x (u ∷ []) h.0
entries own Q f other d (x ∷ xs) (u ∷ us) h (suc i) = entries own Q f other d xs us h.1 i

pub tag_fits : (t : Tag) (vs : List Val) → Is (row tag.the_type) t vs → FitsTag t
tag_fits t vs h =
    let f = h.1.1 in
    record { seconds = record { sfits = f.0.1 }; nanoseconds = record { sfits = f.1.0.1 }; microstep = record { fits = f.1.1.0.1 } }

pub optional-fits : (m : Option Tag) (vs : List Val) → Is (enum.row (optional.the_type (row tag.the_type))) m vs → FitsOptional m
optional-fits None vs h = tt
optional-fits (Some t) vs h = tag_fits t _ h.1.1.1.1.0

-- the tags in the arguments of the calls that write

pub acquisition-fits : (a : FederateAcquisition) (vs : List Val) → Is (row acquisition.the_type) a vs → FitsTag a.granted
acquisition-fits a vs h = tag_fits a.granted _ h.1.1.1.0

pub publication-fits : (p : FederatePublication) (vs : List Val) → Is (row publication.the_type) p vs
    → FitsOptional p.next_event × FitsOptional p.grant_horizon
publication-fits p vs h = (optional-fits p.next_event _ h.1.1.1.0, optional-fits p.grant_horizon _ h.1.1.1.1.0)

pub message-fits : (m : SchedulerMessage) (vs : List Val) → Is (enum.row message.the_type) m vs → MessageFits m
message-fits (Active e) vs h = tt
message-fits (Publish e c) vs h = optional-fits c _ h.1.1.1.1.1.0
message-fits (CompleteTag e t n) vs h = tag_fits t _ h.1.1.1.1.1.0
message-fits (CompletionObserved e g) vs h = tt
message-fits (ParticipantStopped e) vs h = tt
message-fits (Failed e) vs h = tt

pub state-fits : (s : Held) (vs : List Val) → Is (row held.the_type) s vs → StateFits s
state-fits s vs h =
    let columns = h.1.1.1.1.1.1.1.1 in
    let parts = columns.1.1.1 in
    let gate = parts.1.1.0.1.1 in
    let seconds = entries i64.own_val (SFits w64) (λ z us k. record { sfits = k.1 }) _ (sfits_lit tt) s.seconds _ columns.0.1.1 in
    let nanoseconds = entries i32.own_val (SFits w32) (λ z us k. record { sfits = k.1 }) _ (sfits_lit tt) s.nanoseconds _ columns.1.0.1.1 in
    let microsteps = entries u64.own_val (Fits w64) (λ n us k. record { fits = k.1 }) _ (Fits-lit tt) s.microsteps _ columns.1.1.0.1.1 in
    record {
      revision = record { fits = parts.0.1.1.1.1.1.0.1 };
      tags = λ k. record { seconds = seconds k; nanoseconds = nanoseconds k; microstep = microsteps k };
      horizon = tag_fits s.grant_horizon _ parts.1.1.1.0;
      input_horizon = tag_fits s.gate.input_horizon _ gate.0;
      stored_granted = tag_fits s.gate.stored_granted _ gate.1.1.0;
    }
