-- Document 01, "Bench cases": P1 (five), P2, P3, P4, P5 as one table, computed in one step. A case of calls compares the refusal, the answer, the
-- actions and the values of the end line; the case of a delay what `delay` answers. Assumes nothing.
use Rattle.std.specs.Prelude.{◌≡◌, refl, Bool, true, false, List, [], ◌∷◌, map, ℕ, ◌-◌, ◌^◌, pos, negsuc, None, Option, Some}
use Rattle.tags.specs.Tags.{◌≤ₜ◌, proper_time}
use Rattle.delay.specs.declared.Duration.{Duration}
use Rattle.delay.specs.declared.Delayed.{Delayed}
use Rattle.delay.specs.Delay.{stepped_of, moved_of, delay_of}
use Rattle.rules.specs.Model.{Tag, TerminateWhenIdle, CoordinationPhase, Active, CoordinationAction, Publish, AdvanceHorizon, Grant, Complete, CompletionProbe, State, Call, publish, complete, observed, acquire, stop, input, Result, Given}
use Rattle.rules.specs.Opening.{opened}
use Rattle.rules.specs.Publication.{revise_of, announce, enlist, publish_by, publish_of}
use Rattle.rules.specs.Completion.{finish, complete_all, complete_by, complete_tag_of, observed_of, probe_for, advance_to, advance_of}
use Rattle.rules.specs.Stop.{stop_of}
use Rattle.rules.specs.Acquisition.{grant_of, acquire_capped, acquisition_of}
use Rattle.rules.specs.Gate.{input_publishing_of}
use Rattle.rules.specs.Calls.{own_step, take_step, is_sound, refusal, call, run_calls}
use Rattle.rules.specs.Queries.{is_settled}

-- the values of a script's end line
record EndLine : Type 0 where
  revision : ℕ
  phase : CoordinationPhase
  generation : ℕ
  frontier : Option Tag
  horizon : Option Tag
  settled : Bool

-- what is asked: a call after others from an opening, or a delay
data Asked : Type 0 where
  calls : State → List Call → Call → Asked
  delays : Tag → Duration → Asked

-- what comes
data Outcome : Type 0 where
  called : ℕ → Option Bool → List CoordinationAction → EndLine → Outcome
  delayed : Delayed → Outcome

record Case : Type 0 where
  asked : Asked
  due : Outcome

-- as much room as 32 enclaves need
abbrev lend : Call → Given
lend c = record { room = 1904; what = c }

abbrev end_line : State → EndLine
end_line s = record {
  revision = s.revision;
  phase = s.phase;
  generation = s.completion_generation;
  frontier = s.completed_frontier;
  horizon = s.grant_horizon;
  settled = is_settled s;
}

abbrev outcome : Result → Outcome
outcome r = called r.refusal r.answer r.step.actions (end_line r.step.state)

abbrev found : Asked → Outcome
found (calls s before now) = outcome (call (lend now) (run_calls (map lend before) s).state)
found (delays t d) = delayed (delay_of t d)

-- ---- the cases

abbrev at : ℕ → Tag
at n = record { seconds = pos n; nanoseconds = pos 0; microstep = 0 }

-- a taken call of a script without answer, in phase Active
abbrev taken : List CoordinationAction → ℕ → ℕ → Option Tag → Option Tag → Bool → Outcome
taken actions revision generation frontier horizon settled =
    called 0 None actions (record { revision = revision; phase = Active; generation = generation; frontier = frontier; horizon = horizon; settled = settled })

abbrev two : ℕ → State
two generation = opened (3 ∷ 7 ∷ []) TerminateWhenIdle 0 generation

abbrev three : State
three = opened (0 ∷ 1 ∷ 2 ∷ []) TerminateWhenIdle 0 0

abbrev event1 : Call
event1 = publish 3 (Some (at 5))

abbrev event2 : Call
event2 = publish 7 (Some (at 9))

abbrev event3 : Call
event3 = acquire 2 (at 5)

abbrev event4 : Call
event4 = complete 3 (at 5) true

abbrev event5 : Call
event5 = observed 7 1

-- "enclaves 0, 1, 2 with candidates 5, 9, 9 seconds, acquisition 5; complete 1 at 2, complete 0 at 5, observed 1"
abbrev before-p3 : List Call
before-p3 =
    publish 0 (Some (at 5)) ∷ publish 1 (Some (at 9)) ∷ publish 2 (Some (at 9)) ∷ acquire 3 (at 5) ∷
    complete 1 (at 2) false ∷ complete 0 (at 5) false ∷ observed 1 1 ∷
    []

abbrev completion : ℕ → Bool → CoordinationAction
completion n mark = Complete (record { completed = at n; network_input = mark })

abbrev cases : List Case
cases =
    record { asked = calls (two 0) [] event1; due = taken [] 1 0 None None true } ∷
    record {
      asked = calls (two 0) (event1 ∷ []) event2;
      due = taken (Publish (record { revision = 2; next_event = Some (at 5); grant_horizon = None }) ∷ []) 2 0 None None false;
    } ∷
    record { asked = calls (two 0) (event1 ∷ event2 ∷ []) event3; due = taken (AdvanceHorizon (at 5) ∷ Grant 3 (at 5) ∷ []) 2 0 None (Some (at 5)) true } ∷
    record { asked = calls (two 0) (event1 ∷ event2 ∷ event3 ∷ []) event4; due = taken (CompletionProbe 7 1 ∷ []) 2 1 None (Some (at 5)) false } ∷
    record {
      asked = calls (two 0) (event1 ∷ event2 ∷ event3 ∷ event4 ∷ []) event5;
      due = taken (completion 5 true ∷ []) 2 1 (Some (at 5)) (Some (at 5)) true;
    } ∷
    record {
      asked = calls (two (2 ^ 64 - 1)) (event1 ∷ event2 ∷ event3 ∷ []) event4;
      due = called 9 None [] (record { revision = 2; phase = Active; generation = 2 ^ 64 - 1; frontier = None; horizon = Some (at 5); settled = true });
    } ∷
    record {
      asked = calls three before-p3 (complete 2 (at 5) false);
      due = taken (completion 2 false ∷ completion 5 false ∷ []) 3 1 (Some (at 5)) (Some (at 5)) true;
    } ∷
    record {
      asked = delays (record { seconds = pos 1; nanoseconds = pos 500000000; microstep = 0 }) (record { seconds = pos 0; nanoseconds = negsuc 599999999 });
      due = delayed (record { refusal = None; tag = record { seconds = pos 0; nanoseconds = pos 900000000; microstep = 0 } });
    } ∷
    record { asked = calls three (stop ∷ []) (input []); due = taken [] 1 0 None None true } ∷
    []

bench : map (λ c. found c.asked) cases ≡ map (λ c. c.due) cases
unfolding ◌≤ₜ◌ proper_time stepped_of moved_of delay_of opened revise_of announce enlist publish_by publish_of finish complete_all complete_by complete_tag_of observed_of probe_for advance_to advance_of stop_of grant_of acquire_capped acquisition_of input_publishing_of own_step take_step is_sound refusal call run_calls
bench = refl

-- ---- document 01, "Slips that look right": a call at which each slip shows, with what the Rust gives

-- the horizon is 9 from an earlier acquisition; enclave 7 publishes 8, and the acquisition now is of 5
abbrev before-grown : List Call
before-grown = publish 3 (Some (at 4)) ∷ publish 7 (Some (at 9)) ∷ acquire 2 (at 9) ∷ publish 3 (Some (at 5)) ∷ publish 7 (Some (at 8)) ∷ []

-- generation 1 is acknowledged by 7 while its probe is for 3; the probe of generation 2, for 5, must be acknowledged anew
abbrev before-older : List Call
before-older =
    publish 3 (Some (at 3)) ∷ publish 7 (Some (at 9)) ∷ acquire 2 (at 5) ∷ complete 3 (at 3) false ∷ observed 7 1 ∷
    complete 3 (at 5) false ∷ []

-- enclave 3 has completed 5 beyond the horizon 3; the acquisition raises the horizon and does not probe
abbrev before-raised : List Call
before-raised = publish 3 (Some (at 3)) ∷ publish 7 (Some (at 9)) ∷ acquire 2 (at 3) ∷ complete 3 (at 5) false ∷ observed 7 1 ∷ []

abbrev slips : List Case
slips =
    record {
      asked = calls (two 0) before-grown (acquire 4 (at 5));
      due = taken (AdvanceHorizon (at 9) ∷ Grant 3 (at 5) ∷ []) 4 0 None (Some (at 9)) true;
    } ∷
    record { asked = calls (two 0) before-older (observed 7 1); due = taken [] 2 2 (Some (at 3)) (Some (at 5)) false } ∷
    record { asked = calls (two 0) before-raised (acquire 2 (at 5)); due = taken (AdvanceHorizon (at 5) ∷ []) 2 1 (Some (at 3)) (Some (at 5)) true } ∷
    []

slips-are-excluded : map (λ c. found c.asked) slips ≡ map (λ c. c.due) slips
unfolding ◌≤ₜ◌ proper_time opened revise_of announce enlist publish_by publish_of finish complete_all complete_by complete_tag_of observed_of probe_for advance_to advance_of grant_of acquire_capped acquisition_of own_step take_step is_sound refusal call run_calls
slips-are-excluded = refl
