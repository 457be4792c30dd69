-- What a query on the state held promises, in the words of the rules (rules, Queries): 27 for what no call takes, else the query's answer.
-- Assumes nothing.
use Rattle.std.specs.Prelude.{◌≡◌, Bool, cond, ◌&&◌, Option}
use Rattle.records.specs.Numbers.{refusal_number}
use Rattle.records.specs.declared.Refusal.{Refusal}
use Rattle.rules.specs.Model.{State}
use Rattle.rules.specs.Calls.{is_sound}
use Rattle.rules.specs.Queries.{Asked}
use Rattle.state.specs.declared.FederateCoordinationState.{FederateCoordinationState as Held}
use Rattle.state.specs.View.{view, represents}

-- 27 also for a value that represents no state of document 01
abbrev pub passes : Held → Bool
passes s = represents s && is_sound (view s)

-- 27 and the answer said of a refusal, or 0 and what was asked for
abbrev pub answer_if : {A : Type 0} → Bool → A → A → Asked A
answer_if sound refused answer = record { refusal = cond sound 0 27; answer = cond sound answer refused }

-- the rules' `ask` of the state held: "A refusal returns .. the answer no, unknown, absent or 0"
abbrev pub ask_held : {A : Type 0} → A → (State → A) → Held → Asked A
ask_held refused query s = answer_if (passes s) refused (query (view s))

-- this refusal and this answer are those asked for
pub record Answers {A : Type 0} (asked : Asked A) (refusal : Option Refusal) (answer : A) : Type 0 where
  pub refused : refusal_number refusal ≡ asked.refusal
  pub answered : answer ≡ asked.answer
