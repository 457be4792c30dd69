-- What a public call on the state held promises, in the words of the rules: refusal, answer, number of actions, the state with every cell, and the
-- actions whose records the room holds afterwards. Assumes nothing.
use Rattle.std.specs.Prelude.{◌≡◌, Bool, cond, List, [], ℕ, ◌+◌, ◌*◌, eqb, ltb, length, None, Option, Some}
use Rattle.records.specs.Numbers.{refusal_number}
use Rattle.records.specs.declared.Refusal.{Refusal}
use Rattle.records.specs.declared.Refusal.TheVariants.{UnknownEnclave, ImproperTag, RoomTooSmall}
use Rattle.rules.specs.Model.{CoordinationAction, Call, Given}
use Rattle.rules.specs.Calls.{facts, take_step, refusal, refused_answer}
use Rattle.state.specs.declared.FederateCoordinationState.{FederateCoordinationState as Held}
use Rattle.state.specs.View.{view, put, represents}
use Rattle.calls.specs.declared.Called.{Called}

-- a call with so many bytes of room lent to it
abbrev pub lent : ℕ → Call → Given
lent room c = record { room = room; what = c }

-- 27 also for a value that represents no state of document 01
unfoldable pub refusal_of : Given → Held → ℕ
refusal_of g s = cond (represents s) (refusal g (view s)) 27

abbrev pub is_taken_of : Given → Held → Bool
is_taken_of g s = eqb (refusal_of g s) 0

-- "A refusal returns the entry state, zero actions, the answer no"
unfoldable pub state_of : Given → Held → Held
state_of g s = cond (is_taken_of g s) (put s (take_step g.what (view s)).state) s

unfoldable pub actions_of : Given → Held → List CoordinationAction
actions_of g s = cond (is_taken_of g s) (take_step g.what (view s)).actions []

unfoldable pub answer_of : Given → Held → Option Bool
answer_of g s = cond (is_taken_of g s) ((facts g.what).answer (view s)) (refused_answer ((facts g.what).answer (view s)))

pub record Promised (g : Given) (s : Held) (r : Called) : Type 0 where
  pub refusal : refusal_number r.reply.refusal ≡ refusal_of g s
  pub answer : r.reply.answer ≡ answer_of g s
  pub actions : r.reply.actions ≡ length (actions_of g s)
  pub state : r.state ≡ state_of g s

abbrev pub replied : Held → Option Refusal → Option Bool → ℕ → Called
replied s n a k = record { state = s; reply = record { refusal = n; answer = a; actions = k } }

-- ---- "Calls: 27, 8, 7, 3, 4, 9", as the code tests them: 8 before what comes later, and 7 before 3

abbrev pub room_first : ℕ → ℕ → Option Refusal → Option Refusal
room_first room count later = cond (ltb room (56 * (count + 2))) (Some RoomTooSmall) later

abbrev pub tag_first : Bool → Bool → Option Refusal
tag_first proper known = cond proper (cond known None (Some UnknownEnclave)) (Some ImproperTag)
