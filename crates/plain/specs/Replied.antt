-- A reply in numbers. Assumes nothing.
use Rattle.std.specs.Prelude.{ℕ, Bool, None, Option, Some, false, true}
use Rattle.records.specs.Numbers.{refusal_number}
use Rattle.calls.specs.declared.Reply.{Reply}
use Rattle.plain.specs.declared.ReplyNumbers.{ReplyNumbers}

-- "answer (0, 1 or `-`)": 2 stands for the last
abbrev pub answer_number : Option Bool → ℕ
answer_number (Some false) = 0
answer_number (Some true) = 1
answer_number None = 2

-- of this refusal's number, answer and count of actions
abbrev pub reply_numbers : ℕ → Option Bool → ℕ → ReplyNumbers
reply_numbers refusal answer actions = record { refusal = refusal; answer = answer_number answer; actions = actions }

abbrev pub numbers_of : Reply → ReplyNumbers
numbers_of r = reply_numbers (refusal_number r.refusal) r.answer r.actions
