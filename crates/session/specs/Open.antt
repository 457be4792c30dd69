-- Document 01, "Script and its listing": a script opened, "Scripts: 12, 11, then the opening". Assumes nothing.
use Rattle.std.specs.Prelude.{ℕ, ◌≡◌, Bool, cond, List, ltb, length}
use Rattle.records.specs.Numbers.{refusal_number}
use Rattle.rules.specs.Opening.{opening_refusal}
use Rattle.opening.specs.Opened.{blank, opened_held}
use Rattle.script.specs.Lines.{Reading, Bad, Good}
use Rattle.script.specs.Script.{Script, script_of}
use Rattle.run.specs.declared.Running.{Running}
use Rattle.session.specs.declared.Opened.{Opened}

-- "script over 65,536 bytes"
abbrev pub is_too_long : List ℕ → Bool
is_too_long bytes = ltb 65536 (length bytes)

-- 11 for a bad line, else the opening's refusal
abbrev pub form_refusal : Reading Script → ℕ
form_refusal (Bad place) = 11
form_refusal (Good s last) = opening_refusal s.participants

unfoldable pub script_refusal : List ℕ → ℕ
script_refusal bytes = cond (is_too_long bytes) 12 (form_refusal (script_of bytes))

-- "11; with a byte place": 0 beside any other refusal
abbrev pub form_place : Reading Script → ℕ
form_place (Bad place) = place
form_place (Good s last) = 0

unfoldable pub script_place : List ℕ → ℕ
script_place bytes = cond (is_too_long bytes) 0 (form_place (script_of bytes))

-- where a run begins: at the first event, with the state of the opening
abbrev pub nowhere : Running
nowhere = record { state = blank 0; at = 0; events = 0; left = 0 }

abbrev pub start_by : Reading Script → Running
start_by (Bad place) = nowhere
start_by (Good s last) = record {
  state = opened_held s.participants s.policy s.revision s.generation;
  at = s.events_at;
  events = length s.events;
  left = length s.events;
}

unfoldable pub start_of : List ℕ → Running
start_of bytes = cond (is_too_long bytes) nowhere (start_by (script_of bytes))

pub record OpensScript (bytes : List ℕ) (r : Opened) : Type 0 where
  pub refusal : refusal_number r.refusal ≡ script_refusal bytes
  pub place : r.place ≡ script_place bytes
  pub start : r.start ≡ start_of bytes
