-- Document 01, "Script and its listing": what the reading of a script answers, with the refusals 11 and 12. Assumes nothing.
use Rattle.std.specs.Prelude.{ℕ, min, cond, List, ltb, length, Result, Ok, Err}
use Rattle.records.specs.declared.Refusal.TheVariants.{ScriptOutOfForm, ScriptTooLong}
use Rattle.events.specs.Told.{padded}
use Rattle.script.specs.declared.BadScript.{BadScript}
use Rattle.script.specs.declared.ReadScript.{ReadScript}
use Rattle.script.specs.Lines.{Reading, Bad, Good}
use Rattle.script.specs.Script.{Script, script_of}

-- 11, at the place of a bad line
abbrev pub bad_line : ℕ → BadScript
bad_line place = record { refusal = ScriptOutOfForm; place = place }

-- 11 at the first bad line. Of the participants the first 33 are kept: at most 32 open, and a thirty-third says that there are too many
unfoldable pub answered : Reading Script → Result ReadScript BadScript
answered (Bad place) = Err (bad_line place)
answered (Good script last) = Ok (record {
  participants = record { indices = padded 33 script.participants; count = min 33 (length script.participants) };
  policy = script.policy;
  revision = script.revision;
  generation = script.generation;
  events_at = script.events_at;
  events = length script.events;
})

-- 12 where there are more than 65,536 bytes
unfoldable pub read_script_of : List ℕ → Result ReadScript BadScript
read_script_of bytes = cond (ltb 65536 (length bytes)) (Err (record { refusal = ScriptTooLong; place = 0 })) (answered (script_of bytes))
