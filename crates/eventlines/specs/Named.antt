-- The fields that are left of a line, and what those of an `input` line name, as the code holds both. Assumes nothing.
use Rattle.std.specs.Prelude.{ℕ, List, length, None, Option, Some}
use Rattle.rules.specs.Model.{Call}
use Rattle.events.specs.Told.{inputs, padded, fields_from}
use Rattle.eventlines.specs.declared.Fields.{Fields}
use Rattle.eventlines.specs.declared.Named.{Named}

abbrev pub fields_of : Fields → List (List ℕ)
fields_of f = fields_from f.at f.line.now

abbrev pub named_of : Option Call → Option Named
named_of None = None
named_of (Some c) = Some (record { count = length (inputs c); enclaves = padded 32 (inputs c) })
