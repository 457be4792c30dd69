-- An action in numbers: what its record is made of. Assumes nothing.
use Rattle.tags.specs.declared.Tag.{Tag}
use Rattle.std.specs.Prelude.{Bool, false, ℕ, None, Option, Some, Result, Ok, Err}
use Rattle.records.specs.Numbers.{refusal_number}
use Rattle.records.specs.declared.Refusal.{Refusal}
use Rattle.rules.specs.Model.{CoordinationAction}
use Rattle.actions.specs.Record.{fields_of}
use Rattle.plain.specs.declared.ActionNumbers.{ActionNumbers}
use Rattle.plain.specs.Tags.{tag_numbers}

-- by refusal, kind, enclave, revision or generation, tag, second tag, network input
abbrev pub numbers_with : ℕ → ℕ → ℕ → ℕ → Option Tag → Option Tag → Bool → ActionNumbers
numbers_with refusal kind enclave number first second network = record {
  refusal = refusal;
  kind = kind;
  network_input = network;
  enclave = enclave;
  number = number;
  first = tag_numbers first;
  second = tag_numbers second;
}

abbrev pub action_numbers : CoordinationAction → ActionNumbers
action_numbers a =
    numbers_with (refusal_number None) (fields_of a).kind (fields_of a).enclave (fields_of a).number (fields_of a).first (fields_of a).second
    (fields_of a).network_input

abbrev pub read_numbers : Result CoordinationAction Refusal → ActionNumbers
read_numbers (Ok a) = action_numbers a
read_numbers (Err r) = numbers_with (refusal_number (Some r)) 0 0 0 None None false
