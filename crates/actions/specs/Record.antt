-- Document 01, "Action record, 56 bytes, little-endian": the bytes that an action writes. Assumes nothing.
use Rattle.std.specs.Prelude.{ℕ, ◌+◌, Bool, false, cond, ◌&&◌, List, [], ◌∷◌, ◌++◌, replicate, None, Option, Some}
use Rattle.std.specs.Int.{w32, w64}
use Rattle.std.proofs.Common.{of_z}
use Rattle.tags.specs.Tags.{is_present, proper_if_present}
use Rattle.tags.specs.declared.Tag.{Tag}
use Rattle.records.specs.Numbers.{action_number}
use Rattle.records.specs.declared.CoordinationAction.{CoordinationAction}
use Rattle.records.specs.declared.CoordinationAction.TheVariants as action
use Rattle.octets.specs.LittleEndian.{le}
use Rattle.actions.specs.declared.Fields.{Fields}

abbrev pub fields : ℕ → ℕ → ℕ → Option Tag → Option Tag → Bool → Fields
fields kind enclave number first second network =
    record { kind = kind; enclave = enclave; number = number; first = first; second = second; network_input = network }

-- what each kind carries: enclave, revision or generation, tag, second tag ("Publish: horizon"), network input
abbrev pub carried : ℕ → CoordinationAction → Fields
carried kind (action.Publish p) = fields kind 0 p.revision p.next_event p.grant_horizon false
carried kind (action.AdvanceHorizon t) = fields kind 0 0 (Some t) None false
carried kind (action.Grant e t) = fields kind e 0 (Some t) None false
carried kind (action.Complete c) = fields kind 0 0 (Some c.completed) None c.network_input
carried kind (action.CompletionProbe e g) = fields kind e g None None false
carried kind (action.Probe r) = fields kind 0 r None None false
carried kind (action.Park r) = fields kind 0 r None None false
carried kind (action.Recheck r) = fields kind 0 r None None false
carried kind (action.Resume e r) = fields kind e r None None false
carried kind action.Stop = fields kind 0 0 None None false
carried kind action.Abort = fields kind 0 0 None None false

abbrev pub fields_of : CoordinationAction → Fields
fields_of a = carried (action_number a) a

-- "flags (1 first tag present, 2 second, 4 network input)"
abbrev pub flags_of : Fields → ℕ
flags_of f = cond (is_present f.first) 1 0 + cond (is_present f.second) 2 0 + cond f.network_input 4 0

-- "0 kind; 1 flags; 2 zero; 4 enclave; 8 revision or generation"
abbrev pub head_bytes : Fields → List ℕ
head_bytes f = f.kind ∷ flags_of f ∷ 0 ∷ 0 ∷ (le 4 f.enclave ++ le 8 f.number)

-- "A tag is signed 64-bit seconds, signed 32-bit nanoseconds, unsigned 64-bit microstep."
abbrev pub tag_bytes : Tag → List ℕ
tag_bytes t = le 8 (of_z w64 t.seconds) ++ le 4 (of_z w32 t.nanoseconds) ++ le 8 t.microstep

-- "Unused fields are zero."
abbrev pub optional_bytes : Option Tag → List ℕ
optional_bytes None = replicate 20 0
optional_bytes (Some t) = tag_bytes t

-- "16 tag; 36 second tag"
unfoldable pub bytes_of : Fields → List ℕ
bytes_of f = head_bytes f ++ optional_bytes f.first ++ optional_bytes f.second

unfoldable pub record_of : CoordinationAction → List ℕ
record_of a = bytes_of (fields_of a)

-- the records of a list of actions, one right after the other
unfoldable pub records_of : List CoordinationAction → List ℕ
records_of [] = []
records_of (a ∷ rest) = record_of a ++ records_of rest

-- all tags of the action are proper
abbrev pub proper_action : CoordinationAction → Bool
proper_action a = proper_if_present (fields_of a).first && proper_if_present (fields_of a).second
