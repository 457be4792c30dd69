-- Where the enclave that a message names stands, or why its call is refused. Assumes nothing.
use Rattle.std.specs.Prelude.{List, ℕ, cond, ◌&&◌, eqb, ltb, get_or, None, Option, Some, Result, Ok, Err}
use Rattle.tags.specs.Tags.{proper_if_present}
use Rattle.records.specs.declared.Refusal.{Refusal}
use Rattle.records.specs.declared.Refusal.TheVariants.{UnsoundState}
use Rattle.records.specs.declared.SchedulerMessage.{SchedulerMessage}
use Rattle.rules.specs.Calls.{is_sound}
use Rattle.state.specs.declared.FederateCoordinationState.{FederateCoordinationState as Held}
use Rattle.state.specs.Walk.{place_from}
use Rattle.state.specs.View.{view, represents}
use Rattle.calls.specs.Called.{room_first, tag_first}
use Rattle.dispatch.specs.Messages.{enclave_of, tag_of}

-- the first place where nobody is named
abbrev pub place_of : Option ℕ → List ℕ → ℕ → ℕ
place_of None es n = 0
place_of (Some e) es n = place_from (λ j. eqb (get_or es j 0) e) 0 n

-- 8, 7 and 3 for a message whose enclave has this place
abbrev pub refused_at : ℕ → SchedulerMessage → Held → ℕ → Option Refusal
refused_at room m s i = room_first room s.count (tag_first (proper_if_present (tag_of m)) (ltb i s.count))

abbrev pub unless : Option Refusal → ℕ → Result ℕ Refusal
unless None i = Ok i
unless (Some e) i = Err e

-- 27, 8, 7 and 3, or the place of the message's enclave
abbrev pub place_for : ℕ → SchedulerMessage → Held → Result ℕ Refusal
place_for room m s =
    cond (represents s && is_sound (view s))
    (unless (refused_at room m s (place_of (enclave_of m) s.enclaves s.count)) (place_of (enclave_of m) s.enclaves s.count)) (Err UnsoundState)
