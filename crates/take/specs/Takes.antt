-- What taking an event promises: all that its call promises, with every byte of the room. Assumes nothing.
use Rattle.std.specs.Prelude.{◌≡◌, List, ℕ, length, None, Option, Some}
use Rattle.records.specs.declared.Refusal.TheVariants.{ScriptOutOfForm}
use Rattle.octets.specs.Runs.{put_at}
use Rattle.actions.specs.Record.{records_of}
use Rattle.rules.specs.Model.{Call}
use Rattle.state.specs.declared.FederateCoordinationState.{FederateCoordinationState as Held}
use Rattle.calls.specs.declared.Called.{Called}
use Rattle.calls.specs.Called.{Promised, lent, actions_of, replied}

-- the call with the room as it was lent, and as it is left
pub record TakesCall (c : Call) (s : Held) (before after : List ℕ) (r : Called) : Type 0 where
  pub promised : Promised (lent (length before) c) s r
  pub bytes : after ≡ put_at before 0 (records_of (actions_of (lent (length before) c) s))

-- what is no event changes nothing
abbrev pub Takes : Option Call → Held → List ℕ → List ℕ → Called → Type 0
Takes None s before after r = (r ≡ replied s (Some ScriptOutOfForm) None 0) × (after ≡ before)
Takes (Some c) s before after r = TakesCall c s before after r
