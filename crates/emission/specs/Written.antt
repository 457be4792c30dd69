-- The records of a call's actions, one after the other from byte 0 of the room: what has been written so far, and what is added. Assumes nothing.
use Rattle.std.specs.Prelude.{◌≡◌, List, ◌++◌, ℕ, ◌+◌, ◌*◌, ◌≤◌, length}
use Rattle.octets.specs.Runs.{put_at}
use Rattle.actions.specs.Record.{records_of}
use Rattle.rules.specs.Model.{CoordinationAction}

-- the room, lent as room₀, now holds the records of these actions, n of them, and every later byte as it was
pub record Written (room₀ : List ℕ) (acts : List CoordinationAction) (room : List ℕ) (n : ℕ) : Type 0 where
  pub bytes : room ≡ put_at room₀ 0 (records_of acts)
  pub number : n ≡ length acts

-- these actions are added to whatever was written so far, where they fit
abbrev pub Adds : List CoordinationAction → List ℕ → ℕ → List ℕ → ℕ → Type 0
Adds more room n room' n' =
    (room₀ : List ℕ) (acts : List CoordinationAction) → Written room₀ acts room n → 56 * (length acts + length more) ≤ length room₀ → Written room₀ (acts ++ more) room' n'
