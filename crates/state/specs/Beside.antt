-- A state beside another, for which a promise made of the other holds too: alike in what is read of it, column by column. Everything else may differ, the small
-- parts that are stored later among it. Assumes nothing.
use Rattle.std.specs.Prelude.{◌≡◌}
use Rattle.state.specs.declared.FederateCoordinationState.{FederateCoordinationState as Held}

-- the same tags of as many participants
pub record SameTags (s t : Held) : Type 0 where
  pub seconds : s.seconds ≡ t.seconds
  pub nanoseconds : s.nanoseconds ≡ t.nanoseconds
  pub microsteps : s.microsteps ≡ t.microsteps
  pub count : s.count ≡ t.count

-- and what Publish's second half reads besides
pub record SameListed (s t : Held) : Type 0 where
  pub published : s.published ≡ t.published
  pub seconds : s.seconds ≡ t.seconds
  pub nanoseconds : s.nanoseconds ≡ t.nanoseconds
  pub microsteps : s.microsteps ≡ t.microsteps
  pub count : s.count ≡ t.count
  pub grant_horizon : s.grant_horizon ≡ t.grant_horizon
  pub lifecycle : s.lifecycle ≡ t.lifecycle

-- and what the completion step reads besides
pub record Beside (s t : Held) : Type 0 where
  pub published : s.published ≡ t.published
  pub acknowledged : s.acknowledged ≡ t.acknowledged
  pub completion_observed : s.completion_observed ≡ t.completion_observed
  pub seconds : s.seconds ≡ t.seconds
  pub nanoseconds : s.nanoseconds ≡ t.nanoseconds
  pub microsteps : s.microsteps ≡ t.microsteps
  pub count : s.count ≡ t.count
  pub grant_horizon : s.grant_horizon ≡ t.grant_horizon
