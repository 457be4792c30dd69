-- Of a state beside another: what is asked of the other's columns is asked of its own. By its parts. Assumes nothing.
use mathlib.Core.Path.{◌≡◌, refl, subst}
use Rattle.state.specs.declared.FederateCoordinationState.{FederateCoordinationState as Held}
use Rattle.state.specs.Beside.{SameTags, Beside}

-- t's columns that the completion step reads, with all the rest of s
abbrev pub beside : Held → Held → Held
beside t s = record s {
  count = t.count;
  published = t.published;
  acknowledged = t.acknowledged;
  completion_observed = t.completion_observed;
  seconds = t.seconds;
  nanoseconds = t.nanoseconds;
  microsteps = t.microsteps;
  grant_horizon = t.grant_horizon;
}

module _ {s t : Held} (b : Beside s t) where
  -- s is t's columns with all the rest of s
  pub beside-is : beside t s ≡ s
  beside-is =
      rw (
        ← b.published,
        ← b.acknowledged,
        ← b.completion_observed,
        ← b.seconds,
        ← b.nanoseconds,
        ← b.microsteps,
        ← b.count,
        ← b.grant_horizon,
      ) refl

  -- what holds of t's columns with the rest of s holds of s
  pub beside-by : (P : Held → Type 0) → P (beside t s) → P s
  beside-by P = subst P beside-is

-- t's tags with all the rest of s
abbrev pub tagged : Held → Held → Held
tagged t s = record s { count = t.count; seconds = t.seconds; nanoseconds = t.nanoseconds; microsteps = t.microsteps }

module _ {s t : Held} (b : SameTags s t) where
  -- what holds of t's tags with the rest of s holds of s
  pub tagged-by : (P : Held → Type 0) → P (tagged t s) → P s
  tagged-by P = subst P (rw (← b.seconds, ← b.nanoseconds, ← b.microsteps, ← b.count) refl)
