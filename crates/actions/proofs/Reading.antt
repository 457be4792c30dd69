-- The cases of `read_action`: one for each way through the reader. Assumes nothing.
use Rattle.std.specs.Prelude.{None, Some, Ok, Err}
use mathlib.Core.Path.{◌≡◌}
use mathlib.Core.Bool.{true, false, ◌&&◌}
use mathlib.Core.List.{List}
use Prim.Native.Nat.{ℕ, ◌≤◌, ◌<◌}
use lib.ListN.{length, take, get_or}
use borrow.Author.Tests.{le-leb, lt-leb}
use Rattle.records.specs.declared.CoordinationAction.{CoordinationAction}
use Rattle.octets.specs.Runs.{same_bytes}
use Rattle.actions.specs.Record.{record_of, proper_action}
use Rattle.actions.specs.Reading.{candidate_of, confirmed, read_action}
use Rattle.records.specs.declared.Refusal.TheVariants.{NoActionRecord}

module _ (s : List ℕ) where
  pub read_short : length s < 56 → Err NoActionRecord ≡ read_action s
  unfolding read_action
  read_short h = rw (lt-leb 56 (length s) h)

  module _ (h : 56 ≤ length s) where
    pub read-unknown : candidate_of (get_or s 0 0) s ≡ None → Err NoActionRecord ≡ read_action s
    unfolding read_action confirmed
    read-unknown e = rw (le-leb 56 (length s) h, e)

    module _ (a : CoordinationAction) (e : candidate_of (get_or s 0 0) s ≡ Some a) where
      pub read-confirmed : (same_bytes (record_of a) (take 56 s) && proper_action a) ≡ true → Ok a ≡ read_action s
      unfolding read_action confirmed
      read-confirmed r = rw (le-leb 56 (length s) h, e, r)

      pub read-other : (same_bytes (record_of a) (take 56 s) && proper_action a) ≡ false → Err NoActionRecord ≡ read_action s
      unfolding read_action confirmed
      read-other r = rw (le-leb 56 (length s) h, e, r)
