-- What every function that writes a run of text promises: which bytes the room then has, and which place comes after the run. Assumes nothing.
use Rattle.std.specs.Prelude.{ℕ, ◌+◌, ◌≤◌, ◌≡◌, List, length}
use Rattle.octets.specs.Runs.{put_at}

-- the run, of at most so many bytes, is put into the room from at on: n is the place after it, and later is the room then
pub record Puts (room : List ℕ) (at : ℕ) (run : List ℕ) (most : ℕ) (n : ℕ) (later : List ℕ) : Type 0 where
  pub after : n ≡ at + length run
  pub bytes : later ≡ put_at room at run
  pub within : n ≤ at + most
