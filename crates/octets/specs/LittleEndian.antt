-- Document 01, "Action record": numbers as little-endian bytes. Assumes nothing.
use Rattle.std.specs.Prelude.{ℕ, zero, suc, ◌+◌, ◌*◌, ◌/◌, ◌%◌, ◌<◌, List, [], ◌∷◌, get_or}

-- n as k bytes, the least first
abbrev pub le : ℕ → ℕ → List ℕ
le zero n = []
le (suc k) n = n % 256 ∷ le k (n / 256)

-- every element is a byte
abbrev pub AreBytes : List ℕ → Type 0
AreBytes s = (i : ℕ) → get_or s i 0 < 256

-- the number that bytes spell, the least first
abbrev pub unle : List ℕ → ℕ
unle [] = 0
unle (b ∷ bs) = b + 256 * unle bs

-- the number in the k bytes of s from index at on; a byte past the end counts as 0
abbrev pub num_at : ℕ → List ℕ → ℕ → ℕ
num_at zero s at = 0
num_at (suc k) s at = get_or s at 0 + 256 * num_at k s (suc at)
