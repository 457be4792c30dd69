-- Questions to the n places from k on: what the rules' walks over the participants are on columns. `f` and `q` say what stands at a place. Assumes nothing.
use Rattle.tags.specs.declared.Tag.{Tag}
use Rattle.std.specs.Prelude.{Bool, true, false, cond, ◌&&◌, ◌||◌, List, [], ◌∷◌, ℕ, zero, suc, ◌+◌, None, Option}
use Rattle.tags.specs.Tags.{lesser_present, greater_present}

-- f at each place
abbrev pub tab : {A : Type 0} → (ℕ → A) → ℕ → ℕ → List A
tab f k zero = []
tab f k (suc n) = f k ∷ tab f (k + 1) n

unfoldable pub all_of : (ℕ → Bool) → ℕ → ℕ → Bool
all_of q k zero = true
all_of q k (suc n) = q k && all_of q (k + 1) n

unfoldable pub any_of : (ℕ → Bool) → ℕ → ℕ → Bool
any_of q k zero = false
any_of q k (suc n) = q k || any_of q (k + 1) n

-- the first place where q holds, or the one past the last
unfoldable pub place_from : (ℕ → Bool) → ℕ → ℕ → ℕ
place_from q k zero = k
place_from q k (suc n) = cond (q k) k (place_from q (k + 1) n)

unfoldable pub least_from : (ℕ → Option Tag) → ℕ → ℕ → Option Tag
least_from f k zero = None
least_from f k (suc n) = lesser_present (f k) (least_from f (k + 1) n)

unfoldable pub greatest_from : (ℕ → Option Tag) → ℕ → ℕ → Option Tag
greatest_from f k zero = None
greatest_from f k (suc n) = greater_present (f k) (greatest_from f (k + 1) n)

-- f of each place where q holds, in order
unfoldable pub each_from : {A : Type 0} → (ℕ → Bool) → (ℕ → A) → ℕ → ℕ → List A
each_from q f k zero = []
each_from q f k (suc n) = cond (q k) (f k ∷ each_from q f (k + 1) n) (each_from q f (k + 1) n)
