-- The cells of completion with one of them set, what "Complete's mark" and "CompleteTag" (document 01) do to the pending pair's cells, and what the completion
-- step answers. Assumes nothing.
use Rattle.std.specs.Prelude.{Bool, cond, ℕ, ◌^◌, leb, Result, Ok, Err}
use Rattle.tags.specs.Tags.{◌≡ₜ◌, lesser_of, greater_of, is_at_or_below}
use Rattle.records.specs.declared.Refusal.{Refusal}
use Rattle.records.specs.declared.Refusal.TheVariants.{GenerationSpent}
use Rattle.rules.specs.Model.{Tag}
use Rattle.rules.specs.Completion.{next_generation}
use Rattle.state.specs.declared.Completion.{Completion}
use Rattle.state.specs.Cells.{absent, is_absent, optional_of}
use Rattle.completion.specs.declared.Saying.TheVariants.{Nothing, Probes, Completes}
use Rattle.completion.specs.declared.Advanced.{Advanced}
use Rattle.completion.specs.declared.Least.{Least}

abbrev pub with_generation : ℕ → Completion → Completion
with_generation v k = record k { completion_generation = v }

abbrev pub with_probe : Tag → Completion → Completion
with_probe v k = record k { completion_probe = v }

-- the frontier has reached this input, if there is one
abbrev pub is_reached : Tag → Tag → Bool
is_reached t f = is_at_or_below (optional_of t) f

-- f becomes the frontier; "the pair is dropped when its last is" at or below f
abbrev pub finished_at : Tag → Completion → Completion
finished_at f k =
    record k { completed_frontier = f; first_input = cond (is_reached k.last_input f) absent k.first_input; last_input = cond (is_reached k.last_input f) absent k.last_input }

-- "Network input widens the pending pair (first, last)."
abbrev pub widened_by : Tag → Completion → Completion
widened_by t k =
    record k { first_input = cond (is_absent k.first_input) t (lesser_of k.first_input t); last_input = cond (is_absent k.first_input) t (greater_of k.last_input t) }

-- "Complete f, frontier f": f with its mark, and the cells after it
abbrev pub reached_at : Tag → Completion → Least
reached_at f k = record { frontier = record { completed = f; network_input = is_reached k.first_input f }; completion = finished_at f k }

-- ---- what the completion step answers

-- nothing is said
abbrev pub still_at : Completion → Advanced
still_at k = record { saying = Nothing; completion = k }

-- "Complete f, frontier f, clear the probe"
abbrev pub completing_at : Tag → Completion → Advanced
completing_at f k = record { saying = Completes (reached_at f k).frontier; completion = with_probe absent (finished_at f k) }

-- "it becomes f, generation rises by one"
abbrev pub probes_with : ℕ → Tag → Completion → Advanced
probes_with g f k = record { saying = Probes f; completion = with_probe f (with_generation g k) }

-- where it can; 9 where not
abbrev pub asking_at : Tag → Completion → Result Advanced Refusal
asking_at f k =
    cond (leb (2 ^ 64) (next_generation k.completion_generation)) (Err GenerationSpent) (Ok (probes_with (next_generation k.completion_generation) f k))

-- none blocks: "Else, if the probe is not f: .. Else, if all those observed this generation: .."
abbrev pub unblocked_at : Bool → Tag → Completion → Result Advanced Refusal
unblocked_at answered f k = cond (k.completion_probe ≡ₜ f) (Ok (cond answered (completing_at f k) (still_at k))) (asking_at f k)
