-- The derived comparisons of tags, by seconds, nanoseconds and microstep: the lesser and the greater by them are those by `◌≤ₜ◌`, the equality is `◌≡ₜ◌`.
-- Assumes nothing.
use Rattle.std.specs.Prelude.{◌≡◌, refl, Bool, ◌&&◌, nat_eq, Option, None, Some}
use Rattle.std.specs.Ordering.{ord_min, ord_max, ordering_then, int_cmp, int_eq, nat_cmp}
use Rattle.std.specs.Option.{option_eq}
use Rattle.std.specs.declared.cmp.Ordering.{Ordering}
use Rattle.std.proofs.Common.{arith}
use Rattle.std.proofs.lemmas.Int.{ints}
use Rattle.tags.specs.Tags.{◌≤ₜ◌, ◌≡ₜ◌, lesser_of, greater_of, same_optional}
use Rattle.tags.specs.declared.Tag.{Tag}

abbrev pub tag_cmp : Tag → Tag → Ordering
tag_cmp a b = ordering_then (int_cmp a.seconds b.seconds) (ordering_then (int_cmp a.nanoseconds b.nanoseconds) (nat_cmp a.microstep b.microstep))

abbrev pub tag_eq : Tag → Tag → Bool
tag_eq a b = int_eq a.seconds b.seconds && (int_eq a.nanoseconds b.nanoseconds && nat_eq a.microstep b.microstep)

pub derived_lesser : (a b : Tag) → ord_min tag_cmp a b ≡ lesser_of a b
unfolding ◌≤ₜ◌
derived_lesser a b = grind (arith, ints)

pub derived_greater : (a b : Tag) → ord_max tag_cmp a b ≡ greater_of a b
unfolding ◌≤ₜ◌
derived_greater a b = grind (arith, ints)

pub derived_equality : (a b : Tag) → tag_eq a b ≡ a ≡ₜ b
unfolding ◌≤ₜ◌
derived_equality a b = grind (arith, ints)

pub derived_optional : (m n : Option Tag) → option_eq tag_eq m n ≡ same_optional m n
derived_optional None None = refl
derived_optional None (Some b) = refl
derived_optional (Some a) None = refl
derived_optional (Some a) (Some b) = derived_equality a b
