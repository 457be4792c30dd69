-- Document 01, "Tags", with the tests on tags that may be absent ("Step rules", first paragraph). Assumes nothing.
use Rattle.std.specs.Prelude.{◌-◌, ◌^◌, Bool, true, false, not, cond, ◌&&◌, ◌||◌, leb, ℤ, pos, negsuc, None, Option, Some}
use Rattle.std.specs.Int.Signed.{lt_z, le_z}
use Rattle.tags.specs.declared.Tag.{Tag}

-- "Order: seconds, nanoseconds, microstep." By the first number, or where neither is below the other by the rest.
abbrev pub in_order : ℤ → ℤ → Bool → Bool
in_order a b rest = cond (lt_z a b) true (cond (lt_z b a) false rest)

-- a is at or below b; used through the laws of proofs/Order.antt alone
unfoldable pub ◌≤ₜ◌ : Tag → Tag → Bool
a ≤ₜ b = in_order a.seconds b.seconds (in_order a.nanoseconds b.nanoseconds (leb a.microstep b.microstep))

infix 50 ◌≤ₜ◌ ◌<ₜ◌ ◌≡ₜ◌
abbrev pub ◌<ₜ◌ : Tag → Tag → Bool
a <ₜ b = not (b ≤ₜ a)

abbrev pub ◌≡ₜ◌ : Tag → Tag → Bool
a ≡ₜ b = (a ≤ₜ b) && (b ≤ₜ a)

abbrev pub lesser_of : Tag → Tag → Tag
lesser_of a b = cond (a ≤ₜ b) a b

abbrev pub greater_of : Tag → Tag → Tag
greater_of a b = cond (a ≤ₜ b) b a

-- "NEVER is the least seconds, -999,999,999, 0."
abbrev pub never : Tag
never = record { seconds = negsuc (2 ^ 63 - 1); nanoseconds = negsuc 999_999_998; microstep = 0 }

abbrev pub zero : Tag
zero = record { seconds = pos 0; nanoseconds = pos 0; microstep = 0 }

-- "FOREVER is the greatest of all three."
abbrev pub forever : Tag
forever = record { seconds = pos (2 ^ 63 - 1); nanoseconds = pos 999_999_999; microstep = 2 ^ 64 - 1 }

-- "nanoseconds lie in -999,999,999..999,999,999"
abbrev pub within_second : ℤ → Bool
within_second n = le_z (negsuc 999_999_998) n && le_z n (pos 999_999_999)

-- one is above zero and the other below
abbrev pub opposite_signs : ℤ → ℤ → Bool
opposite_signs s n = (lt_z (pos 0) s && lt_z n (pos 0)) || (lt_z s (pos 0) && lt_z (pos 0) n)

-- a time is proper: of a tag, its seconds and nanoseconds
unfoldable pub proper_time : ℤ → ℤ → Bool
proper_time s n = within_second n && not (opposite_signs s n)

abbrev pub is_proper : Tag → Bool
is_proper t = proper_time t.seconds t.nanoseconds

abbrev pub proper_if_present : Option Tag → Bool
proper_if_present None = true
proper_if_present (Some t) = is_proper t

-- "An absent completed tag or frontier is below every tag"
abbrev pub is_below : Option Tag → Tag → Bool
is_below None f = true
is_below (Some a) f = a <ₜ f

abbrev pub has_reached : Option Tag → Tag → Bool
has_reached m f = not (is_below m f)

-- "an at-or-below test with any other absent tag fails"
abbrev pub is_at_or_below : Option Tag → Tag → Bool
is_at_or_below None f = false
is_at_or_below (Some a) f = a ≤ₜ f

abbrev pub within : Tag → Option Tag → Bool
within t None = false
within t (Some g) = t ≤ₜ g

abbrev pub same_optional : Option Tag → Option Tag → Bool
same_optional None None = true
same_optional None (Some b) = false
same_optional (Some a) None = false
same_optional (Some a) (Some b) = a ≡ₜ b

abbrev pub is_present : Option Tag → Bool
is_present None = false
is_present (Some a) = true

-- the lesser and the greater of those present
abbrev pub lesser_present : Option Tag → Option Tag → Option Tag
lesser_present None b = b
lesser_present (Some a) None = Some a
lesser_present (Some a) (Some b) = Some (lesser_of a b)

abbrev pub greater_present : Option Tag → Option Tag → Option Tag
greater_present None b = b
greater_present (Some a) None = Some a
greater_present (Some a) (Some b) = Some (greater_of a b)

-- the lesser of the two, absent where either is missing
abbrev pub lesser_of_both : Option Tag → Option Tag → Option Tag
lesser_of_both None b = None
lesser_of_both (Some a) None = None
lesser_of_both (Some a) (Some b) = Some (lesser_of a b)

-- the tag under a cap, where there is one
abbrev pub capped_by : Option Tag → Tag → Tag
capped_by None t = t
capped_by (Some c) t = lesser_of t c
