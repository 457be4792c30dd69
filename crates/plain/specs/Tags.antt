-- Tags that may be absent, as a host gives and gets them. Assumes nothing.
use Rattle.tags.specs.declared.Tag.{Tag}
use Rattle.std.specs.Prelude.{true, false, cond, None, Option, Some}
use Rattle.tags.specs.Tags.{zero}
use Rattle.plain.specs.declared.TagNumbers.{TagNumbers}

abbrev pub tag_if : TagNumbers → Option Tag
tag_if n = cond n.present (Some n.tag) None

abbrev pub tag_numbers : Option Tag → TagNumbers
tag_numbers None = record { present = false; tag = zero }
tag_numbers (Some t) = record { present = true; tag = t }
