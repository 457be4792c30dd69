-- Document 01's worked script is read as it says, and damaged ones are bad at their first bad line: by computation. Assumes nothing.
use Rattle.std.specs.Prelude.{Some}
use mathlib.Core.Path.{◌≡◌, refl}
use mathlib.Core.Bool.{true}
use mathlib.Core.List.{[], ◌∷◌}
use Prim.Native.Nat.{ℕ}
use Prim.Native.String.{String}
use lib.IntN.{pos}
use Rattle.numerals.specs.Numerals.{text, number_of, integer_of, tag_of, optional_tag_of}
use Rattle.rules.specs.Model.{Tag, TerminateWhenIdle, publish, acquire, complete, observed}
use Rattle.events.specs.Events.{event_number, without_fields, with_one_field, with_two_fields, with_three_fields, event_of}
use Rattle.script.specs.Lines.{Bad, Good, item, items}
use Rattle.script.specs.Script.{header_of, script_of}

abbrev tag : ℕ → Tag
tag seconds = record { seconds = pos seconds; nanoseconds = pos 0; microstep = 0 }

worked-script-reads : script_of
    (text "participants 2\n3\n7\nsettings 3\nterminate\n0\n0\nevents 5\npublish 3 5:0:0\npublish 7 9:0:0\nacquire 2 5:0:0\ncomplete 3 5:0:0 1\nobserved 7 1\n")
    ≡ Good (record {
      participants = 3 ∷ 7 ∷ [];
      policy = TerminateWhenIdle;
      revision = 0;
      generation = 0;
      events_at = 53;
      events = publish 3 (Some (tag 5)) ∷ publish 7 (Some (tag 9)) ∷ acquire 2 (tag 5) ∷ complete 3 (tag 5) true ∷ observed 7 1 ∷ [];
    }) 133
unfolding script_of item items header_of number_of integer_of tag_of optional_tag_of event_of event_number with_two_fields with_three_fields
worked-script-reads = refl

-- this script's first bad line is at this place
abbrev IsBad : String → ℕ → Type 0
IsBad script place = script_of (text script) ≡ Bad place

record Damaged : Type 0 where
  leading-zero : IsBad "participants 1\n7\nsettings 3\nkeep\n0\n01\nevents 1\nstop\n" 35
  plus : IsBad "participants 1\n+7\nsettings 3\nkeep\n0\n0\nevents 1\nstop\n" 15
  settings-2 : IsBad "participants 1\n7\nsettings 2\nkeep\n0\nevents 1\nstop\n" 17
  other-policy : IsBad "participants 1\n7\nsettings 3\nKeep\n0\n0\nevents 1\nstop\n" 28
  two-spaces : IsBad "participants 1\n7\nsettings 3\nkeep\n0\n0\nevents  1\nstop\n" 37
  space-after : IsBad "participants 1\n7\nsettings 3\nkeep\n0\n0\nevents 1\nstop \n" 46
  count-4097 : IsBad "participants 1\n7\nsettings 3\nkeep\n0\n0\nevents 4097\nstop\n" 37
  wide-index : IsBad "participants 1\n4294967296\nsettings 3\nkeep\n0\n0\nevents 1\nstop\n" 15
  input-33 : IsBad "participants 1\n7\nsettings 3\nkeep\n0\n0\nevents 1\ninput 33 7 7 7 7 7 7 7 7 7 7 7 7 7 7 7 7 7 7 7 7 7 7 7 7 7 7 7 7 7 7 7 7 7\n" 46
  short-input : IsBad "participants 1\n7\nsettings 3\nkeep\n0\n0\nevents 1\ninput 2 7\n" 46
  unended : IsBad "participants 1\n7\nsettings 3\nkeep\n0\n0\nevents 1\nstop" 46
  line_after : IsBad "participants 1\n7\nsettings 3\nkeep\n0\n0\nevents 1\nstop\n\n" 51
  line-lacking : IsBad "participants 1\n7\nsettings 3\nkeep\n0\n0\nevents 2\nstop\n" 51
  no_line : IsBad "" 0

damaged-scripts-are-bad : Damaged
unfolding script_of item items header_of number_of event_of event_number without_fields with_one_field
damaged-scripts-are-bad = record {
  leading-zero = refl;
  plus = refl;
  settings-2 = refl;
  other-policy = refl;
  two-spaces = refl;
  space-after = refl;
  count-4097 = refl;
  wide-index = refl;
  input-33 = refl;
  short-input = refl;
  unended = refl;
  line_after = refl;
  line-lacking = refl;
  no_line = refl;
}
