-- The words of a line as the code hands them on: those after its first one, each with the space before it. Assumes nothing.
use Rattle.std.specs.Prelude.{ℕ, ◌+◌, List, [], ◌∷◌, ◌++◌}
use Rattle.numerals.specs.Numerals.{text}
use Rattle.printing.specs.Printing.{decimal, optional_tag_text}
use Rattle.fields.specs.Words.{phase_text}
use Rattle.fields.specs.declared.Field.{Field}
use Rattle.fields.specs.declared.Field.TheVariants.{Number, Time, Phase}

abbrev pub word_of : Field → List ℕ
word_of (Number n) = decimal n
word_of (Time t) = optional_tag_text t
word_of (Phase p) = phase_text p

-- the most bytes that the word takes, and that fields take with the space before each
abbrev pub room_of : Field → ℕ
room_of (Number n) = 20
room_of (Time t) = 64
room_of (Phase p) = 24

abbrev pub room_for : List Field → ℕ
room_for [] = 0
room_for (f ∷ fs) = 1 + room_of f + room_for fs

abbrev pub words : List Field → List (List ℕ)
words [] = []
words (f ∷ fs) = word_of f ∷ words fs

-- a word with the space before it
abbrev pub field_text : Field → List ℕ
field_text f = text " " ++ word_of f

abbrev pub fields_text : List Field → List ℕ
fields_text [] = []
fields_text (f ∷ fs) = field_text f ++ fields_text fs

-- what stands in a line after its first word
abbrev pub rest : List (List ℕ) → List ℕ
rest [] = text "\n"
rest (w ∷ ws) = text " " ++ (w ++ rest ws)
