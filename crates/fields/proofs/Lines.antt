-- A line that is put word by word: the first word, then each further one with the space before it. Assumes nothing.
use mathlib.Core.Path.{◌≡◌, refl, sym}
use mathlib.Core.List.{List, [], ◌∷◌, ◌++◌, append_assoc, append-nil}
use Prim.Native.Nat.{ℕ, zero, suc, ◌+◌, ◌≤◌, ◌<◌}
use native.Mathlib.Omega.{arith}
use native.Mathlib.Numerals.{add-one}
use lib.ListN.{length, take, get_or}
use Rattle.numerals.specs.Numerals.{text}
use Rattle.printing.specs.Runs.{Puts}
use Rattle.printing.proofs.Runs.{then-more}
use Rattle.fields.specs.Words.{line}
use Rattle.fields.specs.Fields.{words, room_of, room_for, field_text, fields_text, rest}
use Rattle.fields.specs.declared.Field.{Field}

line-rest : (w : List ℕ) (ws : List (List ℕ)) → line (w ∷ ws) ≡ w ++ rest ws
line-rest w [] = refl
line-rest w (v ∷ ws) = rw (line-rest v ws) (append_assoc w (text " ") (v ++ rest ws))

rest-fields : (fs : List Field) → rest (words fs) ≡ fields_text fs ++ text "\n"
rest-fields [] = refl
rest-fields (f ∷ fs) = rw (rest-fields fs) (simp append_assoc)

-- one field more, in the text and in the room
text-next : (fs : List Field) (i : ℕ) (d : Field) → i < length fs → fields_text (take (suc i) fs) ≡ fields_text (take i fs) ++ field_text (get_or fs i d)
text-next [] i d h = absurd (omega arith)
text-next (f ∷ fs) zero d h = append-nil (field_text f)
text-next (f ∷ fs) (suc i) d h = rw (text-next fs i d (omega arith)) (sym (append_assoc (field_text f) (fields_text (take i fs)) (field_text (get_or fs i d))))

room-next : (fs : List Field) (i : ℕ) (d : Field) → i < length fs → room_for (take (suc i) fs) ≡ room_for (take i fs) + (1 + room_of (get_or fs i d))
room-next [] i d h = absurd (omega arith)
room-next (f ∷ fs) zero d h = omega arith
room-next (f ∷ fs) (suc i) d h = omega (arith, room-next fs i d (omega arith))

-- what some first fields take is no more than what all take
pub room-le : (fs : List Field) (i : ℕ) → room_for (take i fs) ≤ room_for fs
room-le [] zero = omega arith
room-le [] (suc i) = omega arith
room-le (f ∷ fs) zero = omega arith
room-le (f ∷ fs) (suc i) = omega (arith, room-le fs i)

pub room_more : (fs : List Field) (i : ℕ) (d : Field) → i < length fs → room_for (take i fs) + (1 + room_of (get_or fs i d)) ≤ room_for fs
room_more fs i d h = omega (arith, room-next fs i d h, room-le fs (suc i))

pub then-field : {l m k : List ℕ} {at n j : ℕ} (fs : List Field) (i : ℕ) (d : Field) → i < length fs
    → Puts l at (fields_text (take i fs)) (room_for (take i fs)) n m → Puts m n (field_text (get_or fs i d)) (1 + room_of (get_or fs i d)) j k → j ≤ length l
    → Puts l at (fields_text (take (i + 1) fs)) (room_for (take (i + 1) fs)) j k
then-field fs i d h p q fits = rw (add-one i, text-next fs i d h, room-next fs i d h) (then-more p q fits)

-- the fields, and the line's end right after them
pub then-end : {l m k : List ℕ} {at i j : ℕ} {a b : ℕ} (fs : List Field)
    → Puts l at (fields_text fs) a i m → Puts m i (text "\n") b j k → j ≤ length l → Puts l at (rest (words fs)) (a + b) j k
then-end fs p q fits = rw (rest-fields fs) (then-more p q fits)

-- the first word, and the rest of the line right after it
pub then-line : {l m k : List ℕ} {at i j : ℕ} {w : List ℕ} {a b : ℕ} (ws : List (List ℕ))
    → Puts l at w a i m → Puts m i (rest ws) b j k → j ≤ length l → Puts l at (line (w ∷ ws)) (a + b) j k
then-line {w = w} ws p q h = rw (line-rest w ws) (then-more p q h)
