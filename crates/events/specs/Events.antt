-- Document 01, "Script and its listing": the seventeen event lines, each the call that it tells. "One item a line, .. single spaces, nothing after";
-- "E and counts fit 32 bits. Settings revision and generation, G and R are 64-bit." Assumes nothing.
use Rattle.std.specs.Prelude.{ℕ, ◌-◌, ◌^◌, Bool, true, false, cond, List, [], ◌∷◌, eqb, length, None, Option, Some}
use Rattle.octets.specs.Runs.{same_bytes}
use Rattle.numerals.specs.Numerals.{text, split, space, number_of, tag_of, optional_tag_of, or_dash, given}
use Rattle.rules.specs.Model.{Observation, Probed, HasParked, Rechecked, Call, active, stopped, publish, complete, observed, failed, acquire, sent, observe, idle, stop, progress, horizon, begin, late, done, input}

-- ---- the fields of an event

-- E, and a count
abbrev pub word_of : List ℕ → Option ℕ
word_of = number_of (2 ^ 32 - 1)

-- R, G
abbrev pub wide_of : List ℕ → Option ℕ
wide_of = number_of (2 ^ 64 - 1)

-- `E|-`
abbrev pub enclave_of : List ℕ → Option (Option ℕ)
enclave_of = or_dash word_of None Some

-- `0|1`
abbrev pub mark_of : List ℕ → Option Bool
mark_of t = cond (same_bytes t (text "0")) (Some false) (cond (same_bytes t (text "1")) (Some true) None)

-- `probed|parked|rechecked`
abbrev pub observation_of : List ℕ → Option Observation
observation_of t =
    cond (same_bytes t (text "probed")) (Some Probed)
    (cond (same_bytes t (text "parked")) (Some HasParked)
    (cond (same_bytes t (text "rechecked")) (Some Rechecked) None))

-- ---- an event by its word's number and its fields

-- the events in document 01's order, from 1; 0 is no event's word
unfoldable pub event_number : List ℕ → ℕ
event_number w =
    cond (same_bytes w (text "active")) 1
    (cond (same_bytes w (text "publish")) 2
    (cond (same_bytes w (text "complete")) 3
    (cond (same_bytes w (text "observed")) 4
    (cond (same_bytes w (text "stopped")) 5
    (cond (same_bytes w (text "failed")) 6
    (cond (same_bytes w (text "acquire")) 7
    (cond (same_bytes w (text "sent")) 8
    (cond (same_bytes w (text "observe")) 9
    (cond (same_bytes w (text "idle")) 10
    (cond (same_bytes w (text "stop")) 11
    (cond (same_bytes w (text "horizon")) 12
    (cond (same_bytes w (text "begin")) 13
    (cond (same_bytes w (text "late")) 14
    (cond (same_bytes w (text "done")) 15
    (cond (same_bytes w (text "input")) 16
    (cond (same_bytes w (text "progress")) 17 0))))))))))))))))

-- both, or all three, were read
abbrev pub both : {X Y Z : Type 0} → Option X → Option Y → (X → Y → Z) → Option Z
both None y f = None
both (Some x) y f = given y (f x)

abbrev pub three : {W X Y Z : Type 0} → Option W → Option X → Option Y → (W → X → Y → Z) → Option Z
three None x y f = None
three (Some w) x y f = both x y (f w)

-- `stop`, `progress`
unfoldable pub without_fields : ℕ → Option Call
without_fields k = cond (eqb k 11) (Some stop) (cond (eqb k 17) (Some progress) None)

-- `active E`, `stopped E`, `failed E|-`, `idle R`, `horizon T|-`
unfoldable pub with_one_field : ℕ → List ℕ → Option Call
with_one_field k a =
    cond (eqb k 1) (given (word_of a) active)
    (cond (eqb k 5) (given (word_of a) stopped)
    (cond (eqb k 6) (given (enclave_of a) failed)
    (cond (eqb k 10) (given (wide_of a) idle)
    (cond (eqb k 12) (given (optional_tag_of a) horizon) None))))

-- `publish E T|-`, `observed E G`, `acquire R T`, `begin E T`, `late E T`, `done E T`
unfoldable pub with_two_fields : ℕ → List ℕ → List ℕ → Option Call
with_two_fields k a b =
    cond (eqb k 2) (both (word_of a) (optional_tag_of b) publish)
    (cond (eqb k 4) (both (word_of a) (wide_of b) observed)
    (cond (eqb k 7) (both (wide_of a) (tag_of b) acquire)
    (cond (eqb k 13) (both (word_of a) (tag_of b) begin)
    (cond (eqb k 14) (both (word_of a) (tag_of b) late)
    (cond (eqb k 15) (both (word_of a) (tag_of b) done) None)))))

-- `complete E T 0|1`, `sent R T|- T|-`, `observe E R probed|parked|rechecked`
unfoldable pub with_three_fields : ℕ → List ℕ → List ℕ → List ℕ → Option Call
with_three_fields k a b c =
    cond (eqb k 3) (three (word_of a) (tag_of b) (mark_of c) complete)
    (cond (eqb k 8) (three (wide_of a) (optional_tag_of b) (optional_tag_of c) sent)
    (cond (eqb k 9) (three (word_of a) (wide_of b) (observation_of c) observe) None))

abbrev pub words : List (List ℕ) → Option (List ℕ)
words [] = Some []
words (e ∷ es) = both (word_of e) (words es) ◌∷◌

-- `input N E..`, "N up to 32", and as many enclaves as N says
abbrev pub listed : Option ℕ → List (List ℕ) → Option Call
listed None es = None
listed (Some n) es = cond (eqb n (length es)) (given (words es) input) None

abbrev pub input_of : List (List ℕ) → Option Call
input_of [] = None
input_of (n ∷ es) = listed (number_of 32 n) es

abbrev pub by_fields : ℕ → List (List ℕ) → Option Call
by_fields k [] = without_fields k
by_fields k (a ∷ []) = with_one_field k a
by_fields k (a ∷ b ∷ []) = with_two_fields k a b
by_fields k (a ∷ b ∷ c ∷ []) = with_three_fields k a b c
by_fields k (a ∷ b ∷ c ∷ d ∷ fs) = None

abbrev pub event_from : List (List ℕ) → Option Call
event_from [] = None
event_from (w ∷ fs) = cond (eqb (event_number w) 16) (input_of fs) (by_fields (event_number w) fs)

-- the call that a line, without its LF, tells
unfoldable pub event_of : List ℕ → Option Call
event_of line = event_from (split space line)
