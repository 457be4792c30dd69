-- Walks over the participants ("Participants are walked by ascending index"), and the tests and endings that the step rules share. Assumes nothing.
use Rattle.tags.specs.declared.Tag.{Tag}
use Rattle.std.specs.Prelude.{ℕ, Bool, true, false, not, cond, ◌&&◌, ◌||◌, List, [], ◌∷◌, map, eqb, None, Option, Some}
use Rattle.tags.specs.Tags.{lesser_present, greater_present}
use Rattle.records.specs.Numbers.{phase_number}
use Rattle.rules.specs.Model.{CoordinationPhase, Stopped, Participant, CoordinationAction, State, Step}
use Rattle.rules.specs.Set.{with_participants}

abbrev pub all : (Participant → Bool) → List Participant → Bool
all p [] = true
all p (x ∷ xs) = p x && all p xs

abbrev pub any : (Participant → Bool) → List Participant → Bool
any p [] = false
any p (x ∷ xs) = p x || any p xs

-- one action for each that passes the test, in order
abbrev pub each : (Participant → Bool) → (Participant → CoordinationAction) → List Participant → List CoordinationAction
each p f [] = []
each p f (x ∷ xs) = cond (p x) (f x ∷ each p f xs) (each p f xs)

-- the least and the greatest of those present
abbrev pub least_of : (Participant → Option Tag) → List Participant → Option Tag
least_of f [] = None
least_of f (x ∷ xs) = lesser_present (f x) (least_of f xs)

abbrev pub greatest_of : (Participant → Option Tag) → List Participant → Option Tag
greatest_of f [] = None
greatest_of f (x ∷ xs) = greater_present (f x) (greatest_of f xs)

-- the participant of index e
abbrev pub find : ℕ → List Participant → Option Participant
find e [] = None
find e (x ∷ xs) = cond (eqb x.index e) (Some x) (find e xs)

abbrev pub knows : ℕ → List Participant → Bool
knows e ps = any (λ p. eqb p.index e) ps

abbrev pub among : ℕ → List ℕ → Bool
among i [] = false
among i (e ∷ es) = eqb i e || among i es

-- a change of every participant, and of enclave e alone
abbrev pub every : (Participant → Participant) → State → State
every f s = with_participants (map f s.participants) s

abbrev pub at : ℕ → (Participant → Participant) → Participant → Participant
at e f p = cond (eqb p.index e) (f p) p

abbrev pub only : ℕ → (Participant → Participant) → State → State
only e f s = every (at e f) s

-- ---- the end of a rule: no action, or these

abbrev pub quiet : State → Step
quiet s = record { state = s; actions = [] }

abbrev pub emit : List CoordinationAction → State → Step
emit acts s = record { state = s; actions = acts }

-- ---- tests on a state

abbrev pub is : CoordinationPhase → State → Bool
is h s = eqb (phase_number s.phase) (phase_number h)

abbrev pub is_stopped : State → Bool
is_stopped s = is Stopped s

abbrev pub is_number : Option ℕ → ℕ → Bool
is_number None n = false
is_number (Some m) n = eqb m n

-- stopped, or another revision
abbrev pub outdated : ℕ → State → Bool
outdated r s = is_stopped s || not (eqb r s.revision)
