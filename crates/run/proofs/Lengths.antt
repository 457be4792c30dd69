-- An event's lines fit in 5,600 bytes: its own line and each action's line have at most 160, and a call has at most 34 actions. By the lengths of
-- numbers and tags. Assumes nothing.
use Rattle.std.specs.Prelude.{None, Option, Some}
use mathlib.Core.Path.{◌≡◌, refl, ap, ◌∙◌, subst⁻¹}
use mathlib.Core.Bool.{Bool, true, false, cond}
use mathlib.Core.List.{List, [], ◌∷◌, ◌++◌}
use Prim.Native.Nat.{ℕ, zero, suc, ◌+◌, ◌*◌, ◌/◌, ◌≤◌}
use native.Mathlib.Omega.{arith}
use borrow.Author.Tests.{lt-ltb, le-ltb, eqb-true}
use lib.Dec.{T, eqb}
use lib.IntN.{ℤ, pos, negsuc}
use lib.ListN.{length, length-append}
use Rattle.tags.specs.declared.Tag.{Tag}
use Rattle.numerals.specs.Numerals.{text}
use Rattle.numerals.proofs.Splits.{by_order}
use Rattle.printing.specs.Printing.{digits_of, decimal, integer, tag_text, optional_tag_text}
use Rattle.rules.specs.Model.{Call, CoordinationAction, Publish, AdvanceHorizon, Grant, Complete, CompletionProbe, Probe, Park}
use Rattle.rules.specs.Model.{Recheck, Resume, Stop, Abort}
use Rattle.rules.specs.Calls.{call, take_step, refusal}
use Rattle.rules.proofs.Room.{call-fits-room}
use Rattle.rules.proofs.Sound.{sound-number}
use Rattle.state.specs.declared.FederateCoordinationState.{FederateCoordinationState as Held}
use Rattle.state.specs.View.{view}
use Rattle.calls.proofs.Refusals.{passes}
use Rattle.take.proofs.Arms.{not-27}
use Rattle.calls.specs.Called.{lent, refusal_of, actions_of, answer_of}
use Rattle.fields.specs.Words.{line, mark_text, answer_text}
use Rattle.listing.specs.Listing.{action_line, action_lines, event_line}
use Rattle.budget.specs.Run.{given, event_lines}

-- ---- numbers and tags

digits-short : (k n : ℕ) → length (digits_of k n) ≤ k
digits-short zero n = omega arith
digits-short (suc k) n =
    by_order 10 n
    (λ big. rw (le-ltb n 10 big, length-append) (omega (arith, digits-short k (n / 10))))
    (λ small. rw (lt-ltb n 10 small) (omega arith))

decimal-short : (n : ℕ) → length (decimal n) ≤ 20
unfolding decimal
decimal-short n = digits-short 20 n

integer-short : (z : ℤ) → length (integer z) ≤ 21
unfolding integer
integer-short (pos n) = omega (arith, decimal-short n)
integer-short (negsuc n) = omega (arith, decimal-short (n + 1))

tag-short : (t : Tag) → length (tag_text t) ≤ 64
unfolding tag_text
tag-short t =
    rw (length-append, length-append, length-append, length-append)
    (omega (arith, integer-short t.seconds, integer-short t.nanoseconds, decimal-short t.microstep))

optional-short : (o : Option Tag) → length (optional_tag_text o) ≤ 64
optional-short None = omega arith
optional-short (Some t) = tag-short t

mark-short : (b : Bool) → length (mark_text b) ≤ 1
mark-short false = omega arith
mark-short true = omega arith

answer-short : (a : Option Bool) → length (answer_text a) ≤ 1
answer-short None = omega arith
answer-short (Some false) = omega arith
answer-short (Some true) = omega arith

-- ---- lines

one_word : (w : List ℕ) → length (line (w ∷ [])) ≡ length w + 1
one_word w = length-append w _

more-words : (w v : List ℕ) (ws : List (List ℕ)) → length (line (w ∷ v ∷ ws)) ≡ length w + 1 + length (line (v ∷ ws))
more-words w v ws = length-append (w ++ _) (line (v ∷ ws)) ∙ ap (λ n. n + length (line (v ∷ ws))) (length-append w _)

two-words : (a b : List ℕ) → length (line (a ∷ b ∷ [])) ≡ length a + length b + 2
two-words a b = more-words a b [] ∙ rw (one_word b) (omega arith)

three-words : (a b c : List ℕ) → length (line (a ∷ b ∷ c ∷ [])) ≡ length a + length b + length c + 3
three-words a b c = more-words a b (c ∷ []) ∙ rw (two-words b c) (omega arith)

four-words : (a b c d : List ℕ) → length (line (a ∷ b ∷ c ∷ d ∷ [])) ≡ length a + length b + length c + length d + 4
four-words a b c d = more-words a b (c ∷ d ∷ []) ∙ rw (three-words b c d) (omega arith)

action-short : (a : CoordinationAction) → length (action_line a) ≤ 160
unfolding action_line
action-short (Publish p) =
    omega (
      arith,
      four-words (text "publish") (decimal p.revision) (optional_tag_text p.next_event) (optional_tag_text p.grant_horizon),
      decimal-short p.revision,
      optional-short p.next_event,
      optional-short p.grant_horizon,
    )
action-short (AdvanceHorizon t) = omega (arith, two-words (text "advance") (tag_text t), tag-short t)
action-short (Grant e t) = omega (arith, three-words (text "grant") (decimal e) (tag_text t), decimal-short e, tag-short t)
action-short (Complete c) =
    omega (
      arith,
      three-words (text "complete") (tag_text c.completed) (mark_text c.network_input),
      tag-short c.completed,
      mark-short c.network_input,
    )
action-short (CompletionProbe e g) = omega (arith, three-words (text "completion-probe") (decimal e) (decimal g), decimal-short e, decimal-short g)
action-short (Probe r) = omega (arith, two-words (text "probe") (decimal r), decimal-short r)
action-short (Park r) = omega (arith, two-words (text "park") (decimal r), decimal-short r)
action-short (Recheck r) = omega (arith, two-words (text "recheck") (decimal r), decimal-short r)
action-short (Resume e r) = omega (arith, three-words (text "resume") (decimal e) (decimal r), decimal-short e, decimal-short r)
action-short Stop = omega arith
action-short Abort = omega arith

actions-short : (l : List CoordinationAction) → length (action_lines l) ≤ 160 * length l
unfolding action_lines
actions-short [] = omega arith
actions-short (a ∷ rest) = rw (length-append (action_line a) (action_lines rest)) (omega (arith, action-short a, actions-short rest))

event-line-short : (k r : ℕ) (a : Option Bool) (n : ℕ) → length (event_line k r a n) ≤ 160
unfolding event_line
event-line-short k r a n =
    omega (arith, four-words (decimal k) (decimal r) (answer_text a) (decimal n), decimal-short k, decimal-short r, answer-short a, decimal-short n)

-- ---- a call's actions: those of a call that is refused are none, those of a taken one fit the room of at most 32 participants

taken-few : (room : ℕ) (c : Call) (s : Held) → refusal_of (lent room c) s ≡ 0 → length (take_step c (view s)).actions ≤ 34
unfolding refusal_of call
taken-few room c s h =
    let p = passes s (not-27 (lent room c) s h) in
    let e : refusal (lent room c) (view s) ≡ 0 = rw p.neat at h in
    let few = (sound-number (view s) (subst⁻¹ T p.sound tt)).1 in
    let fits = rw e at (call-fits-room (lent room c) (view s)) in
    omega arith

pub actions-few : (room : ℕ) (c : Call) (s : Held) → length (actions_of (lent room c) s) ≤ 34
unfolding actions_of
actions-few room c s = go (eqb (refusal_of (lent room c) s) 0) refl
  where
    go : (b : Bool) → eqb (refusal_of (lent room c) s) 0 ≡ b → length (cond b (take_step c (view s)).actions []) ≤ 34
    go true e = taken-few room c s (eqb-true (refusal_of (lent room c) s) 0 e)
    go false e = omega arith

pub event-short : (k : ℕ) (c : Call) (s : Held) → length (event_lines k c s) ≤ 5600
unfolding event_lines
event-short k c s =
    let acts = actions_of (given c) s in
    rw (length-append (event_line k (refusal_of (given c) s) (answer_of (given c) s) (length acts)) (action_lines acts))
    (omega (arith, event-line-short k (refusal_of (given c) s) (answer_of (given c) s) (length acts), actions-short acts, actions-few 1904 c s))
