-- How a scheduler message's own rule is taken in two halves: first the parts of its enclave and the small parts are stored, then what depends on
-- the whole table is concluded. What the functions that decide the first half promise. Assumes nothing.
use Rattle.std.specs.Prelude.{◌≡◌, Bool, true, false, not, cond, ◌&&◌, List, [], ◌∷◌, ℕ, T, eqb, None, Option, Some}
use Rattle.rules.specs.Model.{CoordinationAction, Probe, Park, Recheck, Resume, Stop, Abort, State, Step}
use Rattle.rules.specs.Walk.{quiet, emit}
use Rattle.rules.specs.Publication.{all_published, announce}
use Rattle.rules.specs.Completion.{least_completed, complete_all}
use Rattle.rules.specs.Calls.{is_sound}
use Rattle.state.specs.declared.FederateCoordinationState.{FederateCoordinationState as Held}
use Rattle.state.specs.declared.Row.{Row}
use Rattle.state.specs.declared.Parts.{Parts}
use Rattle.state.specs.declared.Notice.{Notice}
use Rattle.state.specs.declared.Notice.TheVariants.{Probe as AsProbe, Park as AsPark, Recheck as AsRecheck, Resume as AsResume, Stop as AsStop, Abort as AsAbort}
use Rattle.state.specs.declared.Next.{Next}
use Rattle.state.specs.declared.Next.TheVariants.{Says, Announces, Completes}
use Rattle.state.specs.declared.Decided.{Decided}
use Rattle.state.specs.Cells.{is_neat, is_zero_unless}
use Rattle.state.specs.View.{view, neat_coordination, neat_completion, represents}
use Rattle.state.specs.Parts.{Sized, Seated, parts_of, rebuilt, cleared}

-- the state after the first half, taken for the enclave at place i
abbrev pub halfway : Held → ℕ → Decided → Held
halfway s i d = rebuilt s i d.parts (cond d.forgets (cleared s.count s.observation) s.observation) s.gate

-- a notice as an action, with this enclave and revision
abbrev pub action_of : Notice → ℕ → ℕ → CoordinationAction
action_of AsProbe e r = Probe r
action_of AsPark e r = Park r
action_of AsRecheck e r = Recheck r
action_of AsResume e r = Resume e r
action_of AsStop e r = Stop
action_of AsAbort e r = Abort

-- the notice of this kind number; none of a number that no kind without a tag has
abbrev pub notice_of : ℕ → Option Notice
notice_of k =
    cond (eqb k 6) (Some AsProbe)
    (cond (eqb k 7) (Some AsPark)
    (cond (eqb k 8) (Some AsRecheck)
    (cond (eqb k 9) (Some AsResume) (cond (eqb k 10) (Some AsStop) (cond (eqb k 11) (Some AsAbort) None)))))

abbrev pub said_of : Option Notice → ℕ → ℕ → List CoordinationAction
said_of None e r = []
said_of (Some n) e r = action_of n e r ∷ []

-- the second half, of enclave e's message
unfoldable pub conclusion : ℕ → Next → State → Step
conclusion e (Says k) m = emit (said_of k e m.revision) m
conclusion e (Announces resume) m = cond (all_published m) (announce e resume m) (quiet m)
conclusion e Completes m = complete_all (least_completed m.participants) m

abbrev pub neat_row : Row → Bool
neat_row w = is_neat w.candidate && is_neat w.completed && is_zero_unless w.acknowledged w.completion_observed

abbrev pub neat_parts : Parts → Bool
neat_parts p =
    neat_row p.row && neat_coordination p.coordination && neat_completion p.completion && is_zero_unless p.failed p.first_failure

abbrev pub announces : Next → Bool
announces (Says k) = false
announces (Announces resume) = true
announces Completes = false

-- d leaves alone what messages about publication, stop and failure change
pub record Aside (p : Parts) (d : Decided) : Type 0 where
  pub coordination : d.parts.coordination ≡ p.coordination
  pub failed : d.parts.failed ≡ p.failed
  pub failure : d.parts.first_failure ≡ p.first_failure
  pub forgets : d.forgets ≡ false
  pub unannounced : T (not (announces d.next))

-- a state that a taken call may stand in
pub record Good (s : Held) : Type 0 where
  pub sized : Sized s
  pub neat : T (represents s)
  pub sound : T (is_sound (view s))

-- d is the first half of this rule for enclave e with these parts, in every state that has them
abbrev pub Decides : (State → Step) → ℕ → Parts → Decided → Type 0
Decides rule e p d = (s : Held) (i : ℕ) → Good s → Seated s e i → parts_of s i ≡ p → rule (view s) ≡ conclusion e d.next (view (halfway s i d))
