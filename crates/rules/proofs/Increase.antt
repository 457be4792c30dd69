-- T1: the tags of Complete actions strictly increase, in any run of calls, from any state.
use Rattle.std.specs.Prelude.{None, Some, Option}
use mathlib.Core.Path.{◌≡◌, refl, sym, ap, ◌∙◌, subst}
use mathlib.Core.List.{append_assoc, List, [], ◌∷◌, ◌++◌}
use lib.Dec.{T}
use Prim.Native.Nat.{ℕ}
use mathlib.Core.Bool.{Bool, true, false, not, ◌||◌}
use Rattle.tags.specs.Tags.{is_below, same_optional}
use Rattle.rules.specs.Calls.{also, call, facts, is_taken, own_step, run_calls, take_step}
use Rattle.rules.specs.Completion.{advance_of, advance_to, all_answered, answers_probe, asks, blocks, complete_all, complete_by, complete_tag_of, finish, front_of, is_held, lags, least_completed, next_generation, noted, observed_of, probe_for}
use Rattle.rules.specs.Demands.{CompletesExceedFrontier, CompletesIncrease, Increasing, complete_tag, completes, start}
use Rattle.rules.specs.Model.{Call, CoordinationAction, Given, Participant, State, Step, Tag}
use Rattle.rules.specs.Opening.{opened}
use Rattle.rules.specs.Walk.{any, find, is_stopped}
use Rattle.rules.proofs.Frame.{Frame, completes-each, if-true, own-cases, plain-completes}

-- from the frontier m, each tag above the one before, to the frontier n
abbrev pub Rise : Option Tag → List Tag → Option Tag → Type 0
Rise m [] n = n ≡ m
Rise m (t ∷ ts) n = T (is_below m t) × Rise (Some t) ts n

-- a step's Completes rise from the frontier before to the frontier after
abbrev pub Climbs : State → Step → Type 0
Climbs s o = Rise s.completed_frontier (completes o.actions) o.state.completed_frontier

pub completes-++ : (a b : List CoordinationAction) → completes (a ++ b) ≡ completes a ++ completes b
completes-++ [] b = refl
completes-++ (x ∷ a) b = ap (λ (l : List Tag). complete_tag x ++ l) (completes-++ a b) ∙ sym (append_assoc (complete_tag x) (completes a) (completes b))

rise-++ : (m n k : Option Tag) (a b : List Tag) → Rise m a n → Rise n b k → Rise m (a ++ b) k
rise-++ m n k [] b h r = subst (λ (x : Option Tag). Rise x b k) h r
rise-++ m n k (t ∷ a) b h r = (h.0, rise-++ (Some t) n k a b h.1 r)

climbs-also : (s : State) (a b : Step) → Climbs s a → Climbs a.state b → Climbs s (also a b)
climbs-also s a b h k =
    subst (λ (l : List Tag). Rise s.completed_frontier l b.state.completed_frontier) (sym (completes-++ a.actions b.actions))
    (rise-++ s.completed_frontier a.state.completed_frontier b.state.completed_frontier (completes a.actions) (completes b.actions) h k)

pub climbs-frame : (s : State) (o : Step) → Frame s o → Climbs s o
climbs-frame s o h = subst (λ (l : List Tag). Rise s.completed_frontier l o.state.completed_frontier) (sym (plain-completes o.actions h.0)) h.1.0

pub climbs-complete : (e : ℕ) (t : Tag) (n : Bool) (s : State) → Climbs s (complete_tag_of e t n s)
unfolding complete_tag_of complete_by complete_all finish
climbs-complete e t n s = if-true (Climbs s) (is_stopped s) (λ u. refl) (λ u. go (find e s.participants))
  where
    all_have : (m : Option Tag) → Climbs s (complete_all m (noted e t n s))
    all_have None = refl
    all_have (Some m) = if-true (Climbs s) (is_below s.completed_frontier m) (λ u. (u, refl)) (λ u. refl)

    go : (o : Option Participant) → Climbs s (complete_by e t n s o)
    go None = refl
    go (Some p) = if-true (Climbs s) (is_below p.completed t) (λ u. all_have (least_completed (noted e t n s).participants)) (λ u. refl)

pub climbs-observed : (e g : ℕ) (s : State) → Climbs s (observed_of e g s)
unfolding observed_of
climbs-observed e g s = if-true (Climbs s) (answers_probe g s) (λ u. refl) (λ u. refl)

pub or_left : (a b : Bool) → T (not (a || b)) → T (not a)
or_left true b h = h
or_left false b h = tt

pub not-not : (a : Bool) → T (not (not a)) → T a
not-not true h = tt
not-not false h = h

climbs-advance_to : (m : Option Tag) (s : State) → Climbs s (advance_to m s)
unfolding advance_to finish probe_for
climbs-advance_to None s = refl
climbs-advance_to (Some f) s =
    if-true (Climbs s) (is_held f s) (λ u. refl)
    (λ u. if-true (Climbs s) (same_optional s.completion_probe (Some f))
    (λ v. if-true (Climbs s) (all_answered f s) (λ w. (not-not (is_below s.completed_frontier f) (or_left (not (is_below s.completed_frontier f)) (any (blocks f) s.participants) u), refl)) (λ w. refl))
    (λ v. subst (λ (l : List Tag). Rise s.completed_frontier l s.completed_frontier) (sym (completes-each (lags f) (asks (next_generation s.completion_generation)) (λ p. refl) s.participants)) refl))

pub climbs-advance : (s : State) → Climbs s (advance_of s)
unfolding advance_of
climbs-advance s = if-true (Climbs s) (is_stopped s) (λ u. refl) (λ u. climbs-advance_to (front_of s) s)

pub climbs-own : (c : Call) (s : State) → Climbs s (own_step c s)
climbs-own c s = own-cases (Climbs s) s (climbs-frame s) (λ e t n. climbs-complete e t n s) (λ e g. climbs-observed e g s) c

pub climbs-take : (c : Call) (s : State) → Climbs s (take_step c s)
unfolding take_step
climbs-take c s =
    if-true (Climbs s) (facts c).message (λ u. climbs-also s (own_step c s) (advance_of (own_step c s).state) (climbs-own c s) (climbs-advance (own_step c s).state)) (λ u. climbs-own c s)

pub climbs-call : (g : Given) (s : State) → Climbs s (call g s).step
unfolding call
climbs-call g s = if-true (Climbs s) (is_taken g s) (λ u. climbs-take g.what s) (λ u. refl)

climbs-run : (gs : List Given) (s : State) → Climbs s (run_calls gs s)
unfolding run_calls
climbs-run [] s = refl
climbs-run (g ∷ gs) s = climbs-also s (call g s).step (run_calls gs (call g s).step.state) (climbs-call g s) (climbs-run gs (call g s).step.state)

increasing : (m n : Option Tag) (ts : List Tag) → Rise m ts n → Increasing m ts
increasing m n [] h = tt
increasing m n (t ∷ ts) h = (h.0, increasing (Some t) n ts h.1)

pub completes-exceed-frontier : CompletesExceedFrontier
completes-exceed-frontier gs s = increasing s.completed_frontier (run_calls gs s).state.completed_frontier (completes (run_calls gs s).actions) (climbs-run gs s)

-- an opening has no frontier yet
pub completes-increase : CompletesIncrease
unfolding opened
completes-increase o gs = completes-exceed-frontier gs (start o)
