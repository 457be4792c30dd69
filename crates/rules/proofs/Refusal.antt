-- `RefusalKeepsState`: a call that is refused is not taken, and what is not taken gives back its state and no action. And what a taken call has
-- passed, test by test. Assumes nothing.
use mathlib.Core.Path.{◌≡◌, refl}
use mathlib.Core.Bool.{Bool, true, false, not, cond, ◌&&◌}
use lib.Dec.{T, eqb, ltb, eqb→eq}
use Rattle.rules.specs.Calls.{all_proper, call, facts, is_sound, is_spent, is_taken, knows_all, own_step, refusal, room_for}
use Rattle.rules.specs.Demands.{RefusalKeepsState}
use Rattle.rules.specs.Model.{Given, State, Step}
use Rattle.rules.specs.Walk.{quiet}
use Rattle.rules.proofs.Frame.{if-true}

pub refusal-keeps-state : RefusalKeepsState
unfolding call
refusal-keeps-state g s n = if-true (λ (o : Step). o ≡ quiet s) (is_taken g s) (λ u. absurd (n (eqb→eq (refusal g s) 0 u))) (λ u. refl)

pub record Passed (g : Given) (s : State) : Type 0 where
  pub sound : T (is_sound s)
  pub proper : T (all_proper (facts g.what).tags)
  pub known : T (knows_all (facts g.what).names s.participants)
  pub unspent : T (not ((facts g.what).message && is_spent (own_step g.what s).state))

-- the tests of 27, 8, 7, 3, 4 and 9, of a chain that ends in 0
chain : (a b c d e f : Bool) → T (eqb (cond (not a) 27 (cond b 8 (cond (not c) 7 (cond (not d) 3 (cond e 4 (cond f 9 0)))))) 0)
    → T a × T c × T d × T (not f)
chain false b c d e f h = absurd h
chain true true c d e f h = absurd h
chain true false false d e f h = absurd h
chain true false true false e f h = absurd h
chain true false true true true f h = absurd h
chain true false true true false true h = absurd h
chain true false true true false false h = (tt, tt, tt, tt)

pub taken-passed : (g : Given) (s : State) → T (is_taken g s) → Passed g s
unfolding refusal
taken-passed g s h =
    let c = facts g.what in
    let small = c.takes_room && ltb g.room (room_for s) in
    let spent = c.message && is_spent (own_step g.what s).state in
    let r = chain (is_sound s) small (all_proper c.tags) (knows_all c.names s.participants) (c.wrong_in s) spent h in
    record { sound = r.0; proper = r.1; known = r.2; unspent = r.3 }
