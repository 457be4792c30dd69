-- What `candidate` answers in a state that passes 27, from the place found: the rules' walk over the participants is the walk over places.
-- Assumes nothing.
use Rattle.std.specs.Prelude.{None, Option, Some}
use Rattle.std.proofs.Common.{◌≡◌, ℕ, ◌≤◌, true, sym, ◌∙◌, ap, subst, subst₂, arith}
use lib.Dec.{T}
use Rattle.records.specs.declared.Refusal.{Refusal}
use Rattle.rules.specs.Model.{Tag}
use Rattle.rules.specs.Calls.{is_sound}
use Rattle.rules.specs.Queries.{candidate_of, candidate_by}
use Rattle.rules.proofs.Lists.{and_right}
use Rattle.rules.proofs.Sound.{sound-number, sound-ascending}
use Rattle.state.specs.declared.FederateCoordinationState.{FederateCoordinationState as Held}
use Rattle.state.specs.Cells.{optional_of}
use Rattle.state.specs.View.{tag_at, view, represents}
use Rattle.state.specs.Parts.{place_in}
use Rattle.state.proofs.Rows.{length-rows, seated-in, found, found-nowhere}
use Rattle.queries.specs.Asked.{passes, answer_if, ask_held, Answers}

module _ (s : Held) (p : passes s ≡ true) where
  sound : T (is_sound (view s))
  sound = and_right (represents s) (is_sound (view s)) (subst T (sym p) tt)

  pub few : s.count ≤ 32
  few = let z = (sound-number (view s) sound).1 in let n = length-rows s in omega arith

  module _ (e : ℕ) {r : Option Refusal} {a : Option (Option Tag)} where
    taken : {x : Option (Option Tag)} → x ≡ candidate_of e (view s) → Answers (answer_if true None x) r a → Answers (ask_held None (candidate_of e) s) r a
    taken f h = subst₂ (λ b x. Answers (answer_if b None x) r a) (sym p) f h

    pub candidate-unknown : None ≡ place_in s e → Answers (answer_if true None None) r a → Answers (ask_held None (candidate_of e) s) r a
    candidate-unknown l = taken (ap candidate_by (sym (found-nowhere s e l)))

    pub candidate-known : {i : ℕ} → Some i ≡ place_in s e → {t : Tag} → t ≡ tag_at s i → Answers (answer_if true None (Some (optional_of t))) r a
        → Answers (ask_held None (candidate_of e) s) r a
    candidate-known {i} l f =
        taken (ap (λ t. Some (optional_of t)) f ∙ ap candidate_by (sym (found s e i (seated-in s e (sound-ascending (view s) sound) l))))
