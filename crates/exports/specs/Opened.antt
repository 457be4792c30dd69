-- An opening under a policy's number. Assumes nothing.
use Rattle.std.specs.Prelude.{cond, List, ℕ, eqb, None, Option, Some}
use Rattle.records.specs.Numbers.{refusal_number}
use Rattle.records.specs.declared.Refusal.TheVariants.{ScriptOutOfForm}
use Rattle.rules.specs.Model.{LifecyclePolicy, KeepAlive, TerminateWhenIdle, CoordinatedTermination}
use Rattle.rules.specs.Opening.{opening_refusal}
use Rattle.opening.specs.Opened.{blank, opened_held}
use Rattle.exports.specs.declared.OpenedNumbers.{OpenedNumbers}

abbrev pub policy_of : ℕ → Option LifecyclePolicy
policy_of n = cond (eqb n 0) (Some KeepAlive) (cond (eqb n 1) (Some TerminateWhenIdle) (cond (eqb n 2) (Some CoordinatedTermination) None))

-- "Scripts: 12, 11, then the opening": what is no policy comes before all that the opening refuses
abbrev pub opened_numbers : Option LifecyclePolicy → List ℕ → ℕ → ℕ → OpenedNumbers
opened_numbers None es revision generation = record { refusal = refusal_number (Some ScriptOutOfForm); state = blank 0 }
opened_numbers (Some policy) es revision generation = record { refusal = opening_refusal es; state = opened_held es policy revision generation }
