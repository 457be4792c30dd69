-- The table holds the rules' verdicts in their order, so that only the index is left to compare. Assumes nothing.
use Rattle.std.proofs.lemmas.List.{get_or_default}
use Rattle.std.proofs.Common.{◌+◌, ◌*◌, ◌<◌, arith}
use Rattle.records.specs.Numbers.{observation_number}
use Rattle.rules.specs.Model.{Observation, Probed, HasParked, Rechecked, Counts, Ignored}
use Rattle.rules.specs.Observation.{verdicts}
use Rattle.state.proofs.Round.{phase-number}
use Rattle.verdicts.proofs.verdict_in.Goals as goal

bound : (o : Observation) → observation_number o < 3
bound Probed = omega arith
bound HasParked = omega arith
bound Rechecked = omega arith

pub returns : goal.returns
returns c = rw (phase-number _ c.requires, c.from-column.ensures) (get_or_default verdicts (c.args.phase * 3 + observation_number c.args.observation) Counts Ignored (omega (arith, bound c.args.observation)))
