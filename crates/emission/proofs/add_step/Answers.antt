-- `emission::add_step` adds what the own rule says, then what the completion step says. Assumes nothing.
use Rattle.emission.proofs.Adding.{add-then}
use Rattle.emission.proofs.add_step.Goals as goal

pub returns : goal.returns
returns c = add-then _ _ _ _ _ _ _ _ c.add_said-one.ensures.adds c.add_saying.ensures
