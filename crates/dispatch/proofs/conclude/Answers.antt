-- `dispatch::conclude` meets its contract: each way to go on by its law in Concluding, from what publication and completion promise. Assumes nothing.
use Rattle.dispatch.proofs.Concluding.{concludes-announced, concludes-completed, concludes-says, concludes-unannounced, concludes-uncompleted}
use Rattle.state.specs.declared.FederateCoordinationState.{FederateCoordinationState as Held}
use Rattle.state.specs.Beside.{SameTags, SameListed}
use Rattle.dispatch.proofs.conclude.Goals as goal

tags_of : {s t : Held} → SameListed s t → SameTags s t
tags_of b = record { seconds = b.seconds; nanoseconds = b.nanoseconds; microsteps = b.microsteps; count = b.count }

pub returns-in-Says-clause-concludes : goal.returns-in-Says-clause-concludes
returns-in-Says-clause-concludes c = rw c.in-Says.is (λ s e whole beside p q. concludes-says _ _ s e whole p q _)

pub returns-in-None-clause-concludes : goal.returns-in-None-clause-concludes
returns-in-None-clause-concludes c =
    rw c.in-Announces.is (λ s e whole beside p q. concludes-unannounced _ _ s e whole p q _ (c.in-None.ensures s whole beside p))

pub returns-in-Some-clause-concludes : goal.returns-in-Some-clause-concludes
returns-in-Some-clause-concludes c =
    rw c.in-Announces.is (λ s e whole beside p q. concludes-announced c.args.coordination _ s e whole p q _ _ (c.in-Some.ensures s whole beside p))

pub returns-in-None-complete_least-clause-concludes : goal.returns-in-None-complete_least-clause-concludes
returns-in-None-complete_least-clause-concludes c =
    rw c.in-Completes.is (λ s e whole beside p q. concludes-uncompleted _ _ s e whole p q (c.in-None-complete_least.ensures s whole (tags_of beside) q))

pub returns-in-Some-complete_least-clause-concludes : goal.returns-in-Some-complete_least-clause-concludes
returns-in-Some-complete_least-clause-concludes c =
    rw c.in-Completes.is (λ s e whole beside p q. concludes-completed _ c.args.completion s e whole p q _ (c.in-Some-complete_least.ensures s whole (tags_of beside) q))
