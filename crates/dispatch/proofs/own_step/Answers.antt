-- `dispatch::own_step` meets its contract: each message's function promises that message's rule. Assumes nothing.
use mathlib.Core.Bool.{true}
use Rattle.tags.specs.Tags.{is_proper, proper_if_present}
use Rattle.rules.specs.Calls.{own_step}
use Rattle.rules.proofs.Lists.{and_left}
use Rattle.dispatch.proofs.own_step.Goals as goal

pub returns-in-Active-clause-step : goal.returns-in-Active-clause-step
unfolding own_step
returns-in-Active-clause-step c = rw c.in-Active.is (λ e n q. rw n (c.activate.ensures.step e))

pub returns-in-Publish-clause-step : goal.returns-in-Publish-clause-step
unfolding own_step
returns-in-Publish-clause-step c = rw c.in-Publish.is (λ e n q. rw n (c.publish.ensures.step e (and_left (proper_if_present c.in-Publish.next_event) true q)))

pub returns-in-CompleteTag-clause-step : goal.returns-in-CompleteTag-clause-step
unfolding own_step
returns-in-CompleteTag-clause-step c = rw c.in-CompleteTag.is (λ e n q. rw n (c.complete.ensures.step e (and_left (is_proper c.in-CompleteTag.tag) true q)))

pub returns-in-CompletionObserved-clause-step : goal.returns-in-CompletionObserved-clause-step
unfolding own_step
returns-in-CompletionObserved-clause-step c = rw c.in-CompletionObserved.is (λ e n q. rw n (c.observe_completion.ensures.step e))

pub returns-in-ParticipantStopped-clause-step : goal.returns-in-ParticipantStopped-clause-step
unfolding own_step
returns-in-ParticipantStopped-clause-step c = rw c.in-ParticipantStopped.is (λ e n q. c.participant_stopped.ensures.step e)

pub returns-in-Failed-clause-step : goal.returns-in-Failed-clause-step
unfolding own_step
returns-in-Failed-clause-step c = rw c.in-Failed.is (λ e n q. c.fail.ensures.step e)
