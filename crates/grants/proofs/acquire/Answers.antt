-- `grants::acquire` decides the rule, in its three ways, in every state that has the small parts of the one lent. Assumes nothing.
use mathlib.Core.Path.{sym, ap, ap₂, ◌∙◌, subst}
use mathlib.Core.Bool.{not, ◌&&◌}
use Rattle.tags.specs.Tags.{capped_by}
use Rattle.rules.specs.Acquisition.{not_above, raised_horizon}
use Rattle.state.specs.declared.Coordination.{Coordination}
use Rattle.state.specs.Cells.{optional_of}
use Rattle.state.specs.Parts.{without_pending}
use Rattle.grants.specs.Acquire.{is_stale, Acquires}
use Rattle.grants.proofs.Decision.{kept, reach_of, stayed, stays-outdated, answers-nothing, answers-grants}
use Rattle.grants.proofs.acquire.Goals as goal

pub returns-then-is_outdated : goal.returns-then-is_outdated
returns-then-is_outdated c s good p i j k =
    let r = c.args.acquisition.revision in
    let t = c.args.acquisition.granted in
    subst (λ g. Acquires r t s (stayed g)) j (stays-outdated r t p s good (ap (is_stale r) i ∙ sym c.is_outdated.ensures ∙ c.if-is_outdated.true))

pub returns-then-brings_nothing : goal.returns-then-brings_nothing
returns-then-brings_nothing c s good p i j k =
    let r = c.args.acquisition.revision in
    let t = c.args.acquisition.granted in
    let u = c.capped_by-reach.result in
    answers-nothing r t p s good (ap (is_stale r) i ∙ sym c.is_outdated.ensures ∙ c.if-is_outdated.false) _ (c.stored-gate.ensures ∙ ap (kept r t) (sym j))
    u (c.capped_by-reach.ensures ∙ ap (λ m. capped_by m t) c.optional_of.ensures ∙ ap (λ g. reach_of g t) (sym j))
    (ap₂ (λ (c : Coordination) h. not c.pending && not_above u (optional_of h)) i k ∙ sym c.brings_nothing.ensures ∙ c.if-brings_nothing.true)

pub returns : goal.returns
returns c s good p i j k =
    let r = c.args.acquisition.revision in
    let t = c.args.acquisition.granted in
    let u = c.capped_by-reach.result in
    answers-grants r t p s good (ap (is_stale r) i ∙ sym c.is_outdated.ensures ∙ c.if-is_outdated.false) _ (c.stored-gate.ensures ∙ ap (kept r t) (sym j))
    u (c.capped_by-reach.ensures ∙ ap (λ m. capped_by m t) c.optional_of.ensures ∙ ap (λ g. reach_of g t) (sym j))
    (ap₂ (λ (c : Coordination) h. not c.pending && not_above u (optional_of h)) i k ∙ sym c.brings_nothing.ensures ∙ c.if-brings_nothing.false)
    _ (c.raised_horizon-horizon.ensures ∙ ap (λ h. raised_horizon (optional_of h) u) (sym k))
    _ (c.without_pending-coordination.ensures ∙ ap (λ (c : Coordination). without_pending c.phase c) (sym i))
