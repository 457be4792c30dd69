-- `acquisition::is_pending` is the rule's comparison: the derived equality of publications is that of their numbers and tags. Assumes nothing.
use mathlib.Core.Path.{◌≡◌, refl, ap, ap₂, ◌∙◌}
use mathlib.Core.Bool.{Bool, true, false, ◌&&◌}
use lib.Dec.{eqb}
use Rattle.std.specs.Option.{option_eq}
use Rattle.tags.specs.Tags.{same_optional}
use Rattle.tags.proofs.Derived.{tag_eq, derived_optional}
use Rattle.acquisition.proofs.is_pending.Goals as goal

grouped : (a b c : Bool) → (a && (b && c)) ≡ (a && b && c)
grouped true b c = refl
grouped false b c = refl

pub returns-then-c : goal.returns-then-c
returns-then-c c =
    let k = c.args.c.now in
    let p = c.args.p.now in
    rw c.if-c.true
    (c.eq.ensures
    ∙ grouped (eqb k.pending_revision p.revision) (option_eq tag_eq c.optional_of.result p.next_event) (option_eq tag_eq c.optional_of-2.result p.grant_horizon)
    ∙ ap₂ (λ m n. eqb k.pending_revision p.revision && m && n)
    (derived_optional _ p.next_event ∙ ap (λ m. same_optional m p.next_event) c.optional_of.ensures)
    (derived_optional _ p.grant_horizon ∙ ap (λ m. same_optional m p.grant_horizon) c.optional_of-2.ensures))
