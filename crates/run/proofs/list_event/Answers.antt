-- `run::list_event` takes an event by its call and lists it. Its records read back, as each action of a call can be written. Assumes nothing.
use mathlib.Core.Path.{refl}
use native.Mathlib.Omega.{arith}
use Rattle.events.specs.Told.{call_told}
use Rattle.writable.proofs.Declared.{state-fits}
use Rattle.writable.proofs.ReadBack.{actions-are-writable}
use Rattle.budget.specs.Run.{given}
use Rattle.run.proofs.Lists.{takes-few, length-kept, lists-call}
use Rattle.run.proofs.Widths.{call_fits}
use Rattle.run.proofs.list_event.Goals as goal

pub put_actions-after-requires : goal.put_actions-after-requires
put_actions-after-requires c = let a = c.args in
    let few = takes-few (call_told a.event a.listed.now) a.state _ _ c.take-called.result c.take-called.ensures in
    let within = c.put_event-told.ensures.within in
    let room = c.requires in
    omega (arith, length-kept c.put_event-told.ensures room)

pub returns : goal.returns
returns c = let a = c.args in
    let p = c.put_event-told.ensures in
    let q = c.put_actions-after.ensures in
    let k = call_told a.event a.listed.now in
    let few = takes-few k a.state _ _ c.take-called.result c.take-called.ensures in
    let room = c.requires in
    lists-call k a.state a.number a.written _ _ _ _ _ _ _ _ refl c.take-called.ensures
    (actions-are-writable (given k) a.state (state-fits a.state _ c.well_formed.0) (call_fits a.event a.listed.now _ c.well_formed.1.0))
    p q (omega (arith, p.within, q.within))
