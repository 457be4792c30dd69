-- The call that a declared event tells gives tags of their widths, since the event's own are. Assumes nothing.
use mathlib.Core.List.{List}
use Prim.Native.Nat.{ℕ}
use mir.Val.{Val}
use denote.Laws.{Is}
use denote.Enum.Declared as enum
use Rattle.events.specs.declared.Event.{Event}
use Rattle.events.specs.declared.Event.TheVariants.{Active, Publish, Complete, Observed, Stopped, Failed, Acquire, Sent, Observe, Idle, Stop, Horizon}
use Rattle.events.specs.declared.Event.TheVariants.{Begin, Late, Done, Input, Progress}
use Rattle.events.specs.contracts.Event as event
use Rattle.events.specs.Told.{call_told}
use Rattle.writable.specs.Demands.{CallFits}
use Rattle.writable.proofs.Declared.{tag_fits, optional-fits}

pub call_fits : (e : Event) (es : List ℕ) (vs : List Val) → Is (enum.row event.the_type) e vs → CallFits (call_told e es)
call_fits (Active e) es vs h = tt
call_fits (Publish e t) es vs h = (optional-fits t _ h.1.1.1.1.1.0, tt)
call_fits (Complete e t n) es vs h = (tag_fits t _ h.1.1.1.1.1.0, tt)
call_fits (Observed e g) es vs h = tt
call_fits (Stopped e) es vs h = tt
call_fits (Failed e) es vs h = tt
call_fits (Acquire r t) es vs h = (tag_fits t _ h.1.1.1.1.1.0, tt)
call_fits (Sent r n m) es vs h = (optional-fits n _ h.1.1.1.1.1.0, (optional-fits m _ h.1.1.1.1.1.1.0, tt))
call_fits (Observe e r o) es vs h = tt
call_fits (Idle r) es vs h = tt
call_fits Stop es vs h = tt
call_fits (Horizon t) es vs h = (optional-fits t _ h.1.1.1.1.0, tt)
call_fits (Begin e t) es vs h = (tag_fits t _ h.1.1.1.1.1.0, tt)
call_fits (Late e t) es vs h = (tag_fits t _ h.1.1.1.1.1.0, tt)
call_fits (Done e t) es vs h = (tag_fits t _ h.1.1.1.1.1.0, tt)
call_fits (Input n) es vs h = tt
call_fits Progress es vs h = tt
