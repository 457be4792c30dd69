-- What the code's answers tell, in the terms of Events, and the enclaves that an `input` line names. Assumes nothing.
use Rattle.std.specs.Prelude.{ℕ, zero, suc, ◌+◌, Bool, true, false, cond, List, [], ◌∷◌, ltb, length, take, drop, None, Option, Some}
use Rattle.numerals.specs.Numerals.{split, space}
use Rattle.rules.specs.Model.{Call, active, stopped, publish, complete, observed, failed, acquire, sent, observe, idle, stop, progress, horizon, begin, late, done, input}
use Rattle.events.specs.declared.Event.{Event}
use Rattle.events.specs.declared.Event.TheVariants as event
use Rattle.events.specs.Events.{event_of}

-- ---- events

-- the call that an event tells; what `input` names stands beside it
abbrev pub call_told : Event → List ℕ → Call
call_told (event.Active e) es = active e
call_told (event.Publish e t) es = publish e t
call_told (event.Complete e t m) es = complete e t m
call_told (event.Observed e g) es = observed e g
call_told (event.Stopped e) es = stopped e
call_told (event.Failed e) es = failed e
call_told (event.Acquire r t) es = acquire r t
call_told (event.Sent r t h) es = sent r t h
call_told (event.Observe e r o) es = observe e r o
call_told (event.Idle r) es = idle r
call_told event.Stop es = stop
call_told (event.Horizon t) es = horizon t
call_told (event.Begin e t) es = begin e t
call_told (event.Late e t) es = late e t
call_told (event.Done e t) es = done e t
call_told (event.Input n) es = input (take n es)
call_told event.Progress es = progress

abbrev pub told_event : Option Event → List ℕ → Option Call
told_event None es = None
told_event (Some e) es = Some (call_told e es)

-- the event that tells a call; the count of enclaves for `input`
abbrev pub event_telling : Call → Event
event_telling (active e) = event.Active e
event_telling (publish e t) = event.Publish e t
event_telling (complete e t m) = event.Complete e t m
event_telling (observed e g) = event.Observed e g
event_telling (stopped e) = event.Stopped e
event_telling (failed e) = event.Failed e
event_telling (acquire r t) = event.Acquire r t
event_telling (sent r t h) = event.Sent r t h
event_telling (observe e r o) = event.Observe e r o
event_telling (idle r) = event.Idle r
event_telling stop = event.Stop
event_telling (horizon t) = event.Horizon t
event_telling (begin e t) = event.Begin e t
event_telling (late e t) = event.Late e t
event_telling (done e t) = event.Done e t
event_telling (input es) = event.Input (length es)
event_telling progress = event.Progress

abbrev pub event_for : Option Call → Option Event
event_for None = None
event_for (Some c) = Some (event_telling c)

-- ---- the enclaves of an `input` line

-- the enclaves that an `input` names
abbrev pub inputs : Call → List ℕ
inputs (active e) = []
inputs (publish e t) = []
inputs (complete e t m) = []
inputs (observed e g) = []
inputs (stopped e) = []
inputs (failed e) = []
inputs (acquire r t) = []
inputs (sent r t h) = []
inputs (observe e r o) = []
inputs (idle r) = []
inputs stop = []
inputs (horizon t) = []
inputs (begin e t) = []
inputs (late e t) = []
inputs (done e t) = []
inputs (input es) = es
inputs progress = []

abbrev pub named_in : Option Call → List ℕ
named_in None = []
named_in (Some c) = inputs c

-- the first n, with 0 where there are fewer
abbrev pub padded : ℕ → List ℕ → List ℕ
padded zero es = []
padded (suc n) [] = 0 ∷ padded n []
padded (suc n) (e ∷ es) = e ∷ padded n es

-- the enclaves that a line names if it is a good `input` line, with 0 after them to 32; all 0 for any other line
unfoldable pub enclaves_of : List ℕ → List ℕ
enclaves_of line = padded 32 (named_in (event_of line))

-- ---- inside: the fields read, and the places between them

abbrev pub is_given : Option Call → Bool
is_given None = false
is_given (Some c) = true

-- the fields of a line after the space at this place; none where the line has ended
unfoldable pub fields_from : ℕ → List ℕ → List (List ℕ)
fields_from at line = cond (ltb at (length line)) (split space (drop (at + 1) line)) []
