-- The call that a request or a change names. Assumes nothing.
use Rattle.std.specs.Prelude.{ℕ, List}
use Rattle.rules.specs.Model.{Call, acquire, sent, observe, idle, stop, progress, horizon, begin, input}
use Rattle.requests.specs.declared.Request.{Request}
use Rattle.requests.specs.declared.Request.TheVariants.{Acquisition, PublicationSent, Observation, IdleConfirmation, Stop, InputProgress}
use Rattle.requests.specs.declared.Change.{Change}
use Rattle.requests.specs.declared.Change.TheVariants.{InputHorizon, BeginTag, InputPublishing}

abbrev pub request_of : Request → Call
request_of (Acquisition a) = acquire a.revision a.granted
request_of (PublicationSent p) = sent p.revision p.next_event p.grant_horizon
request_of (Observation e r o) = observe e r o
request_of (IdleConfirmation r) = idle r
request_of Stop = stop
request_of InputProgress = progress

-- with the enclaves that are lent beside it
abbrev pub change_of : Change → List ℕ → Call
change_of (InputHorizon t) es = horizon t
change_of (BeginTag e t) es = begin e t
change_of InputPublishing es = input es
