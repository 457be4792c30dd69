-- Document 01, "Acquisition", "Publication sent" and `input_progress` of "Gate" (state.rs: handle_acquisition, handle_publication_sent,
-- input_progress). Assumes nothing.
use Rattle.records.specs.declared.FederatePublication.{FederatePublication}
use Rattle.std.specs.Prelude.{ℕ, Bool, true, false, not, cond, ◌&&◌, ◌||◌, ◌∷◌, eqb, None, Option, Some}
use Rattle.tags.specs.Tags.{◌≤ₜ◌, ◌<ₜ◌, greater_of, is_at_or_below, same_optional, is_present, capped_by}
use Rattle.rules.specs.Model.{Tag, OptionalAcquisition, NoneStored, Stored, Participant, CoordinationAction, AdvanceHorizon, Grant, State, Step}
use Rattle.rules.specs.Set.{with_published, with_granted, with_pending_publication, with_grant_horizon, with_input_acquisition}
use Rattle.rules.specs.Walk.{each, every, quiet, emit, outdated}

-- "none is stored, or the stored one has another revision or a lower tag"
abbrev pub is_newer : ℕ → Tag → OptionalAcquisition → Bool
is_newer r t NoneStored = true
is_newer r t (Stored q u) = not (eqb q r) || u <ₜ t

abbrev pub worth_storing : ℕ → Tag → State → Bool
worth_storing r t s = is_present s.input_horizon && is_newer r t s.input_acquisition

-- "With an input horizon set, it is stored if"; uncapped
abbrev pub stored : ℕ → Tag → State → State
stored r t s = cond (worth_storing r t s) (with_input_acquisition (Stored r t) s) s

abbrev pub is_pending : Option FederatePublication → Bool
is_pending None = false
is_pending (Some p) = true

-- "the horizon becomes the greater"
abbrev pub raised_horizon : Option Tag → Tag → Tag
raised_horizon None t = t
raised_horizon (Some h) t = greater_of h t

-- "each published candidate at or below the capped tag"
abbrev pub is_grantable : Tag → Participant → Bool
is_grantable t p = p.published && is_at_or_below p.candidate t

abbrev pub tag_or : Tag → Option Tag → Tag
tag_or t None = t
tag_or t (Some c) = c

-- Grant with the enclave's candidate
abbrev pub grants : Tag → Participant → CoordinationAction
grants t p = Grant p.index (tag_or t p.candidate)

-- "every enclave's granted tag is this capped tag", and those granted "become unpublished"
abbrev pub granted_up_to : Tag → Participant → Participant
granted_up_to t p = with_granted (Some t) (with_published (p.published && not (is_grantable t p)) p)

-- "AdvanceHorizon, then Grant for each ..; and the pending publication is cleared"; AdvanceHorizon carries the new horizon
unfoldable pub grant_of : Tag → State → Step
grant_of t s =
    emit (AdvanceHorizon (raised_horizon s.grant_horizon t) ∷ each (is_grantable t) (grants t) s.participants)
    (with_grant_horizon (Some (raised_horizon s.grant_horizon t)) (with_pending_publication None (every (granted_up_to t) s)))

-- "there is no horizon or the tag is not above it"
abbrev pub not_above : Tag → Option Tag → Bool
not_above t None = true
not_above t (Some h) = t ≤ₜ h

-- "If no publication is pending, and there is no horizon or the tag is not above it: nothing more."
abbrev pub nothing_new : Tag → State → Bool
nothing_new t s = not (is_pending s.pending_publication) && not_above t s.grant_horizon

unfoldable pub acquire_capped : Tag → State → Step
acquire_capped t s = cond (nothing_new t s) (quiet s) (grant_of t s)

-- "Stopped or another revision: nothing. .. then the tag is capped."
unfoldable pub acquisition_of : ℕ → Tag → State → Step
acquisition_of r t s = cond (outdated r s) (quiet s) (acquire_capped (capped_by s.input_horizon t) (stored r t s))

-- ---- publication sent

-- "equal to the pending one in all fields"
abbrev pub same_publication : Option FederatePublication → ℕ → Option Tag → Option Tag → Bool
same_publication None r n h = false
same_publication (Some p) r n h = eqb p.revision r && same_optional p.next_event n && same_optional p.grant_horizon h

-- "its next event is at or below the horizon: an acquisition of its revision and the horizon"
unfoldable pub sent_under : Option Tag → ℕ → Option Tag → State → Step
sent_under None r n s = quiet s
sent_under (Some h) r n s = cond (is_at_or_below n h) (acquisition_of r h s) (quiet s)

unfoldable pub publication_sent_of : ℕ → Option Tag → Option Tag → State → Step
publication_sent_of r n h s = cond (same_publication s.pending_publication r n h) (sent_under s.grant_horizon r n s) (quiet s)

-- "`input_progress` repeats the stored acquisition."
unfoldable pub progress_by : OptionalAcquisition → State → Step
progress_by NoneStored s = quiet s
progress_by (Stored r t) s = acquisition_of r t s
