-- ENABLE OUTPUT and DISABLE OUTPUT.
use Rattle.std.specs.Prelude.{ℕ, Bool, true, false, not, ◌||◌, List, [], ◌++◌, Option, Some, None, if◌then◌else◌}
use Rattle.std.specs.List.{list_all, enumerate_from}
use Rattle.com_cd.specs.declared.status.Status.{Status}
use Rattle.com_cd.specs.declared.status.Status.TheVariants.{S00, S20, S30, S40}
use Rattle.com_send.specs.declared.destination.Destination.{Destination}
use Rattle.com_send.specs.Outgoing.{DestinationState, Outgoing}
use Rattle.com_send.specs.Keys.{is_key}
use Rattle.com_send.specs.Found.{Found, find_destinations, is_among, has_unknown, at_each, with_keys}
use Rattle.com_send.specs.Sending.{Answer}
use Rattle.com_cd.specs.Status.{with_output_status}

-- the messages that are queued are transmitted, in order
abbrev pub transmit : DestinationState → DestinationState
transmit state = record state { sent = state.sent ++ state.queued; queued = [] }

-- the destination is enabled, and what is queued for it goes; or it is disabled
abbrev pub switch : Bool → DestinationState → DestinationState
switch true state = record (transmit state) { on = true }
switch false state = record state { on = false }

-- the key is the password of each destination that is named
abbrev pub is_key_of_each : Found → List ℕ → List Destination → Bool
is_key_of_each found key destinations =
    list_all (λ (at, destination). not (is_among found at) || is_key key destination.password)
    (enumerate_from 0 destinations)

-- 20 where a destination is unknown, otherwise 00
abbrev pub switch_status : Found → Status
switch_status found = if has_unknown found then S20 else S00

-- 30 and 40 are tried in this order, and then the status key alone changes
abbrev pub switch_found : List Destination → Outgoing → Bool → List ℕ → List ℕ → Option Found → Answer
switch_found destinations outgoing on area key None = (with_output_status S30 area, outgoing)
switch_found destinations outgoing on area key (Some found) =
    if is_key_of_each found key destinations
    then (with_keys found (switch_status found) area, at_each found (switch on) outgoing)
    else (with_output_status S40 area, outgoing)

-- ENABLE OUTPUT and DISABLE OUTPUT
abbrev pub switch_output : List Destination → Outgoing → Bool → List ℕ → List ℕ → Answer
switch_output destinations outgoing on area key =
    switch_found destinations outgoing on area key (find_destinations destinations area)
