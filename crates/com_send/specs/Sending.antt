-- SEND: text that a unit sends, and messages on their way to destinations.
use Rattle.std.specs.Prelude.{ℕ, Bool, true, false, not, ◌&&◌, nat_le, List, [], ◌∷◌, ◌++◌, length, take, Option, Some, None, slice_get, if◌then◌else◌}
use Rattle.std.specs.List.{list_any, enumerate_from}
use Rattle.std.specs.Str.{all_ascii_digits}
use Rattle.com_text.specs.Digits.{number}
use Rattle.com_msg.specs.Begun.{Begun, nothing_begun, with_text, ended, finished}
use Rattle.com_msg.specs.declared.message.End.TheVariants.{Emi as with_emi, Egi as with_egi}
use Rattle.com_msg.specs.declared.sending.Advance.{Advance}
use Rattle.com_msg.specs.declared.sending.OutMessage.{OutMessage}
use Rattle.com_msg.specs.declared.sending.Part.{Part}
use Rattle.com_msg.specs.declared.sending.Part.TheVariants.{Portion, Esi, Emi, Egi}
use Rattle.com_cd.specs.OutputArea.{out_field}
use Rattle.com_cd.specs.declared.status.Status.{Status}
use Rattle.com_cd.specs.declared.status.Status.TheVariants.{S00, S10, S20, S30, S50, S60}
use Rattle.com_cd.specs.declared.output_area.OutField.TheVariants as field
use Rattle.com_send.specs.declared.destination.Destination.{Destination}
use Rattle.com_send.specs.Outgoing.{DestinationState, Outgoing, with_begun}
use Rattle.com_send.specs.Found.{Found, find_destinations, is_among, has_unknown, at_each, with_keys}
use Rattle.com_cd.specs.Status.{with_output_status}

-- a finished message is transmitted where the destination is enabled, and otherwise queued
abbrev pub deliver : OutMessage → DestinationState → DestinationState
deliver message state =
    if state.on then record state { sent = state.sent ++ message ∷ [] }
    else record state { queued = state.queued ++ message ∷ [] }

-- the message is delivered, and the unit has begun nothing
abbrev pub finish : ℕ → OutMessage → DestinationState → DestinationState
finish unit message state = deliver message (with_begun unit nothing_begun state)

-- what a part makes of what the unit has begun
abbrev pub serve_part : ℕ → Part → Begun → DestinationState → DestinationState
serve_part unit Portion begun state = with_begun unit begun state
serve_part unit (Esi advance) begun state = with_begun unit (ended advance begun) state
serve_part unit (Emi advance) begun state = finish unit (finished advance with_emi begun) state
serve_part unit (Egi advance) begun state = finish unit (finished advance with_egi begun) state

-- the text is added to what the unit has begun, and the part ends what it ends
abbrev pub serve_begun : ℕ → Part → List ℕ → DestinationState → Option Begun → DestinationState
serve_begun unit part text state None = state
serve_begun unit part text state (Some begun) = serve_part unit part (with_text text begun) state

-- one destination of a SEND
abbrev pub serve : ℕ → Part → List ℕ → DestinationState → DestinationState
serve unit part text state = serve_begun unit part text state (slice_get state.begun unit)

-- how the segment is written that a part ends
abbrev pub advance_of : Part → Option Advance
advance_of Portion = None
advance_of (Esi advance) = Some advance
advance_of (Emi advance) = Some advance
advance_of (Egi advance) = Some advance

-- the leftmost TEXT LENGTH characters of the item, and none without an item; undefined where TEXT
-- LENGTH is not a number, or more than the item has
abbrev pub sent_text : List ℕ → Option (List ℕ) → Option (List ℕ)
sent_text area None = Some []
sent_text area (Some item) =
    let digits = out_field field.Length area in
    if all_ascii_digits digits && nat_le (number digits) (length item)
    then Some (take (number digits) item) else None

-- a portion without characters
abbrev pub is_nothing : Part → List ℕ → Bool
is_nothing Portion [] = true
is_nothing Portion (byte ∷ text) = false
is_nothing (Esi advance) text = false
is_nothing (Emi advance) text = false
is_nothing (Egi advance) text = false

-- a destination that is named is disabled
abbrev pub has_disabled : Found → Outgoing → Bool
has_disabled found outgoing =
    list_any (λ (at, state). is_among found at && not state.on) (enumerate_from 0 outgoing)

-- 20 where a destination is unknown, otherwise 10 where a known one is disabled, otherwise 00
abbrev pub send_status : Found → Outgoing → Status
send_status found outgoing =
    if has_unknown found then S20 else if has_disabled found outgoing then S10 else S00

-- what a verb answers in its area, and what is outgoing then
abbrev pub Answer : Type 0
Answer = List ℕ × Outgoing

-- each known destination is served
abbrev pub send_to : Outgoing → ℕ → List ℕ → Part → List ℕ → Found → Answer
send_to outgoing unit area part text found = (
  with_keys found (send_status found outgoing) area,
  at_each found (serve unit part text) outgoing,
)

-- 30, 50 and 60 are tried in this order, and then the status key alone changes
abbrev pub send_found : Outgoing → ℕ → List ℕ → Part → Option Found → Option (List ℕ) → Answer
send_found outgoing unit area part None text = (with_output_status S30 area, outgoing)
send_found outgoing unit area part (Some found) None = (with_output_status S50 area, outgoing)
send_found outgoing unit area part (Some found) (Some text) =
    if is_nothing part text then (with_output_status S60 area, outgoing)
    else send_to outgoing unit area part text found

-- SEND
abbrev pub send : List Destination → Outgoing → ℕ → List ℕ → Part → Option (List ℕ) → Answer
send destinations outgoing unit area part item =
    send_found outgoing unit area part (find_destinations destinations area) (sent_text area item)
