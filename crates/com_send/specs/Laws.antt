-- What SEND, ENABLE and DISABLE OUTPUT leave as it was, and in which order messages are
-- transmitted.
use Rattle.std.specs.Prelude.{◌≡◌, ℕ, Bool, true, false, List, [], ◌∷◌, ◌++◌, Option, Some, None, if◌then◌else◌}
use Rattle.com_msg.specs.Begun.{Begun, with_text, finished}
use Rattle.com_msg.specs.declared.message.End.TheVariants.{Emi as with_emi, Egi as with_egi}
use Rattle.com_msg.specs.declared.sending.OutMessage.{OutMessage}
use Rattle.com_msg.specs.declared.sending.Part.{Part}
use Rattle.com_msg.specs.declared.sending.Part.TheVariants.{Portion, Esi, Emi, Egi}
use Rattle.com_cd.specs.declared.status.Status.{Status}
use Rattle.com_cd.specs.declared.status.Status.TheVariants.{S30, S40, S50, S60}
use Rattle.com_send.specs.declared.destination.Destination.{Destination}
use Rattle.com_send.specs.Outgoing.{DestinationState, Outgoing, begun_for, drop_unit}
use Rattle.com_send.specs.Found.{Found, find_destinations, is_among}
use Rattle.com_send.specs.Sending.{sent_text, send}
use Rattle.com_send.specs.Switching.{switch_output}

-- the destination is among those that were found, where some were looked for
abbrev pub is_found : Option Found → ℕ → Bool
is_found None at = false
is_found (Some found) at = is_among found at

-- an occurrence that DESTINATION COUNT counts names this destination
abbrev pub is_named : List Destination → List ℕ → ℕ → Bool
is_named destinations area at = is_found (find_destinations destinations area) at

-- the status keys of a SEND that is not served
abbrev pub is_send_refusal : Status → Bool
is_send_refusal S30 = true
is_send_refusal S50 = true
is_send_refusal S60 = true
is_send_refusal _ = false

-- the status keys of an ENABLE or DISABLE OUTPUT that is not served
abbrev pub is_switch_refusal : Status → Bool
is_switch_refusal S30 = true
is_switch_refusal S40 = true
is_switch_refusal _ = false

-- a call on what is outgoing: SEND of a unit, ENABLE or DISABLE OUTPUT, or the stop of a unit
pub data Verb : Type 0 where
  sends : ℕ → List ℕ → Part → Option (List ℕ) → Verb
  switches : Bool → List ℕ → List ℕ → Verb
  stops : ℕ → Verb

-- what is outgoing after a call
abbrev pub after : List Destination → Outgoing → Verb → Outgoing
after destinations outgoing (sends unit area part item) =
    (send destinations outgoing unit area part item).1
after destinations outgoing (switches on area key) =
    (switch_output destinations outgoing on area key).1
after destinations outgoing (stops unit) = drop_unit unit outgoing

-- what is outgoing after calls, one after another
abbrev pub after_all : List Destination → Outgoing → List Verb → Outgoing
after_all destinations outgoing [] = outgoing
after_all destinations outgoing (verb ∷ verbs) =
    after_all destinations (after destinations outgoing verb) verbs

-- the message that a part finishes of what is begun, if it finishes one
abbrev pub finished_of : Part → Begun → List OutMessage
finished_of Portion begun = []
finished_of (Esi advance) begun = []
finished_of (Emi advance) begun = finished advance with_emi begun ∷ []
finished_of (Egi advance) begun = finished advance with_egi begun ∷ []

-- with this text after what the unit has begun
abbrev pub finished_with : Part → List ℕ → Option Begun → List OutMessage
finished_with part text None = []
finished_with part text (Some begun) = finished_of part (with_text text begun)

-- the message that a SEND finishes for a destination, if it finishes one
abbrev pub finished_for : Outgoing → ℕ → Part → ℕ → Option Found → Option (List ℕ) → List OutMessage
finished_for outgoing unit part at None text = []
finished_for outgoing unit part at (Some found) None = []
finished_for outgoing unit part at (Some found) (Some text) =
    if is_among found at then finished_with part text (begun_for outgoing unit at) else []

-- the message that a call finishes for a destination, if it finishes one
abbrev pub finished_by : List Destination → Outgoing → Verb → ℕ → List OutMessage
finished_by destinations outgoing (sends unit area part item) at =
    finished_for outgoing unit part at (find_destinations destinations area) (sent_text area item)
finished_by destinations outgoing (switches on area key) at = []
finished_by destinations outgoing (stops unit) at = []

-- all that calls finish for a destination, in order
abbrev pub finished_by_all : List Destination → Outgoing → List Verb → ℕ → List OutMessage
finished_by_all destinations outgoing [] at = []
finished_by_all destinations outgoing (verb ∷ verbs) at =
    finished_by destinations outgoing verb at
    ++ finished_by_all destinations (after destinations outgoing verb) verbs at

-- What was transmitted, and what is queued after it, is what was finished, in order; and nothing is
-- queued where the destination is enabled.
pub record IsInOrder (messages : List OutMessage) (state : DestinationState) : Type 0 where
  pub all : state.sent ++ state.queued ≡ messages
  pub none_left : state.on ≡ true → state.queued ≡ []
