-- What the code keeps of the destinations, and what it stands for.
use Rattle.std.specs.Prelude.{◌≡◌, ℕ, ◌+◌, ◌<◌, ◌≤◌, Bool, IsTrue, List, Option, None, Some, length, map, slice_index_or, vec_len, vec_capacity}
use Rattle.com_text.specs.Text.{IsText}
use Rattle.com_msg.specs.Begun.{OpenMessage, finished, nothing_begun, with_text}
use Rattle.com_msg.specs.declared.message.End.TheVariants.{Emi as with_emi, Egi as with_egi}
use Rattle.com_msg.specs.declared.sending.OutMessage.{OutMessage}
use Rattle.com_msg.specs.declared.sending.Part.{Part}
use Rattle.com_msg.specs.declared.sending.Part.TheVariants.{Portion, Esi, Emi, Egi}
use Rattle.com_send.specs.declared.output.Output.{Output}
use Rattle.com_send.specs.declared.output.SentPart.{SentPart}
use Rattle.com_send.specs.Outgoing.{DestinationState, Outgoing}
use Rattle.com_send.specs.Found.{Found, is_among}

-- the destination that is kept so
abbrev pub state_of : Output → DestinationState
state_of output = record {
  on = output.on;
  begun = map (λ message. message.begun) output.begun.items;
  queued = output.queued.items;
  sent = output.sent.items;
}

-- the destinations that are kept so
abbrev pub states_of : List Output → Outgoing
states_of outputs = map state_of outputs

-- P of each of the first `count` destinations that is named
abbrev pub EachNamed : Found → (Output → Type 0) → ℕ → List Output → Type 0
EachNamed found P count outputs = (at : ℕ) (d : Output) → at < count
    → IsTrue (is_among found at) → P (slice_index_or outputs at d)

-- for each of the first destinations, whether it is named
abbrev pub AreMarks : Found → List Bool → Type 0
AreMarks found marks = (at : ℕ) (d : Bool) → at < 64 → slice_index_or marks at d ≡ is_among found at

-- the message that a part makes of this text alone, where it ends one
abbrev pub whole_message : Part → List ℕ → Option OutMessage
whole_message Portion text = None
whole_message (Esi advance) text = None
whole_message (Emi advance) text = Some (finished advance with_emi (with_text text nothing_begun))
whole_message (Egi advance) text = Some (finished advance with_egi (with_text text nothing_begun))

-- what is sent is a text, and its message is kept where it makes one by itself
pub record IsSentPart (sent_part : SentPart) : Type 0 where
  pub text : IsText sent_part.text.now
  pub whole : sent_part.whole ≡ whole_message sent_part.part sent_part.text.now

-- Of what is begun of a message nothing is, and the whole message is at hand; or it takes the text
-- and a segment without asking for memory.
abbrev pub IsReady : Part → List ℕ → Option OutMessage → OpenMessage → Type 0
IsReady part text None message =
    (length text ≤ message.spare_bytes) × (1 ≤ message.spare_segments)
IsReady part text (Some whole) message =
    (whole_message part text ≡ Some whole) × (message.begun ≡ nothing_begun)

-- there is room for a message that is finished
pub record HasPlace (output : Output) : Type 0 where
  pub queued : vec_len output.queued < vec_capacity output.queued
  pub sent : vec_len output.sent < vec_capacity output.sent

-- there is room for so many characters of a unit, and for a segment
pub record HasSpare (unit characters : ℕ) (output : Output) : Type 0 where
  pub known : unit < length output.begun.items
  pub bytes : (d : OpenMessage) → characters ≤ (slice_index_or output.begun.items unit d).spare_bytes
  pub segment : (d : OpenMessage) → 1 ≤ (slice_index_or output.begun.items unit d).spare_segments

-- there is room for what a part makes of this text of a unit
pub record HasRoom (unit : ℕ) (part : Part) (text : List ℕ) (output : Output) : Type 0 where
  pub known : unit < length output.begun.items
  pub ready : (d : OpenMessage) → IsReady part text output.ready (slice_index_or output.begun.items unit d)
  pub place : HasPlace output

-- there is room to transmit all that is queued
abbrev pub CanTransmit : Output → Type 0
CanTransmit output = vec_len output.sent + vec_len output.queued ≤ vec_capacity output.sent
