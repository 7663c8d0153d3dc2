-- Which calls are well formed, and which entries have a text.
use Rattle.std.specs.Prelude.{◌≡◌, ℕ, ◌^◌, ◌<◌, ◌≤◌, List, length, IfSome}
use Rattle.std.specs.List.{AllByRecursion}
use Rattle.com_text.specs.Text.{IsText}
use Rattle.com_text.specs.Name.{IsName}
use Rattle.com_msg.specs.Stamp.{IsMoment}
use Rattle.com_msg.specs.Limits.{IsWithinLimits}
use Rattle.com_msg.specs.Rendering.{IsAdvance}
use Rattle.com_msg.specs.declared.rest.TheConstants.{MAX_SIZE}
use Rattle.com_msg.specs.declared.sending.TheConstants.{MAX_ITEM_LENGTH}
use Rattle.com_cd.specs.Designation.{names_length}
use Rattle.com_cd.specs.InputArea.{IsInputArea}
use Rattle.com_cd.specs.OutputArea.{IsOutputArea}
use Rattle.com_msg.specs.declared.message.RawMessage.{RawMessage}
use Rattle.com_msg.specs.declared.sending.Part.{Part}
use Rattle.com_msg.specs.declared.sending.Part.TheVariants as part
use Rattle.com_events.specs.declared.call.TheConstants.{MAX_KEY_LENGTH}
use Rattle.com_events.specs.declared.call.Party.{Party}
use Rattle.com_events.specs.declared.call.Party.TheVariants as party
use Rattle.com_events.specs.declared.call.EndReason.{EndReason}
use Rattle.com_events.specs.declared.call.EndReason.TheVariants as finish
use Rattle.com_events.specs.declared.call.Call.{Call}
use Rattle.com_events.specs.declared.call.Call.TheVariants.{Start, Receive, Count, Send, SwitchInput, SwitchOutput, Arrive, Held, Stop, Finish}
use Rattle.com_events.specs.declared.reply.Reply.{Reply}
use Rattle.com_events.specs.declared.reply.Reply.TheVariants.{Started, Given, NoData, Refused, Waits, AreaIn, AreaOut, Arrived, Done}
use Rattle.com_events.specs.declared.entry.Entry.{Entry}

-- an indicator with an advance of as many lines as a terminal may advance, or none
abbrev pub IsPart : Part → Type 0
IsPart part.Portion = Unit {0}
IsPart (part.Esi advance) = IsAdvance advance
IsPart (part.Emi advance) = IsAdvance advance
IsPart (part.Egi advance) = IsAdvance advance

-- one character or more, and as many as a SEND may have
abbrev pub IsItem : List ℕ → Type 0
IsItem item = IsText item × (1 ≤ length item) × (length item ≤ MAX_ITEM_LENGTH)

-- as many characters as a key may have
abbrev pub IsKey : List ℕ → Type 0
IsKey key = IsText key × (length key ≤ MAX_KEY_LENGTH)

-- a message from a terminal: texts, within the limits
pub record IsTerminalMessage (message : RawMessage) : Type 0 where
  pub texts : AllByRecursion IsText message.segments
  pub limits : IsWithinLimits message

-- the place of a fault can be written in 18 digits; the other reasons have no parts
abbrev pub IsEndReason : EndReason → Type 0
IsEndReason (finish.Frame fault) = fault.at < 10 ^ 18
IsEndReason finish.End = Unit {0}
IsEndReason finish.Fault = Unit {0}
IsEndReason finish.Long = Unit {0}
IsEndReason finish.Idle = Unit {0}

-- a call whose parts are in their ranges
abbrev pub IsWellFormed : Call → Type 0
IsWellFormed Start = Unit {0}
IsWellFormed (Receive area kind size no_data) =
    IsInputArea area × (1 ≤ size) × (size ≤ MAX_SIZE)
IsWellFormed (Count area) = IsInputArea area
IsWellFormed (Send area part item) = IsOutputArea area × IsPart part × IfSome item IsItem
IsWellFormed (SwitchInput on terminal area key) = IsInputArea area × IsKey key
IsWellFormed (SwitchOutput on area key) = IsOutputArea area × IsKey key
IsWellFormed (Arrive stamp message) = IsMoment stamp × IsTerminalMessage message
IsWellFormed Held = Unit {0}
IsWellFormed (Stop reason) = Unit {0}
IsWellFormed (Finish reason) = IsEndReason reason

-- a call that a unit makes; the others are those of terminals
abbrev pub IsUnitCall : Call → Type 0
IsUnitCall Start = Unit {0}
IsUnitCall (Receive area kind size no_data) = Unit {0}
IsUnitCall (Count area) = Unit {0}
IsUnitCall (Send area part item) = Unit {0}
IsUnitCall (SwitchInput on terminal area key) = Unit {0}
IsUnitCall (SwitchOutput on area key) = Unit {0}
IsUnitCall (Stop reason) = Unit {0}
IsUnitCall (Arrive stamp message) = ⊥
IsUnitCall Held = ⊥
IsUnitCall (Finish reason) = ⊥

-- a named party, and a call of its sort
abbrev pub IsCallOf : Party → Call → Type 0
IsCallOf (party.Unit name) call = IsName name × IsUnitCall call
IsCallOf (party.Terminal name) call = IsName name × (IsUnitCall call → ⊥)

-- the four names that START hands over, a text
abbrev pub AreNames : List ℕ → Type 0
AreNames names = IsText names × (length names ≡ names_length)

-- the reply is one that such a call may be answered
abbrev pub IsReplyTo : Call → Reply → Type 0
IsReplyTo Start (Started names) = IfSome names AreNames
IsReplyTo (Receive area kind size no_data) (Given after text) =
    IsInputArea after × IsText text × (length text ≤ MAX_SIZE)
IsReplyTo (Receive area kind size no_data) (NoData after) = IsInputArea after
IsReplyTo (Receive area kind size no_data) (Refused after) = IsInputArea after
IsReplyTo (Receive area kind size no_data) Waits = Unit {0}
IsReplyTo (Count area) (AreaIn after) = IsInputArea after
IsReplyTo (Send area part item) (AreaOut after) = IsOutputArea after
IsReplyTo (SwitchInput on terminal area key) (AreaIn after) = IsInputArea after
IsReplyTo (SwitchOutput on area key) (AreaOut after) = IsOutputArea after
IsReplyTo (Arrive stamp message) (Arrived number) = (1 ≤ number) × (number < 10 ^ 18)
IsReplyTo Held Done = Unit {0}
IsReplyTo (Stop reason) Done = Unit {0}
IsReplyTo (Finish reason) Done = Unit {0}
IsReplyTo _ _ = ⊥

-- the entry has a text in a journal
pub record HasText (entry : Entry) : Type 0 where
  pub caller : IsCallOf entry.party entry.call
  pub call : IsWellFormed entry.call
  pub reply : IsReplyTo entry.call entry.reply
