-- The text of a call and the line of an entry.
use Rattle.std.specs.Prelude.{◌≡◌, ℕ, List, [], ◌∷◌, ◌++◌, length, map, codes, decimal, Option, Some, None}
use Rattle.std.specs.List.{join_with_byte}
use Rattle.com_text.specs.Counted.{counted_field}
use Rattle.com_msg.specs.declared.sending.Advance.{Advance}
use Rattle.com_msg.specs.declared.sending.Advance.TheVariants.{Before, After, BeforePage, AfterPage}
use Rattle.com_msg.specs.declared.sending.Part.{Part}
use Rattle.com_msg.specs.declared.sending.Part.TheVariants as part
use Rattle.com_events.specs.declared.call.Party.{Party}
use Rattle.com_events.specs.declared.call.Party.TheVariants as party
use Rattle.com_events.specs.declared.call.EndReason.{EndReason}
use Rattle.com_events.specs.declared.call.EndReason.TheVariants as finish
use Rattle.com_events.specs.declared.call.Call.{Call}
use Rattle.com_events.specs.declared.call.Call.TheVariants.{Start, Receive, Count, Send, SwitchInput, SwitchOutput, Arrive, Held, Stop, Finish}
use Rattle.com_events.specs.declared.reply.Reply.{Reply}
use Rattle.com_events.specs.declared.reply.Reply.TheVariants.{Started, Given, NoData, Refused, Waits, AreaIn, AreaOut, Arrived, Done}
use Rattle.com_events.specs.declared.entry.Entry.{Entry}
use Rattle.com_events.specs.Calls.{IsCallOf, IsWellFormed, HasText}
use Rattle.com_journal.specs.Words.{kind_word, wait_word, switch_word, input_word, end_word, stop_word, frame_word}

-- fields, with one space between two
abbrev pub spaced : List (List ℕ) → List ℕ
spaced fields = join_with_byte 32 fields

-- how far a terminal advances: so many lines, or a page
abbrev pub advance_field : Advance → List ℕ
advance_field (Before lines) = codes "B" ++ decimal lines
advance_field (After lines) = codes "A" ++ decimal lines
advance_field BeforePage = codes "BP"
advance_field AfterPage = codes "AP"

-- what SEND sends a part of
abbrev pub part_fields : Part → List (List ℕ)
part_fields part.Portion = codes "PART" ∷ []
part_fields (part.Esi advance) = codes "ESI" ∷ advance_field advance ∷ []
part_fields (part.Emi advance) = codes "EMI" ∷ advance_field advance ∷ []
part_fields (part.Egi advance) = codes "EGI" ∷ advance_field advance ∷ []

-- what SEND sends, or a hyphen where it sends an indicator alone
abbrev pub item_field : Option (List ℕ) → List ℕ
item_field None = codes "-"
item_field (Some item) = counted_field item

-- why a terminal ends
abbrev pub end_fields : EndReason → List (List ℕ)
end_fields finish.End = codes "END" ∷ []
end_fields finish.Fault = codes "FAULT" ∷ []
end_fields finish.Long = codes "LONG" ∷ []
end_fields finish.Idle = codes "IDLE" ∷ []
end_fields (finish.Frame fault) =
    codes "FRAME" ∷ frame_word fault.kind ∷ decimal fault.at ∷ []

-- who calls
abbrev pub party_fields : Party → List (List ℕ)
party_fields (party.Unit name) = codes "U" ∷ name ∷ []
party_fields (party.Terminal name) = codes "T" ∷ name ∷ []

-- what for
abbrev pub call_fields : Call → List (List ℕ)
call_fields Start = codes "START" ∷ []
call_fields (Receive area kind size no_data) =
    codes "RECEIVE" ∷ kind_word kind ∷ decimal size ∷ wait_word no_data ∷ counted_field area ∷ []
call_fields (Count area) = codes "COUNT" ∷ counted_field area ∷ []
call_fields (Send area part item) =
    codes "SEND" ∷ part_fields part ++ item_field item ∷ counted_field area ∷ []
call_fields (SwitchInput on terminal area key) =
    switch_word on ∷ input_word terminal ∷ counted_field key ∷ counted_field area ∷ []
call_fields (SwitchOutput on area key) =
    switch_word on ∷ codes "OUTPUT" ∷ counted_field key ∷ counted_field area ∷ []
call_fields (Arrive stamp message) =
    codes "ARRIVE" ∷ stamp.date ∷ stamp.time ∷ end_word message.end
    ∷ decimal (length message.segments) ∷ map counted_field message.segments
call_fields Held = codes "HELD" ∷ []
call_fields (Stop reason) = codes "STOP" ∷ stop_word reason ∷ []
call_fields (Finish reason) = codes "END" ∷ end_fields reason

-- what the call is answered
abbrev pub reply_fields : Reply → List (List ℕ)
reply_fields (Started None) = counted_field [] ∷ []
reply_fields (Started (Some names)) = counted_field names ∷ []
reply_fields (Given area text) = codes "TEXT" ∷ counted_field area ∷ counted_field text ∷ []
reply_fields (NoData area) = codes "NONE" ∷ counted_field area ∷ []
reply_fields (Refused area) = codes "REFUSED" ∷ counted_field area ∷ []
reply_fields Waits = codes "WAITS" ∷ []
reply_fields (AreaIn area) = counted_field area ∷ []
reply_fields (AreaOut area) = counted_field area ∷ []
reply_fields (Arrived number) = decimal number ∷ []
reply_fields Done = codes "DONE" ∷ []

-- the text of a party's call
abbrev pub call_text : Party → Call → List ℕ
call_text party call = spaced (party_fields party ++ call_fields call)

-- the text of a reply
abbrev pub reply_text : Reply → List ℕ
reply_text reply = spaced (reply_fields reply)

-- these bytes are the text of this party's call, whose parts are in their ranges
pub record IsCallText (party : Party) (call : Call) (bytes : List ℕ) : Type 0 where
  pub caller : IsCallOf party call
  pub ranges : IsWellFormed call
  pub spelled : bytes ≡ call_text party call

-- these bytes are the line of this entry, which has a text: its call's text, ` = `, its reply's
pub record IsLine (entry : Entry) (bytes : List ℕ) : Type 0 where
  pub has_text : HasText entry
  pub spelled : bytes ≡ (call_text entry.party entry.call ++ codes " = ") ++ reply_text entry.reply
