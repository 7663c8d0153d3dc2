-- The words of a line, each for one choice.
use Rattle.std.specs.Prelude.{ℕ, Bool, true, false, List, codes}
use Rattle.com_msg.specs.declared.message.End.{End}
use Rattle.com_msg.specs.declared.message.End.TheVariants.{Emi, Egi}
use Rattle.com_msg.specs.declared.rest.Kind.{Kind}
use Rattle.com_msg.specs.declared.rest.Kind.TheVariants.{Message, Segment}
use Rattle.com_msg.specs.declared.framing.FrameKind.{FrameKind}
use Rattle.com_msg.specs.declared.framing.FrameKind.TheVariants.{BadByte, LongSegment, LongMessage, TooMany, Truncated}
use Rattle.com_events.specs.declared.call.StopReason.{StopReason}
use Rattle.com_events.specs.declared.call.StopReason.TheVariants as stop

-- what RECEIVE asks for
abbrev pub kind_word : Kind → List ℕ
kind_word Message = codes "MESSAGE"
kind_word Segment = codes "SEGMENT"

-- whether RECEIVE has NO DATA
abbrev pub wait_word : Bool → List ℕ
wait_word true = codes "NODATA"
wait_word false = codes "WAIT"

-- ENABLE or DISABLE
abbrev pub switch_word : Bool → List ℕ
switch_word true = codes "ENABLE"
switch_word false = codes "DISABLE"

-- INPUT with TERMINAL or without
abbrev pub input_word : Bool → List ℕ
input_word true = codes "TERMINAL"
input_word false = codes "INPUT"

-- how a message ends
abbrev pub end_word : End → List ℕ
end_word Emi = codes "EMI"
end_word Egi = codes "EGI"

-- why a unit stops
abbrev pub stop_word : StopReason → List ℕ
stop_word stop.Run = codes "RUN"
stop_word stop.Limit = codes "LIMIT"
stop_word stop.DataFault = codes "DATA"
stop_word stop.Idle = codes "IDLE"

-- what is wrong with a terminal's input
abbrev pub frame_word : FrameKind → List ℕ
frame_word BadByte = codes "BADBYTE"
frame_word LongSegment = codes "LONGSEGMENT"
frame_word LongMessage = codes "LONGMESSAGE"
frame_word TooMany = codes "TOOMANY"
frame_word Truncated = codes "TRUNCATED"
