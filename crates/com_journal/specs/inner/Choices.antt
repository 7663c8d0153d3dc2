-- What a word of a line chooses, by a table of words.
use Rattle.std.specs.Prelude.{ℕ, Bool, true, false, List, [], ◌∷◌, Option, Some, None, if◌then◌else◌, codes}
use Rattle.std.specs.Str.{bytes_eq}
use Rattle.com_msg.specs.declared.message.End.{End}
use Rattle.com_msg.specs.declared.message.End.TheVariants.{Emi, Egi}
use Rattle.com_msg.specs.declared.rest.Kind.{Kind}
use Rattle.com_msg.specs.declared.rest.Kind.TheVariants.{Message, Segment}
use Rattle.com_msg.specs.declared.framing.FrameKind.{FrameKind}
use Rattle.com_msg.specs.declared.framing.FrameKind.TheVariants.{BadByte, LongSegment, LongMessage, TooMany, Truncated}
use Rattle.com_events.specs.declared.call.StopReason.{StopReason}
use Rattle.com_events.specs.declared.call.StopReason.TheVariants as stop
use Rattle.com_events.specs.declared.call.EndReason.{EndReason}
use Rattle.com_events.specs.declared.call.EndReason.TheVariants as finish

-- the choice that stands beside the word
abbrev pub chosen : {A : Type 0} → List (List ℕ × A) → List ℕ → Option A
chosen [] word = None
chosen (row ∷ rows) word = if bytes_eq word row.0 then Some row.1 else chosen rows word

abbrev pub kinds : List (List ℕ × Kind)
kinds = (codes "MESSAGE", Message) ∷ (codes "SEGMENT", Segment) ∷ []

abbrev pub waits : List (List ℕ × Bool)
waits = (codes "NODATA", true) ∷ (codes "WAIT", false) ∷ []

abbrev pub switches : List (List ℕ × Bool)
switches = (codes "ENABLE", true) ∷ (codes "DISABLE", false) ∷ []

abbrev pub inputs : List (List ℕ × Bool)
inputs = (codes "INPUT", false) ∷ (codes "TERMINAL", true) ∷ []

abbrev pub ends : List (List ℕ × End)
ends = (codes "EMI", Emi) ∷ (codes "EGI", Egi) ∷ []

abbrev pub stops : List (List ℕ × StopReason)
stops =
    (codes "RUN", stop.Run) ∷ (codes "LIMIT", stop.Limit) ∷ (codes "DATA", stop.DataFault)
    ∷ (codes "IDLE", stop.Idle) ∷ []

-- the reasons for the end of a terminal that have no parts
abbrev pub plain_ends : List (List ℕ × EndReason)
plain_ends =
    (codes "END", finish.End) ∷ (codes "FAULT", finish.Fault) ∷ (codes "LONG", finish.Long)
    ∷ (codes "IDLE", finish.Idle) ∷ []

abbrev pub frames : List (List ℕ × FrameKind)
frames =
    (codes "BADBYTE", BadByte) ∷ (codes "LONGSEGMENT", LongSegment)
    ∷ (codes "LONGMESSAGE", LongMessage) ∷ (codes "TOOMANY", TooMany)
    ∷ (codes "TRUNCATED", Truncated) ∷ []

unfoldable pub kind_of : List ℕ → Option Kind
kind_of word = chosen kinds word

unfoldable pub wait_of : List ℕ → Option Bool
wait_of word = chosen waits word

unfoldable pub switch_of : List ℕ → Option Bool
switch_of word = chosen switches word

unfoldable pub input_of : List ℕ → Option Bool
input_of word = chosen inputs word

unfoldable pub end_of : List ℕ → Option End
end_of word = chosen ends word

unfoldable pub stop_of : List ℕ → Option StopReason
stop_of word = chosen stops word

unfoldable pub plain_end_of : List ℕ → Option EndReason
plain_end_of word = chosen plain_ends word

unfoldable pub frame_of : List ℕ → Option FrameKind
frame_of word = chosen frames word
