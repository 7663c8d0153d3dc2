-- What a reading keeps of the bytes that it has had and the messages that it has given.
use Rattle.std.specs.Prelude.{ℕ, ◌+◌, ◌*◌, ◌<◌, ◌≤◌, ◌≡◌, Bool, not, false, ◌==◌, List, [], ◌∷◌, ◌++◌, length, if◌then◌else◌, Option, Some, None, option_to_list, true}
use Rattle.std.specs.List.{concat}
use Rattle.com_text.specs.Text.{IsText}
use Rattle.com_msg.specs.declared.message.End.{End}
use Rattle.com_msg.specs.declared.message.End.TheVariants.{Emi, Egi}
use Rattle.com_msg.specs.declared.message.RawMessage.{RawMessage}
use Rattle.com_msg.specs.declared.framing.Framing.{Framing}
use Rattle.com_msg.specs.declared.framing.Framing.TheVariants.{Marks, Lines}
use Rattle.com_msg.specs.declared.framing.FrameFault.{FrameFault}
use Rattle.com_msg.specs.declared.framing.FrameKind.{FrameKind}
use Rattle.com_msg.specs.declared.framing.FrameKind.TheVariants.{BadByte, LongSegment, LongMessage, TooMany}
use Rattle.com_msg.specs.declared.message.TheConstants.{MAX_SEGMENTS, MAX_SEGMENT_LENGTH, MAX_MESSAGE_LENGTH}
use Rattle.com_lines.specs.declared.reading.Reading.{Reading}
use Rattle.com_lines.specs.declared.reading.TheConstants.{MAX_MESSAGES}
use Rattle.com_lines.specs.Bytes.{is_ending, last_of}
use Rattle.com_lines.specs.Faults.{is_bad_byte, is_long_message, is_long_segment, is_too_many}
use Rattle.com_lines.specs.Frames.{Frames, IsStopped}
use Rattle.com_lines.specs.inner.Reads.{MayStand, Reads, opened}

-- the message that has not ended has these segments and this text, and the numbers are those of the
-- bytes and the messages
pub record HasRead (reading : Reading) (bytes : List ℕ) (given : List RawMessage) : Type 0 where
  pub reads : Reads reading.framing bytes given reading.segments reading.text
  pub at : reading.at ≡ length bytes
  pub last : reading.last ≡ last_of bytes
  pub messages : reading.given ≡ length given

-- one for a byte that is skipped, in what bounds the number of bytes by that of messages
abbrev pub skips : Framing → ℕ → ℕ
skips Marks last = if is_ending Marks last then 0 else 1
skips Lines last = if last == 13 then 1 else 0

-- whether the last byte is a CR of lines
abbrev pub is_return : Framing → ℕ → Bool
is_return Marks last = false
is_return Lines last = last == 13

abbrev pub holds_return : Reading → Bool
holds_return reading = is_return reading.framing reading.last

-- within the limits, whatever the bytes were
pub record IsSafe (reading : Reading) : Type 0 where
  pub messages : reading.given ≤ MAX_MESSAGES
  pub counted : reading.characters ≡ length (concat reading.segments) + length reading.text
  pub characters : reading.characters ≤ MAX_MESSAGE_LENGTH
  pub short : length reading.text ≤ MAX_SEGMENT_LENGTH
  pub few : length reading.segments < MAX_SEGMENTS
  pub is_text : IsText reading.text
  pub alone : MayStand reading.framing reading.segments
  pub held : holds_return reading ≡ true → 1 ≤ reading.at
  pub at : reading.at ≤ 20000 * reading.given + reading.characters + length reading.segments + skips reading.framing reading.last

-- what is wrong with a byte that comes next, where a CR of lines is taken to stand before an LF
abbrev pub next_kind : Reading → ℕ → Option FrameKind
next_kind reading byte =
    if is_bad_byte reading.framing reading.last byte 10 then Some BadByte
    else if is_long_segment (length reading.text) byte then Some LongSegment
    else if is_long_message reading.framing reading.characters (length reading.segments) byte then Some LongMessage
    else if is_too_many reading.framing reading.given byte then Some TooMany
    else None

-- one reading after another: one more byte was read, and maybe a message given
abbrev pub IsNext : Reading → ℕ → Option RawMessage → Reading → Type 0
IsNext old byte message new = (bytes : List ℕ) (given : List RawMessage) → HasRead old bytes given
    → HasRead new (bytes ++ byte ∷ []) (given ++ option_to_list message)

-- the bytes with one more are at fault, and before the fault are these messages
abbrev pub IsStop : Reading → ℕ → FrameFault → Type 0
IsStop reading byte fault = (bytes : List ℕ) (given : List RawMessage) → HasRead reading bytes given
    → IsStopped reading.framing (bytes ++ byte ∷ []) given fault

-- one reading after another: the bytes of a piece were read, and the messages that they end were
-- added
abbrev pub IsContinued : Reading → List ℕ → List RawMessage → Reading → List RawMessage → Type 0
IsContinued old piece before new after = (bytes : List ℕ) (given : List RawMessage) → HasRead old bytes given
    → (added : List RawMessage) × (after ≡ before ++ added) × HasRead new (bytes ++ piece) (given ++ added)

-- the bytes with a piece are at fault, and the messages before the fault were added
abbrev pub IsCutOff : Reading → List ℕ → List RawMessage → List RawMessage → FrameFault → Type 0
IsCutOff old piece before after fault = (bytes : List ℕ) (given : List RawMessage) → HasRead old bytes given
    → (added : List RawMessage) × (after ≡ before ++ added) × IsStopped old.framing (bytes ++ piece) (given ++ added) fault

-- whether bytes of a message were read that has not ended
abbrev pub has_open : Reading → Bool
has_open reading = not (length (opened reading.segments reading.text) == 0)

-- The input may end here: its last byte is no CR of lines, and where a message is open it is a
-- line, and not one too many.
pub record CanEnd (reading : Reading) : Type 0 where
  pub free : holds_return reading ≡ false
  pub open_line : has_open reading ≡ true → (reading.framing ≡ Lines) × (reading.given < MAX_MESSAGES)

-- the bytes are the whole input, it is sound, and the messages that were not given yet were added
abbrev pub IsWhole : Reading → List RawMessage → List RawMessage → Type 0
IsWhole reading before after = (bytes : List ℕ) (given : List RawMessage) → HasRead reading bytes given
    → (added : List RawMessage) × (after ≡ before ++ added) × Frames reading.framing bytes (given ++ added) None

-- the bytes are the whole input, and this is its fault
abbrev pub IsFaulty : Reading → FrameFault → Type 0
IsFaulty reading fault = (bytes : List ℕ) (given : List RawMessage) → HasRead reading bytes given
    → Frames reading.framing bytes given (Some fault)

-- how a byte ends a message, where it does
abbrev pub end_of : Framing → ℕ → Option End
end_of Marks byte = if byte == 3 then Some Emi else if byte == 4 then Some Egi else None
end_of Lines byte = if byte == 10 then Some Emi else None

-- a reading with one more byte, whatever the byte was for
abbrev pub with_byte : ℕ → Reading → Reading
with_byte byte reading = record reading { at = reading.at + 1; last = byte }

-- a reading with one more character of the text
abbrev pub with_character : ℕ → Reading → Reading
with_character byte reading =
    record reading { text = reading.text ++ byte ∷ []; characters = reading.characters + 1 }

-- a reading whose text has ended its segment
abbrev pub with_segment : Reading → Reading
with_segment reading = record reading { segments = reading.segments ++ reading.text ∷ []; text = [] }

-- the message that has been open, and the reading after it
abbrev pub open_message : Reading → End → RawMessage
open_message reading end = record { segments = reading.segments ++ reading.text ∷ []; end = end }

abbrev pub with_message : Reading → Reading
with_message reading =
    record reading { segments = []; text = []; characters = 0; given = reading.given + 1 }
