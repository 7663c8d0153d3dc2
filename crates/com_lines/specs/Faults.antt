-- Which places of a terminal's input are at fault, and of which kind.
use Rattle.std.specs.Prelude.{ℕ, ◌+◌, ◌-◌, Bool, false, ◌&&◌, ◌||◌, ◌==◌, not, nat_le, List, length, get_or, take, drop, if◌then◌else◌, Option, Some, None}
use Rattle.std.specs.List.{count_by, filter}
use Rattle.com_text.specs.Text.{is_text_byte}
use Rattle.com_msg.specs.declared.framing.Framing.{Framing}
use Rattle.com_msg.specs.declared.framing.Framing.TheVariants.{Marks, Lines}
use Rattle.com_msg.specs.declared.framing.FrameKind.{FrameKind}
use Rattle.com_msg.specs.declared.framing.FrameKind.TheVariants.{BadByte, LongSegment, LongMessage, TooMany, Truncated}
use Rattle.com_msg.specs.declared.message.TheConstants.{MAX_SEGMENTS, MAX_SEGMENT_LENGTH, MAX_MESSAGE_LENGTH}
use Rattle.com_lines.specs.declared.reading.TheConstants.{MAX_MESSAGES}
use Rattle.com_lines.specs.Bytes.{is_between, is_ending, is_skipped, is_kept, last_of, run, tail_of}

-- An LF of marks is directly after an ending byte, a CR of lines directly before an LF.
abbrev pub is_beside_end : Framing → ℕ → ℕ → Bool
is_beside_end Marks last next = is_ending Marks last
is_beside_end Lines last next = next == 10

-- a byte that the framing has somewhere
abbrev pub is_known : Framing → ℕ → Bool
is_known framing byte =
    is_text_byte byte || (is_ending framing byte || (is_between framing byte || is_skipped framing byte))

-- BadByte: the framing has no such byte, or an LF or a CR is not beside an end
abbrev pub is_bad_byte : Framing → ℕ → ℕ → ℕ → Bool
is_bad_byte framing last byte next =
    not (is_known framing byte) || (is_skipped framing byte && not (is_beside_end framing last next))

-- LongSegment: a character directly after as many characters as a segment may have, or more
abbrev pub is_long_segment : ℕ → ℕ → Bool
is_long_segment run_length byte = is_text_byte byte && nat_le MAX_SEGMENT_LENGTH run_length

-- LongMessage: a character after as many in its message as a message may have, or an ESI after as
-- many of them as stand between the segments that a message may have
abbrev pub is_long_message : Framing → ℕ → ℕ → ℕ → Bool
is_long_message Marks characters betweens byte =
    (is_text_byte byte && nat_le MAX_MESSAGE_LENGTH characters)
    || (is_between Marks byte && nat_le (MAX_SEGMENTS - 1) betweens)
is_long_message Lines characters betweens byte = false

-- TooMany: an ending byte after as many of them as messages that an input may have
abbrev pub is_too_many : Framing → ℕ → ℕ → Bool
is_too_many framing endings byte = is_ending framing byte && nat_le MAX_MESSAGES endings

-- what is wrong with a byte, by the bytes before and after it: the first kind in this order
abbrev pub kind_of : Framing → List ℕ → ℕ → List ℕ → Option FrameKind
kind_of framing before byte after =
    if is_bad_byte framing (last_of before) byte (get_or after 0 0) then Some BadByte
    else if is_long_segment (length (run is_text_byte before)) byte then Some LongSegment
    else if is_long_message framing (count_by is_text_byte (tail_of framing before)) (count_by (is_between framing) (tail_of framing before)) byte then Some LongMessage
    else if is_too_many framing (count_by (is_ending framing) before) byte then Some TooMany
    else None

-- what is wrong at a place within the bytes
abbrev pub kind_at : Framing → List ℕ → ℕ → Option FrameKind
kind_at framing bytes place =
    kind_of framing (take place bytes) (get_or bytes place 0) (drop (place + 1) bytes)

-- whether bytes are left of a message that has not ended
abbrev pub is_open : Framing → List ℕ → Bool
is_open framing bytes = not (length (filter (is_kept framing) (tail_of framing bytes)) == 0)

-- What is wrong with the end of the bytes, where no place is at fault: Truncated for marks where
-- a message has not ended, TooMany for lines where one more line would end.
abbrev pub kind_at_end : Framing → List ℕ → Option FrameKind
kind_at_end Marks bytes = if is_open Marks bytes then Some Truncated else None
kind_at_end Lines bytes =
    if is_open Lines bytes && nat_le MAX_MESSAGES (count_by (is_ending Lines) bytes) then Some TooMany
    else None
