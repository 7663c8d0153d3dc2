-- What `show` writes: the messages that a file of terminal input has by a framing, and how it ends.
use Rattle.std.specs.Prelude.{◌≡◌, ℕ, ◌+◌, ◌<◌, ◌≤◌, ◌⊎◌, List, [], ◌∷◌, ◌++◌, length, take, Some, None, codes, decimal}
use Rattle.std.specs.List.{flat_map}
use Rattle.com_text.specs.Counted.{counted_field}
use Rattle.com_msg.specs.declared.message.RawMessage.{RawMessage}
use Rattle.com_msg.specs.declared.framing.Framing.{Framing}
use Rattle.com_msg.specs.declared.framing.FrameFault.{FrameFault}
use Rattle.com_lines.specs.Frames.{Frames, Finished, IsSettledFault, IsStopped}
use Rattle.com_journal.specs.Words.{end_word, frame_word}
use Rattle.com_io.specs.Files.{file_limit}
use Rattle.mcs_top.specs.declared.show.Ending.{Ending}
use Rattle.mcs_top.specs.declared.show.Ending.TheVariants.{End, Fault, Long}

-- The messages of an input, and how it ends. Of an input over the limit no more is looked at than
-- the limit says: it ends with a fault that is settled there, and otherwise as too long.
abbrev pub EndsSo : Framing → List ℕ → List RawMessage → Ending → Type 0
EndsSo framing bytes messages End =
    (length bytes ≤ file_limit) × Frames framing bytes messages None
EndsSo framing bytes messages (Fault fault) =
    ((length bytes ≤ file_limit) × Frames framing bytes messages (Some fault))
    ⊎ ((file_limit < length bytes) × IsStopped framing (take file_limit bytes) messages fault)
EndsSo framing bytes messages Long =
    (file_limit < length bytes)
    × ((fault : FrameFault) → IsSettledFault framing (take file_limit bytes) fault → ⊥)
    × Finished framing (take file_limit bytes) messages

-- counted fields, each behind a space
abbrev pub segment_fields : List (List ℕ) → List ℕ
segment_fields segments = flat_map (λ segment. 32 ∷ counted_field segment) segments

-- a message's number, its end, and how many segments it has
abbrev pub message_heading : ℕ → RawMessage → List ℕ
message_heading number message =
    decimal number ++ (32 ∷ end_word message.end ++ (32 ∷ decimal (length message.segments)))

-- a message's line: its heading and each of its segments
abbrev pub message_line : ℕ → RawMessage → List ℕ
message_line number message =
    message_heading number message ++ (segment_fields message.segments ++ codes "\n")

-- the lines of messages, of which the first has this number
abbrev pub message_lines : ℕ → List RawMessage → List ℕ
message_lines number [] = []
message_lines number (message ∷ messages) =
    message_line number message ++ message_lines (number + 1) messages

-- the last line
abbrev pub ending_line : Ending → List ℕ
ending_line End = codes "end\n"
ending_line (Fault fault) =
    codes "fault " ++ (frame_word fault.kind ++ (32 ∷ decimal fault.at ++ codes "\n"))
ending_line Long = codes "fault LONG " ++ (decimal file_limit ++ codes "\n")

-- The text that shows an input, which ends so.
pub record IsShowOf (framing : Framing) (bytes : List ℕ) (ending : Ending)
    (text : List ℕ) : Type 0 where
  pub messages : List RawMessage
  pub ends : EndsSo framing bytes messages ending
  pub is_text : text ≡ message_lines 1 messages ++ ending_line ending
