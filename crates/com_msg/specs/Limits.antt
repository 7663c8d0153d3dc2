-- The limits of a message from a terminal.
use Rattle.std.specs.Prelude.{◌≤◌, length, All}
use Rattle.std.specs.List.{concat}
use Rattle.com_msg.specs.declared.message.RawMessage.{RawMessage}
use Rattle.com_msg.specs.declared.message.TheConstants.{MAX_SEGMENTS, MAX_SEGMENT_LENGTH, MAX_MESSAGE_LENGTH}

-- one segment or more, and within the limits of their number, of each one's characters, and of the
-- characters of all of them
pub record IsWithinLimits (message : RawMessage) : Type 0 where
  pub not_empty : 1 ≤ length message.segments
  pub few : length message.segments ≤ MAX_SEGMENTS
  pub short : All (λ segment. length segment ≤ MAX_SEGMENT_LENGTH) message.segments
  pub characters : length (concat message.segments) ≤ MAX_MESSAGE_LENGTH
