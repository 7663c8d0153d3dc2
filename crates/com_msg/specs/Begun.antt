-- What is begun of a message to a terminal: text that is added, segments and messages that end.
use Rattle.std.specs.Prelude.{ℕ, List, [], ◌∷◌, ◌++◌}
use Rattle.com_msg.specs.declared.message.End.{End}
use Rattle.com_msg.specs.declared.sending.Advance.{Advance}
use Rattle.com_msg.specs.declared.sending.OutMessage.{OutMessage}
use Rattle.com_msg.specs.declared.sending.OutSegment.{OutSegment}

-- the segments that have ended, and the text after them
pub record Begun : Type 0 where
  pub segments : List OutSegment
  pub text : List ℕ

-- What is begun, and how many more characters and segments there is room for. Only `Begun` is the
-- message; the two numbers say which calls cannot want memory.
pub record OpenMessage : Type 0 where
  pub begun : Begun
  pub spare_bytes : ℕ
  pub spare_segments : ℕ

-- no segment and no text
abbrev pub nothing_begun : Begun
nothing_begun = record { segments = []; text = [] }

-- characters after the text so far
abbrev pub with_text : List ℕ → Begun → Begun
with_text text begun = record begun { text = begun.text ++ text }

-- the text so far is a segment with this advance; where there is no text it is an empty one
abbrev pub ended : Advance → Begun → Begun
ended advance begun = record {
  segments = begun.segments ++ record { text = begun.text; advance = advance } ∷ [];
  text = [];
}

-- the segments as a message, the text so far being the last of them
abbrev pub finished : Advance → End → Begun → OutMessage
finished advance end begun = record { segments = (ended advance begun).segments; end = end }
