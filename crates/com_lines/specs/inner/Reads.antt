-- What a reader of a terminal's input has before it, when it has read some bytes of it.
use Rattle.std.specs.Prelude.{ℕ, ◌+◌, ◌≡◌, List, [], ◌∷◌, ◌++◌, length, None, All}
use Rattle.std.specs.List.{filter, count_by, concat}
use Rattle.com_text.specs.Text.{IsText, is_text_byte}
use Rattle.com_msg.specs.declared.message.RawMessage.{RawMessage}
use Rattle.com_msg.specs.declared.framing.Framing.{Framing}
use Rattle.com_msg.specs.declared.framing.Framing.TheVariants.{Marks, Lines}
use Rattle.com_lines.specs.Bytes.{is_between, is_ending, is_kept, last_of, run, tail_of}
use Rattle.com_lines.specs.Faults.{kind_at}
use Rattle.com_lines.specs.Frames.{AreEnded, IsSettled}

-- no settled place is at fault
abbrev pub IsClearSoFar : Framing → List ℕ → Type 0
IsClearSoFar framing bytes = (i : ℕ) → IsSettled framing bytes i → kind_at framing bytes i ≡ None

-- the last byte is a CR of lines, of which the next byte decides
abbrev pub HoldsReturn : Framing → List ℕ → Type 0
HoldsReturn Marks bytes = ⊥
HoldsReturn Lines bytes = last_of bytes ≡ 13

-- segments that have ended, each with its ESI, and then a text
abbrev pub opened : List (List ℕ) → List ℕ → List ℕ
opened [] text = text
opened (segment ∷ segments) text = segment ++ 0x17 ∷ opened segments text

-- a message of lines has no segments before its last
abbrev pub MayStand : Framing → List (List ℕ) → Type 0
MayStand Marks segments = Unit {0}
MayStand Lines segments = segments ≡ []

-- The bytes are free of settled faults, and are these messages, and of the next one these segments
-- and then this text.
pub record Reads (framing : Framing) (bytes : List ℕ) (given : List RawMessage) (segments : List (List ℕ)) (text : List ℕ) : Type 0 where
  pub clear : IsClearSoFar framing bytes
  pub ended : AreEnded framing bytes given
  pub endings : count_by (is_ending framing) bytes ≡ length given
  pub left : opened segments text ≡ filter (is_kept framing) (tail_of framing bytes)
  pub texts : All IsText segments
  pub is_text : IsText text
  pub alone : MayStand framing segments
  pub characters : count_by is_text_byte (tail_of framing bytes) ≡ length (concat segments) + length text
  pub betweens : count_by (is_between framing) (tail_of framing bytes) ≡ length segments
  pub in_run : ¬ HoldsReturn framing bytes → length (run is_text_byte bytes) ≡ length text
