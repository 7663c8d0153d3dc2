-- The messages of a terminal's input, and its verdict.
use Rattle.std.specs.Prelude.{ℕ, ◌+◌, ◌<◌, ◌≤◌, ◌≡◌, ◌⊎◌, List, [], ◌∷◌, ◌++◌, length, get_or, take, if◌then◌else◌, Option, Some, None, All}
use Rattle.std.specs.List.{filter, flat_map}
use Rattle.com_text.specs.Text.{IsText}
use Rattle.com_msg.specs.declared.message.End.{End}
use Rattle.com_msg.specs.declared.message.End.TheVariants.{Emi, Egi}
use Rattle.com_msg.specs.declared.message.RawMessage.{RawMessage}
use Rattle.com_msg.specs.declared.framing.Framing.{Framing}
use Rattle.com_msg.specs.declared.framing.Framing.TheVariants.{Marks, Lines}
use Rattle.com_msg.specs.declared.framing.FrameFault.{FrameFault}
use Rattle.com_lines.specs.Bytes.{ended, is_kept}
use Rattle.com_lines.specs.Faults.{kind_at, kind_at_end, is_open}

-- the byte that ends a message
abbrev pub ending_byte : Framing → End → ℕ
ending_byte Marks Emi = 3
ending_byte Marks Egi = 4
ending_byte Lines end = 10

-- segments with ESI between them
abbrev pub joined : List (List ℕ) → List ℕ
joined [] = []
joined (segment ∷ []) = segment
joined (segment ∷ next ∷ segments) = segment ++ 0x17 ∷ joined (next ∷ segments)

-- how a message is spelled: its segments, and the byte that ends it
abbrev pub spelling : Framing → RawMessage → List ℕ
spelling framing message = joined message.segments ++ ending_byte framing message.end ∷ []

-- segments that a message of the framing may have: of lines one alone
abbrev pub HasSegments : Framing → RawMessage → Type 0
HasSegments Marks message = 1 ≤ length message.segments
HasSegments Lines message = (length message.segments ≡ 1) × (message.end ≡ Emi)

-- a message that the framing can spell
pub record IsFramed (framing : Framing) (message : RawMessage) : Type 0 where
  pub segments : HasSegments framing message
  pub texts : All IsText message.segments

-- The messages that end within the bytes: their spellings, joined, are the bytes up to and with the
-- last ending byte, except the LF or CR that are skipped.
pub record AreEnded (framing : Framing) (bytes : List ℕ) (messages : List RawMessage) : Type 0 where
  pub framed : All (IsFramed framing) messages
  pub spelled : flat_map (spelling framing) messages ≡ filter (is_kept framing) (ended framing bytes)

-- no place before this one is at fault
abbrev pub IsClear : Framing → List ℕ → ℕ → Type 0
IsClear framing bytes place =
    (i : ℕ) → i < place → i < length bytes → kind_at framing bytes i ≡ None

-- the first faulty place within the bytes, with its first kind
pub record IsFirstFault (framing : Framing) (bytes : List ℕ) (fault : FrameFault) : Type 0 where
  pub within : fault.at < length bytes
  pub kind : kind_at framing bytes fault.at ≡ Some fault.kind
  pub first : IsClear framing bytes fault.at

-- the length is at fault, and no place within the bytes
pub record IsFaultAtEnd (framing : Framing) (bytes : List ℕ) (fault : FrameFault) : Type 0 where
  pub at_end : fault.at ≡ length bytes
  pub kind : kind_at_end framing bytes ≡ Some fault.kind
  pub clear : IsClear framing bytes (length bytes)

-- no place is at fault, nor is the length
pub record IsSound (framing : Framing) (bytes : List ℕ) : Type 0 where
  pub clear : IsClear framing bytes (length bytes)
  pub sound_end : kind_at_end framing bytes ≡ None

-- the bytes as they end: the end of input ends a line that is not empty, as an LF does
abbrev pub with_end : Framing → List ℕ → List ℕ
with_end Marks bytes = bytes
with_end Lines bytes = if is_open Lines bytes then bytes ++ 10 ∷ [] else bytes

-- the messages of a whole input, and its first fault; none where it is sound
abbrev pub Frames : Framing → List ℕ → List RawMessage → Option FrameFault → Type 0
Frames framing bytes messages None =
    IsSound framing bytes × AreEnded framing (with_end framing bytes) messages
Frames framing bytes messages (Some fault) =
    (IsFirstFault framing bytes fault ⊎ IsFaultAtEnd framing bytes fault)
    × AreEnded framing (take fault.at bytes) messages

-- the messages that end before the first fault within the bytes, or before their end
abbrev pub Finished : Framing → List ℕ → List RawMessage → Type 0
Finished framing bytes messages =
    (IsClear framing bytes (length bytes) × AreEnded framing bytes messages)
    ⊎ ((fault : FrameFault) × IsFirstFault framing bytes fault
    × AreEnded framing (take fault.at bytes) messages)

-- what follows cannot change whether the place is at fault: it is no CR of lines at the end
abbrev pub IsSettled : Framing → List ℕ → ℕ → Type 0
IsSettled Marks bytes place = place < length bytes
IsSettled Lines bytes place =
    (place < length bytes) × (get_or bytes place 0 ≡ 13 → place + 1 < length bytes)

-- a fault that is settled in the bytes
pub record IsSettledFault (framing : Framing) (bytes : List ℕ) (fault : FrameFault) : Type 0 where
  pub first_fault : IsFirstFault framing bytes fault
  pub settled : IsSettled framing bytes fault.at

-- the bytes have a settled fault, and these messages before it
pub record IsStopped (framing : Framing) (bytes : List ℕ) (given : List RawMessage) (fault : FrameFault) : Type 0 where
  pub settled : IsSettledFault framing bytes fault
  pub ended : AreEnded framing (take fault.at bytes) given

-- a message as it is written: its spelling and an LF
abbrev pub encoded : RawMessage → List ℕ
encoded message = spelling Marks message ++ 10 ∷ []
