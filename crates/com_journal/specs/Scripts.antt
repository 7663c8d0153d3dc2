-- A script: a header, and a call's text on each line.
use Rattle.std.specs.Prelude.{◌≡◌, ℕ, Bool, ◌==◌, List, [], ◌∷◌, if◌then◌else◌, codes}
use Rattle.com_events.specs.declared.call.Party.{Party}
use Rattle.com_events.specs.declared.call.Call.{Call}
use Rattle.com_journal.specs.Lines.{IsCallText}

abbrev pub is_line_feed : ℕ → Bool
is_line_feed byte = byte == 10

-- a character before the first line
abbrev pub onto_first : ℕ → List (List ℕ) → List (List ℕ)
onto_first byte [] = (byte ∷ []) ∷ []
onto_first byte (line ∷ lines) = (byte ∷ line) ∷ lines

-- the lines of a text; the last may lack its line feed
abbrev pub lines_of : List ℕ → List (List ℕ)
lines_of [] = []
lines_of (byte ∷ bytes) =
    if is_line_feed byte then [] ∷ lines_of bytes else onto_first byte (lines_of bytes)

abbrev pub script_header : List ℕ
script_header = codes "MCS-SCRIPT 1"

-- the texts of calls, in order
abbrev pub AreCalls : List (Party × Call) → List (List ℕ) → Type 0
AreCalls [] [] = Unit {0}
AreCalls (call ∷ calls) (line ∷ lines) = IsCallText call.0 call.1 line × AreCalls calls lines
AreCalls [] (line ∷ lines) = ⊥
AreCalls (call ∷ calls) [] = ⊥

-- the script of calls
abbrev pub IsScript : List (Party × Call) → List ℕ → Type 0
IsScript calls bytes =
    (lines : List (List ℕ)) × (lines_of bytes ≡ script_header ∷ lines) × AreCalls calls lines
