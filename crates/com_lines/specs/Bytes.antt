-- What single bytes of a terminal's input are, by its framing.
use Rattle.std.specs.Prelude.{ℕ, Bool, false, ◌||◌, ◌==◌, not, List, [], ◌∷◌, if◌then◌else◌}
use Rattle.std.specs.List.{list_all}
use Rattle.com_msg.specs.declared.framing.Framing.{Framing}
use Rattle.com_msg.specs.declared.framing.Framing.TheVariants.{Marks, Lines}

-- ESI stands between the segments of a message
abbrev pub is_between : Framing → ℕ → Bool
is_between Marks byte = byte == 0x17
is_between Lines byte = false

-- the ending bytes: EMI and EGI, or LF
abbrev pub is_ending : Framing → ℕ → Bool
is_ending Marks byte = (byte == 3) || (byte == 4)
is_ending Lines byte = byte == 10

abbrev pub is_inside : Framing → ℕ → Bool
is_inside framing byte = not (is_ending framing byte)

-- what stands beside an ending byte and belongs to no message: LF, or CR
abbrev pub is_skipped : Framing → ℕ → Bool
is_skipped Marks byte = byte == 10
is_skipped Lines byte = byte == 13

abbrev pub is_kept : Framing → ℕ → Bool
is_kept framing byte = not (is_skipped framing byte)

-- the last byte, or 0 if there is none yet
abbrev pub last_of : List ℕ → ℕ
last_of [] = 0
last_of (byte ∷ []) = byte
last_of (byte ∷ next ∷ bytes) = last_of (next ∷ bytes)

-- the longest end of the bytes all of which pass a test, and what stands before it
abbrev pub run : (ℕ → Bool) → List ℕ → List ℕ
run test [] = []
run test (byte ∷ bytes) =
    if list_all test (byte ∷ bytes) then byte ∷ bytes else run test bytes

abbrev pub before_run : (ℕ → Bool) → List ℕ → List ℕ
before_run test [] = []
before_run test (byte ∷ bytes) =
    if list_all test (byte ∷ bytes) then [] else byte ∷ before_run test bytes

-- what comes after the last ending byte: all, where there is none
abbrev pub tail_of : Framing → List ℕ → List ℕ
tail_of framing bytes = run (is_inside framing) bytes

-- the bytes up to and with the last ending byte
abbrev pub ended : Framing → List ℕ → List ℕ
ended framing bytes = before_run (is_inside framing) bytes
