-- Sorts of characters of a source, by their codes.
use Rattle.std.specs.Prelude.{ℕ, ◌-◌, Bool, true, not, ◌&&◌, ◌||◌, ◌==◌, if◌then◌else◌, List, [], ◌∷◌, length, slice_index, take}
use Rattle.com_text.specs.Name.{is_letter, is_digit, is_hyphen}
use Rattle.com_text.specs.Text.{is_text_byte}

-- a character of words and numbers
abbrev pub is_word_byte : ℕ → Bool
is_word_byte byte = (is_letter byte || is_digit byte) || is_hyphen byte

abbrev pub is_space : ℕ → Bool
is_space byte = byte == 0x20

abbrev pub is_no_space : ℕ → Bool
is_no_space byte = not (is_space byte)

abbrev pub is_quote : ℕ → Bool
is_quote byte = byte == 0x22

abbrev pub is_line_feed : ℕ → Bool
is_line_feed byte = byte == 0x0A

abbrev pub is_return : ℕ → Bool
is_return byte = byte == 0x0D

abbrev pub is_period : ℕ → Bool
is_period byte = byte == 0x2E

-- a comma or a semicolon
abbrev pub is_comma : ℕ → Bool
is_comma byte = (byte == 0x2C) || (byte == 0x3B)

abbrev pub is_separator : ℕ → Bool
is_separator byte = is_period byte || is_comma byte

-- no character of 20 to 7E
abbrev pub is_no_text_byte : ℕ → Bool
is_no_text_byte byte = not (is_text_byte byte)

-- a space or the end of the line comes next
abbrev pub space_next : List ℕ → Bool
space_next [] = true
space_next (byte ∷ rest) = is_space byte

-- a byte, with the rest after it, that only stands between tokens: a space, or a comma or a
-- semicolon before a space or the end of the line
abbrev pub is_spacing : ℕ → List ℕ → Bool
is_spacing byte rest = is_space byte || (is_comma byte && space_next rest)

-- the bytes without the last one, where that passes a test
abbrev pub without_last : (ℕ → Bool) → List ℕ → List ℕ
without_last test bytes =
    if test (slice_index bytes (length bytes - 1)) then take (length bytes - 1) bytes else bytes
