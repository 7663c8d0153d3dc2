-- A text: a list of characters of 20 to 7E hexadecimal.
use Rattle.std.specs.Prelude.{ℕ, ◌<◌, Bool, IsTrue, ◌&&◌, nat_le, List, length, slice_index, take}
use Rattle.std.specs.List.{list_all}

abbrev pub is_text_byte : ℕ → Bool
is_text_byte byte = nat_le 0x20 byte && nat_le byte 0x7E

abbrev pub is_text : List ℕ → Bool
is_text bytes = list_all is_text_byte bytes

abbrev pub IsText : List ℕ → Type 0
IsText bytes = IsTrue (is_text bytes)

-- the byte at this place is no text byte, and all before it are
pub record IsFirstBadByte (bytes : List ℕ) (at : ℕ) : Type 0 where
  pub within : at < length bytes
  pub bad : ¬ IsTrue (is_text_byte (slice_index bytes at))
  pub before : IsText (take at bytes)
