-- Names of queues, terminals and units, the fields of 12 characters that hold them, and paths of
-- names.
use Rattle.std.specs.Prelude.{ℕ, ◌-◌, Bool, IsTrue, not, ◌&&◌, ◌||◌, ◌==◌, nat_le, List, [], ◌∷◌, ◌++◌, length, slice_index, replicate}
use Rattle.std.specs.List.{list_all, list_any, take_while}

abbrev pub is_letter : ℕ → Bool
is_letter byte = nat_le 65 byte && nat_le byte 90

abbrev pub is_digit : ℕ → Bool
is_digit byte = nat_le 48 byte && nat_le byte 57

abbrev pub is_hyphen : ℕ → Bool
is_hyphen byte = byte == 45

abbrev pub is_name_byte : ℕ → Bool
is_name_byte byte = (is_letter byte || is_digit byte) || is_hyphen byte

-- one to 12 letters, digits and hyphens, with a letter, and no hyphen at either end
abbrev pub is_name : List ℕ → Bool
is_name bytes =
    ((((nat_le 1 (length bytes) && nat_le (length bytes) 12) && list_all is_name_byte bytes)
    && list_any is_letter bytes) && not (is_hyphen (slice_index bytes 0)))
    && not (is_hyphen (slice_index bytes (length bytes - 1)))

abbrev pub IsName : List ℕ → Type 0
IsName bytes = IsTrue (is_name bytes)

abbrev pub spaces : ℕ → List ℕ
spaces n = replicate n 32

-- the field of a name: the name, followed by spaces up to 12 characters
abbrev pub field_of : List ℕ → List ℕ
field_of name = name ++ spaces (12 - length name)

-- no space
abbrev pub is_character : ℕ → Bool
is_character byte = not (byte == 32)

-- what stands before the first space
abbrev pub before_space : List ℕ → List ℕ
before_space field = take_while is_character field

-- the names of a path, and then its first name again up to four
abbrev pub filled_path : List (List ℕ) → List (List ℕ)
filled_path [] = []
filled_path (first ∷ rest) = first ∷ rest ++ replicate (3 - length rest) first
