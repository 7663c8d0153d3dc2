-- The keys of ENABLE and DISABLE.
use Rattle.std.specs.Prelude.{ℕ, ◌-◌, Bool, ◌==◌, List, length, take}
use Rattle.std.specs.List.{suffix_len}
use Rattle.std.specs.Str.{bytes_eq}

abbrev pub is_space : ℕ → Bool
is_space byte = byte == 32

-- a key without its trailing spaces
abbrev pub trimmed_key : List ℕ → List ℕ
trimmed_key key = take (length key - suffix_len is_space key) key

-- the key is this password
abbrev pub is_key : List ℕ → List ℕ → Bool
is_key key password = bytes_eq (trimmed_key key) password
