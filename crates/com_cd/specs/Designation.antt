-- What the names of an input area designate.
use Rattle.std.specs.Prelude.{◌≡◌, ℕ, ◌-◌, ◌*◌, ◌≤◌, List, ◌++◌, length, take, drop}
use Rattle.std.specs.List.{All, flat_map}
use Rattle.com_text.specs.Name.{IsName, field_of, spaces}
use Rattle.com_text.specs.declared.name_path.TheConstants.{MAX_NAMES}

-- how many characters the four name fields have together
abbrev pub names_length : ℕ
names_length = 48

-- the name fields of a path: its names, and spaces in the levels below them
abbrev pub path_fields : List (List ℕ) → List ℕ
path_fields names = flat_map field_of names ++ spaces (names_length - 12 * length names)

-- the area with the names of a path, and all other characters as before
abbrev pub with_path : List (List ℕ) → List ℕ → List ℕ
with_path path area = path_fields path ++ drop names_length area

-- the area names this path: one to four names, and spaces in the levels below them
pub record Designates (area : List ℕ) (path : List (List ℕ)) : Type 0 where
  pub some : 1 ≤ length path
  pub few : length path ≤ MAX_NAMES
  pub names : All IsName path
  pub fields : take names_length area ≡ path_fields path
