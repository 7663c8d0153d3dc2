-- What a network holds: the limits, and that names and places are of this network.
use Rattle.std.specs.Prelude.{◌≡◌, ℕ, ◌<◌, ◌≤◌, ◌-◌, Bool, true, not, ◌&&◌, ◌||◌, ◌==◌, nat_le, List, [], ◌∷◌, map, length, slice_index, IsTrue, IfSome}
use Rattle.std.specs.List.{list_all, list_any, AllByRecursion}
use Rattle.std.specs.Str.{bytes_eq}
use Rattle.com_text.specs.Text.{is_text}
use Rattle.com_text.specs.Name.{is_name, is_letter, is_digit}
use Rattle.com_tree.specs.declared.tree.TreeRow.{TreeRow}
use Rattle.com_tree.specs.Written.{IsWritten, leaf_count, top_count, has_name}
use Rattle.com_net.specs.declared.net.Terminal.{Terminal}
use Rattle.com_net.specs.declared.net.UnitRow.{UnitRow}
use Rattle.com_net.specs.declared.net.Net.{Net}
use Rattle.com_net.specs.declared.net.TheConstants.{MAX_PASSWORD_LENGTH, MAX_TERMINALS, MAX_UNITS}

-- characters of a text, at least one and at most as many as a password has, the last no space
abbrev pub is_password : List ℕ → Bool
is_password text =
    ((nat_le 1 (length text) && nat_le (length text) MAX_PASSWORD_LENGTH) && is_text text)
    && not (slice_index text (length text - 1) == 32)

-- a to z
abbrev pub is_small_letter : ℕ → Bool
is_small_letter byte = nat_le 97 byte && nat_le byte 122

-- letters, digits, periods, hyphens and underscores
abbrev pub is_file_name_byte : ℕ → Bool
is_file_name_byte byte =
    (((is_letter byte || is_small_letter byte) || is_digit byte) || byte == 46)
    || (byte == 45 || byte == 95)

-- one to 64 such characters, the first no period
abbrev pub is_file_name : List ℕ → Bool
is_file_name name =
    ((nat_le 1 (length name) && nat_le (length name) 64) && list_all is_file_name_byte name)
    && not (slice_index name 0 == 46)

-- no two of these names are the same
abbrev pub are_distinct : List (List ℕ) → Bool
are_distinct [] = true
are_distinct (name ∷ names) = not (list_any (bytes_eq name) names) && are_distinct names

-- in the order of the terminals
abbrev pub names_of_terminals : List Terminal → List (List ℕ)
names_of_terminals terminals = map (λ terminal. terminal.name) terminals

-- in the order of the units
abbrev pub names_of_units : List UnitRow → List (List ℕ)
names_of_units units = map (λ unit. unit.name) units

-- no tree has this name
abbrev pub is_no_top : List TreeRow → List ℕ → Bool
is_no_top tree name = not (list_any (has_name 1 name) tree)

-- where the terminal has a feed, its messages come from a file, and wait on a leaf of this tree
abbrev pub IsFedOf : List TreeRow → Terminal → Type 0
IsFedOf tree terminal = IfSome terminal.feed
    (λ feed. IsTrue (is_file_name feed.file) × (feed.leaf.number < leaf_count tree))

-- where the unit has a schedule, it is a node of this tree
abbrev pub IsScheduledOf : List TreeRow → UnitRow → Type 0
IsScheduledOf tree unit = IfSome unit.schedule (λ node. node.row < length tree)

-- what every network holds
pub record IsNet (net : Net) : Type 0 where
  pub trees : IsWritten net.tree
  pub terminal_names : IsTrue (list_all is_name (names_of_terminals net.terminals))
  pub unit_names : IsTrue (list_all is_name (names_of_units net.units))
  pub some_terminal : 1 ≤ length net.terminals
  pub few_terminals : length net.terminals ≤ MAX_TERMINALS
  pub some_unit : 1 ≤ length net.units
  pub few_units : length net.units ≤ MAX_UNITS
  pub terminals_distinct : IsTrue (are_distinct (names_of_terminals net.terminals))
  pub units_distinct : IsTrue (are_distinct (names_of_units net.units))
  pub apart : IsTrue (list_all (is_no_top net.tree) (names_of_terminals net.terminals))
  pub sources : IsTrue (list_all (λ unit. is_file_name unit.source) net.units)
  pub terminal_passwords : IsTrue
      (list_all (λ terminal. is_password terminal.password) net.terminals)
  pub passwords : length net.queue_passwords ≡ top_count net.tree
  pub queue_passwords : IsTrue (list_all is_password net.queue_passwords)
  pub flags : length net.leaf_on ≡ leaf_count net.tree
  pub feeds : AllByRecursion (IsFedOf net.tree) net.terminals
  pub schedules : AllByRecursion (IsScheduledOf net.tree) net.units
