-- What the values of a table without a fault are.
use Rattle.std.specs.Prelude.{ℕ, Bool, true, not, ◌&&◌, ◌||◌, ◌==◌, nat_le, List, length, if◌then◌else◌}
use Rattle.std.specs.List.{list_all}
use Rattle.com_text.specs.Name.{is_name}
use Rattle.com_text.specs.declared.name_path.TheConstants.{MAX_NAMES}
use Rattle.com_net.specs.declared.keys.Key.{Key}
use Rattle.com_net.specs.declared.keys.Key.TheVariants as key
use Rattle.com_net.specs.declared.keys.Section.TheVariants as section
use Rattle.toml.specs.Data.{Members}
use Rattle.com_net.specs.Network.{is_password, is_file_name}
use Rattle.com_net.specs.Values.{has, string_at, strings_at}
use Rattle.com_net.specs.Places.{Place}

-- one to four names
abbrev pub is_name_path : List (List ℕ) → Bool
is_name_path names =
    (nat_le 1 (length names) && nat_le (length names) MAX_NAMES) && list_all is_name names

-- where a table has the first key, its strings at the second are a path
abbrev pub has_path : Key → Key → Members → Bool
has_path first wanted content =
    not (has first content) || is_name_path (strings_at wanted content)

-- where a table has a file of input, it has a name
abbrev pub has_input_name : Members → Bool
has_input_name content =
    not (has key.Input content) || is_file_name (string_at key.Input content)

-- names, paths and file names of a table are such
abbrev pub has_names : Place → Bool
has_names place = elim place.section [
  | section.Top ↦ true
  | section.Terminal ↦
      is_name (string_at key.Name place.table)
      && (has_input_name place.table && has_path key.Input key.Route place.table)
  | section.Queue level ↦ is_name (string_at key.Name place.table)
  | section.Unit ↦
      is_name (string_at key.Name place.table)
      && (is_file_name (string_at key.Source place.table)
      && has_path key.Schedule key.Schedule place.table)
]

-- so is the password, where the table has one
abbrev pub has_password : Place → Bool
has_password place = elim place.section [
  | section.Terminal ↦ is_password (string_at key.Password place.table)
  | section.Queue level ↦
      if level == 1 then is_password (string_at key.Password place.table) else true
  | _ ↦ true
]
