-- The values of a description's tables.
use Rattle.std.specs.Prelude.{ℕ, pos, Bool, true, false, ◌&&◌, ◌||◌, ◌==◌, nat_le, List, [], ◌∷◌, length, Option, Some, None, is_some, option_and_then, unwrap_or, codes, if◌then◌else◌}
use Rattle.std.specs.Str.{bytes_eq}
use Rattle.toml.specs.Data.{Data, string, integer, boolean, array, table, Items, no_items, item, Members, get_member, as_str, as_bool}
use Rattle.com_text.specs.declared.name_path.TheConstants.{MAX_NAMES}
use Rattle.com_net.specs.declared.keys.Key.{Key}
use Rattle.com_net.specs.declared.keys.Key.TheVariants as key
use Rattle.com_net.specs.Keys.{key_text}

-- the value at a key
abbrev pub value_at : Key → Members → Option Data
value_at wanted content = get_member (key_text wanted) content

-- the table has the key, whatever its value is
abbrev pub has : Key → Members → Bool
has wanted content = is_some (value_at wanted content)

-- a string; another value is not a text
abbrev pub text_in : Data → List ℕ
text_in value = unwrap_or (as_str value) []

-- the string at a key
abbrev pub string_at : Key → Members → List ℕ
string_at wanted content = unwrap_or (option_and_then as_str (value_at wanted content)) []

-- the flag at a key, which is true by default
abbrev pub flag_at : Key → Members → Bool
flag_at wanted content = unwrap_or (option_and_then as_bool (value_at wanted content)) true

-- each element is a table
abbrev pub are_tables : Items → Bool
are_tables no_items = true
are_tables (item (table content) items) = are_tables items
are_tables (item _ items) = false

-- the tables among the elements
abbrev pub tables_of : Items → List Members
tables_of no_items = []
tables_of (item (table content) items) = content ∷ tables_of items
tables_of (item _ items) = tables_of items

-- the tables of an array of tables; another value has none
abbrev pub tables_in : Data → List Members
tables_in (array items) = if are_tables items then tables_of items else []
tables_in _ = []

-- the tables at a key
abbrev pub tables_at : Key → Members → List Members
tables_at wanted content = elim (value_at wanted content) [
  | None ↦ []
  | Some value ↦ tables_in value
]

-- each element is a string
abbrev pub are_strings : Items → Bool
are_strings no_items = true
are_strings (item (string text) items) = are_strings items
are_strings (item _ items) = false

-- the strings among the elements
abbrev pub strings_of : Items → List (List ℕ)
strings_of no_items = []
strings_of (item (string text) items) = text ∷ strings_of items
strings_of (item _ items) = strings_of items

-- the strings of an array of strings; another value has none
abbrev pub strings_in : Data → List (List ℕ)
strings_in (array items) = if are_strings items then strings_of items else []
strings_in _ = []

-- the strings at a key
abbrev pub strings_at : Key → Members → List (List ℕ)
strings_at wanted content = elim (value_at wanted content) [
  | None ↦ []
  | Some value ↦ strings_in value
]

-- an array of tables
abbrev pub is_table_array : Data → Bool
is_table_array (array items) = are_tables items
is_table_array _ = false

-- one to four strings
abbrev pub are_steps : Items → Bool
are_steps items =
    are_strings items
    && (nat_le 1 (length (strings_of items)) && nat_le (length (strings_of items)) MAX_NAMES)

-- an array of one to four strings
abbrev pub is_path : Data → Bool
is_path (array items) = are_steps items
is_path _ = false

-- one of two words
abbrev pub is_word : List ℕ → List ℕ → Data → Bool
is_word first second (string text) = bytes_eq text first || bytes_eq text second
is_word first second _ = false

abbrev pub is_string : Data → Bool
is_string (string text) = true
is_string _ = false

abbrev pub is_boolean : Data → Bool
is_boolean (boolean value) = true
is_boolean _ = false

-- the integer 1
abbrev pub is_one : Data → Bool
is_one (integer (pos n)) = n == 1
is_one _ = false

-- a value that a key may have
abbrev pub is_of_kind : Key → Data → Bool
is_of_kind key.Version = is_one
is_of_kind key.Terminals = is_table_array
is_of_kind key.Queues = is_table_array
is_of_kind key.Units = is_table_array
is_of_kind key.Name = is_string
is_of_kind key.Password = is_string
is_of_kind key.Input = is_string
is_of_kind key.Framing = is_word (codes "marks") (codes "lines")
is_of_kind key.Route = is_path
is_of_kind key.InputEnabled = is_boolean
is_of_kind key.OutputEnabled = is_boolean
is_of_kind key.Children = is_table_array
is_of_kind key.Choose = is_word (codes "ordered") (codes "oldest")
is_of_kind key.Enabled = is_boolean
is_of_kind key.Source = is_string
is_of_kind key.Schedule = is_path
