-- The faults of a table by itself: keys, kinds, names and passwords.
use Rattle.std.specs.Prelude.{ℕ, ◌+◌, Bool, true, false, not, ◌&&◌, List, [], ◌∷◌, ◌++◌, map, Option, Some, None, option_map, option_and_then, decimal, if◌then◌else◌}
use Rattle.std.specs.Option.{option_or}
use Rattle.std.specs.List.{find, list_any}
use Rattle.std.specs.Str.{bytes_eq}
use Rattle.toml.specs.Data.{Data, string, Members, no_members, member}
use Rattle.com_text.specs.Text.{is_text_byte}
use Rattle.com_text.specs.Name.{is_name}
use Rattle.com_net.specs.declared.keys.Key.{Key}
use Rattle.com_net.specs.declared.keys.Key.TheVariants as key
use Rattle.com_net.specs.Network.{is_password, is_file_name}
use Rattle.com_net.specs.Keys.{key_text, keys_of}
use Rattle.com_net.specs.Values.{value_at, has, is_of_kind, strings_in}
use Rattle.com_net.specs.Places.{Place, key_path, below}

-- a terminal with input has framing and a route, a queue with queues below it chooses among them
-- and has no flag
abbrev pub is_allowed : Members → Key → Bool
is_allowed content key.Framing = has key.Input content
is_allowed content key.Route = has key.Input content
is_allowed content key.Choose = has key.Children content
is_allowed content key.Enabled = not (has key.Children content)
is_allowed content _ = true

-- these are needed wherever they may stand
abbrev pub is_needed_key : Key → Bool
is_needed_key key.InputEnabled = false
is_needed_key key.OutputEnabled = false
is_needed_key key.Input = false
is_needed_key key.Children = false
is_needed_key key.Enabled = false
is_needed_key key.Schedule = false
is_needed_key _ = true

-- needed here, and absent
abbrev pub is_missing : Members → Key → Bool
is_missing content wanted =
    (is_needed_key wanted && is_allowed content wanted) && not (has wanted content)

-- there is a value, and it is not of the key's kind
abbrev pub is_wrong : Key → Option Data → Bool
is_wrong wanted None = false
is_wrong wanted (Some value) = not (is_of_kind wanted value)

-- allowed here, with a value of another kind
abbrev pub has_wrong_kind : Members → Key → Bool
has_wrong_kind content wanted = is_allowed content wanted && is_wrong wanted (value_at wanted content)

-- this is one of the keys, as it is written, and allowed here
abbrev pub is_known : List Key → Members → List ℕ → Bool
is_known keys content name =
    list_any (λ known. bytes_eq (key_text known) name && is_allowed content known) keys

-- the keys of a table; they stand in byte order
abbrev pub names_in : Members → List (List ℕ)
names_in no_members = []
names_in (member name value content) = name ∷ names_in content

-- a key as it is shown: a question mark for a byte that is no character of a text
abbrev pub shown : List ℕ → List ℕ
shown name = map (λ byte. if is_text_byte byte then byte else 63) name

-- what this gives at the first element where it gives something
abbrev pub first_of : {A B : Type 0} → (A → Option B) → List A → Option B
first_of test [] = None
first_of test (x ∷ xs) = option_or (test x) (first_of test xs)

-- nothing, where the text passes the test
abbrev pub unless : Bool → Option (List ℕ)
unless passes = if passes then None else Some []

-- a text that is to pass a test
abbrev pub bad_text : (List ℕ → Bool) → Data → Option (List ℕ)
bad_text test (string text) = unless (test text)
bad_text test _ = None

-- the number of the first part that is not a name, after a period
abbrev pub bad_part : ℕ → List (List ℕ) → Option (List ℕ)
bad_part number [] = None
bad_part number (part ∷ parts) =
    if is_name part then bad_part (number + 1) parts else Some (46 ∷ decimal number)

-- where a value has a bad name: at the value itself, or at a part of it
abbrev pub bad_name_in : Key → Data → Option (List ℕ)
bad_name_in key.Name = bad_text is_name
bad_name_in key.Input = bad_text is_file_name
bad_name_in key.Source = bad_text is_file_name
bad_name_in key.Route = λ value. bad_part 1 (strings_in value)
bad_name_in key.Schedule = λ value. bad_part 1 (strings_in value)
bad_name_in _ = λ value. None

abbrev pub bad_password_in : Key → Data → Option (List ℕ)
bad_password_in key.Password = bad_text is_password
bad_password_in _ = λ value. None

-- where the value at a key is bad by this
abbrev pub bad_value_at : (Key → Data → Option (List ℕ)) → Place → Key → Option (List ℕ)
bad_value_at bad place wanted = option_map (λ part. key_path place wanted ++ part)
    (option_and_then (bad wanted) (value_at wanted place.table))

-- the first value of a table that is bad by this
abbrev pub bad_value : (Key → Data → Option (List ℕ)) → Place → Option (List ℕ)
bad_value bad place = first_of (bad_value_at bad place) (keys_of place.section)

-- the first key of the table where this holds
abbrev pub first_key : (Members → Key → Bool) → Place → Option (List ℕ)
first_key test place =
    option_map (key_path place) (find (test place.table) (keys_of place.section))

-- the first key that is missing
abbrev pub missing_key : Place → Option (List ℕ)
missing_key place = first_key is_missing place

-- the first key whose value is of another kind
abbrev pub wrong_kind : Place → Option (List ℕ)
wrong_kind place = first_key has_wrong_kind place

-- the least key that the table does not have here
abbrev pub unknown_key : Place → Option (List ℕ)
unknown_key place = option_map (λ name. below place.path (shown name))
    (find (λ name. not (is_known (keys_of place.section) place.table name)) (names_in place.table))

-- the first name, part of a path or file name that is none
abbrev pub bad_name : Place → Option (List ℕ)
bad_name place = bad_value bad_name_in place

-- the password, where it is none
abbrev pub bad_password : Place → Option (List ℕ)
bad_password place = bad_value bad_password_in place
