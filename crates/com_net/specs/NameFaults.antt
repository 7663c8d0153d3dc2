-- Names that two terminals, two units, or a terminal and a top queue share, and how many there may
-- be.
use Rattle.std.specs.Prelude.{ℕ, Bool, true, false, not, ◌&&◌, ◌==◌, nat_le, List, [], ◌∷◌, ◌++◌, length, Option, Some, None, codes, if◌then◌else◌}
use Rattle.std.specs.List.{list_any}
use Rattle.std.specs.Str.{bytes_eq}
use Rattle.toml.specs.Data.{Members}
use Rattle.com_net.specs.declared.net.TheConstants.{MAX_TERMINALS, MAX_UNITS}
use Rattle.com_net.specs.declared.keys.Section.{Section}
use Rattle.com_net.specs.declared.keys.Section.TheVariants as section
use Rattle.com_net.specs.declared.keys.Key.TheVariants as key
use Rattle.com_net.specs.Values.{string_at, tables_at}
use Rattle.com_net.specs.Places.{Place, key_path}

abbrev pub is_terminal : Section → Bool
is_terminal section.Terminal = true
is_terminal _ = false

abbrev pub is_unit : Section → Bool
is_unit section.Unit = true
is_unit _ = false

-- the names of the tables of one kind
abbrev pub names_of : (Section → Bool) → List Place → List (List ℕ)
names_of test [] = []
names_of test (place ∷ places) =
    if test place.section then string_at key.Name place.table ∷ names_of test places
    else names_of test places

-- the names that a table may not have, by those of the terminals and of the units before it
abbrev pub taken : Section → List (List ℕ) → List (List ℕ) → List (List ℕ)
taken section.Top terminals units = []
taken section.Terminal terminals units = terminals
taken (section.Queue level) terminals units = if level == 1 then terminals else []
taken section.Unit terminals units = units

-- a table has a name that was taken before it
abbrev pub clashes : Place → List Place → Bool
clashes place before = list_any (bytes_eq (string_at key.Name place.table))
    (taken place.section (names_of is_terminal before) (names_of is_unit before))

-- the first of these tables that clashes with those before it
abbrev pub clash_behind : List Place → List Place → Option (List ℕ)
clash_behind before [] = None
clash_behind before (place ∷ places) =
    if clashes place before then Some (key_path place key.Name)
    else clash_behind (before ++ place ∷ []) places

-- the first table with the name of one before it
abbrev pub twice_named : List Place → Option (List ℕ)
twice_named places = clash_behind [] places

-- a number that is not from 1 to a limit
abbrev pub is_over : ℕ → ℕ → Bool
is_over limit number = not (nat_le 1 number && nat_le number limit)

-- too many terminals or units, or none
abbrev pub over_limit : Members → Option (List ℕ)
over_limit document =
    if is_over MAX_TERMINALS (length (tables_at key.Terminals document)) then Some (codes "terminal")
    else if is_over MAX_UNITS (length (tables_at key.Units document)) then Some (codes "unit")
    else None
