-- What the names of a program stand for, and how its storage begins.
use Rattle.std.specs.Prelude.{ℕ, ◌-◌, Bool, true, false, ◌==◌, List, [], ◌∷◌, ◌++◌, length, map, zip, flat_map, filter_map, find, bytes_eq, Option, Some, None, option_map}
use Rattle.com_text.specs.Name.{spaces}
use Rattle.com_text.specs.Digits.{number}
use Rattle.com_cd.specs.InputArea.{start_of, width_of, zeros, opening_area}
use Rattle.com_cd.specs.OutputArea.{out_start, out_width, opening_output}
use Rattle.com_cd.specs.declared.input_area.InField.{InField}
use Rattle.com_cd.specs.declared.input_area.InField.TheVariants as cd
use Rattle.com_cd.specs.declared.output_area.OutField.{OutField}
use Rattle.com_cd.specs.declared.output_area.OutField.TheVariants as out
use Rattle.cob_forms.specs.declared.written.Name.{Name}
use Rattle.cob_forms.specs.declared.written.Position.{Position}
use Rattle.cob_data.specs.declared.tree.CdBody.{CdBody}
use Rattle.cob_data.specs.declared.tree.CdBody.TheVariants as bodies
use Rattle.cob_data.specs.declared.tree.CdEntry.{CdEntry}
use Rattle.cob_data.specs.declared.tree.DataDivision.{DataDivision}
use Rattle.cob_data.specs.declared.tree.Item.{Item}
use Rattle.cob_data.specs.declared.tree.ItemSort.{ItemSort}
use Rattle.cob_data.specs.declared.tree.ItemSort.TheVariants.{Alphanumeric, Numeric, Group}
use Rattle.cob_data.specs.declared.tree.OutputClause.{OutputClause}
use Rattle.cob_data.specs.declared.tree.OutputClause.TheVariants as clauses
use Rattle.cob_data.specs.declared.tree.ItemPlace.{ItemPlace}
use Rattle.cob_data.specs.declared.tree.Value.{Value}
use Rattle.cob_data.specs.declared.tree.Value.TheVariants as values
use Rattle.cob_data.specs.Clauses.{or_one}
use Rattle.cob_data.specs.Levels.{rank_of}

-- What a name stands for: data, and how often it occurs in a table; an input CD with its area; an
-- output CD with its area and the occurrences of its destinations
pub data Referent : Type 0 where
  data_at : (place : ItemPlace) (occurs : Option ℕ) → Referent
  input_cd : (area : ℕ) → Referent
  output_cd : (area occurrences : ℕ) → Referent

-- a name, by its characters, and what it stands for
abbrev pub Declared : Type 0
Declared = List ℕ × Referent

-- date, time and the two numbers are numeric, and all other fields of an input CD alphanumeric
abbrev pub input_sort : InField → ItemSort
input_sort cd.Date = Numeric
input_sort cd.Time = Numeric
input_sort cd.Length = Numeric
input_sort cd.Count = Numeric
input_sort other = Alphanumeric

-- the two numbers are numeric, and all other fields of an output CD alphanumeric
abbrev pub output_sort : OutField → ItemSort
output_sort out.Count = Numeric
output_sort out.Length = Numeric
output_sort other = Alphanumeric

-- where a field of an input CD is
abbrev pub input_place : ℕ → InField → ItemPlace
input_place area field =
    record { area = area; start = start_of field; length = width_of field; sort = input_sort field }

-- where a field of an output CD is
abbrev pub output_place : ℕ → OutField → ItemPlace
output_place area field =
    record { area = area; start = out_start field; length = out_width field; sort = output_sort field }

-- the fields of an input CD in the order of its area
abbrev pub input_fields : List InField
input_fields =
    cd.Queue ∷ cd.Sub1 ∷ cd.Sub2 ∷ cd.Sub3 ∷ cd.Date ∷ cd.Time ∷ cd.Source ∷ cd.Length ∷ cd.EndKey
    ∷ cd.Status ∷ cd.Count
    ∷ []

-- a name with its data, and nothing for FILLER
abbrev pub for_data : Option Name → ItemPlace → Option ℕ → List Declared
for_data None place occurs = []
for_data (Some name) place occurs = (name.text, data_at place occurs) ∷ []

-- how often the destinations of an output CD occur, where it has a table
abbrev pub table_number : OutputClause → Option ℕ
table_number (clauses.Table position occurs) = Some (number occurs.digits)
table_number other = None

-- the first of some numbers
abbrev pub first_number : List ℕ → Option ℕ
first_number [] = None
first_number (n ∷ ns) = Some n

-- how often the table of an output CD occurs
abbrev pub table_of : List OutputClause → Option ℕ
table_of list = first_number (filter_map table_number list)

-- how often a field of an output CD occurs, by how often its table does: ERROR KEY and SYMBOLIC
-- DESTINATION are in it
abbrev pub field_occurs : Option ℕ → OutField → Option ℕ
field_occurs occurs (out.Error at) = occurs
field_occurs occurs (out.Destination at) = occurs
field_occurs occurs other = None

-- an output CD's name, by its clause, the area and how often its table occurs
abbrev pub output_name : ℕ → Option ℕ → OutputClause → List Declared
output_name area occurs (clauses.Field position field name) =
    for_data (Some name) (output_place area field) (field_occurs occurs field)
output_name area occurs (clauses.Table position number) = []

-- the names for the fields of a CD
abbrev pub body_names : ℕ → CdBody → List Declared
body_names area (bodies.Input initial list) =
    flat_map (λ clause. for_data (Some clause.name) (input_place area clause.field) None) list
body_names area (bodies.InputNames initial names) =
    flat_map (λ pair. for_data pair.0 (input_place area pair.1) None) (zip names input_fields)
body_names area (bodies.Output list) = flat_map (output_name area (table_of list)) list

-- the names of items
abbrev pub item_names : List Item → List Declared
item_names items = flat_map (λ item. for_data item.name item.place None) items

-- what the name of a CD stands for
abbrev pub cd_referent : ℕ → CdBody → Referent
cd_referent area (bodies.Input initial list) = input_cd area
cd_referent area (bodies.InputNames initial names) = input_cd area
cd_referent area (bodies.Output list) = output_cd area (or_one (table_of list))

-- the names of a CD: its own, those of its fields, and those of its records
abbrev pub cd_names : CdEntry → List Declared
cd_names entry = (entry.name.text, cd_referent entry.area entry.body)
    ∷ body_names entry.area entry.body ++ item_names entry.records

-- all names of a program's data and CDs, in the order of the text
abbrev pub declared : DataDivision → List Declared
declared d = item_names d.working_storage ++ flat_map cd_names d.communication

-- what a name stands for
abbrev pub referent_of : DataDivision → List ℕ → Option Referent
referent_of d text = option_map (λ x. x.1) (find (λ x. bytes_eq x.0 text) (declared d))

-- The characters with which an item begins: those of its value, filled with spaces on the right or,
-- for a number, with zeros on the left; without a value spaces for X and zeros for 9.
abbrev pub opening_by : ItemSort → Option Value → ℕ → List ℕ
opening_by Group value n = []
opening_by sort (Some (values.Literal l)) n = l.characters ++ spaces (n - length l.characters)
opening_by sort (Some (values.Number k)) n = zeros (n - length k.digits) ++ k.digits
opening_by sort (Some (values.Spaces p)) n = spaces n
opening_by sort (Some (values.Zeros p)) n = zeros n
opening_by Alphanumeric None n = spaces n
opening_by Numeric None n = zeros n

-- the characters with which an item begins
abbrev pub opening_of : Item → List ℕ
opening_of item = opening_by item.place.sort item.value item.place.length

-- an item begins a record
abbrev pub begins_record : Item → Bool
begins_record item = rank_of item.level.digits == 1

-- characters that belong to the record before some areas, and the areas
abbrev pub filled : Bool → List ℕ → List ℕ × List (List ℕ) → List ℕ × List (List ℕ)
filled true characters others = ([], (characters ++ others.0) ∷ others.1)
filled false characters others = (characters ++ others.0, others.1)

-- the characters of items before the first record, and the areas of the records
abbrev pub fill : List Item → List ℕ × List (List ℕ)
fill [] = ([], [])
fill (item ∷ items) = filled (begins_record item) (opening_of item) (fill items)

-- the area of a CD as it begins
abbrev pub opening_cd : CdBody → List ℕ
opening_cd (bodies.Input initial list) = opening_area
opening_cd (bodies.InputNames initial names) = opening_area
opening_cd (bodies.Output list) = opening_output (or_one (table_of list))

-- the areas of a program as they begin: those of Working-Storage, and those of the CDs
abbrev pub opening_storage : DataDivision → List (List ℕ)
opening_storage d = (fill d.working_storage).1
    ++ map (λ entry. opening_cd entry.body) d.communication

-- where INITIAL is in a CD entry
abbrev pub initial_by : CdBody → Option Position
initial_by (bodies.Input initial list) = initial
initial_by (bodies.InputNames initial names) = initial
initial_by (bodies.Output list) = None

-- the area of the CD that is INITIAL
abbrev pub initial_area : DataDivision → Option ℕ
initial_area d =
    first_number (filter_map (λ entry. option_map (λ p. entry.area) (initial_by entry.body)) d.communication)
