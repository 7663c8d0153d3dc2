-- What tokens say of a program: its divisions up to the word PROCEDURE.
use Rattle.std.specs.Prelude.{◌≡◌, ◌<◌, ℕ, ◌+◌, Bool, true, false, ◌||◌, if◌then◌else◌, List, [], ◌∷◌, ◌++◌, length, take, drop, map, filter, find, codes, flat_map, slice_get, Option, Some, None, option_map}
use Rattle.com_cd.specs.declared.input_area.InField.{InField}
use Rattle.com_cd.specs.declared.output_area.OutField.{OutField}
use Rattle.cob_lex.specs.declared.token.Token.{Token}
use Rattle.cob_lex.specs.declared.token.TokenKind.{TokenKind}
use Rattle.cob_lex.specs.declared.token.TokenKind.TheVariants as tokens
use Rattle.cob_forms.specs.declared.written.Name.{Name}
use Rattle.cob_forms.specs.declared.written.Position.{Position}
use Rattle.cob_forms.specs.Sorts.{reserved, name, is}
use Rattle.cob_forms.specs.Written.{position_of, name_of, number_of, literal_of}
use Rattle.cob_forms.specs.Forms.{ends, reading}
use Rattle.cob_data.specs.declared.tree.CdBody.{CdBody}
use Rattle.cob_data.specs.declared.tree.CdBody.TheVariants as bodies
use Rattle.cob_data.specs.declared.tree.CdEntry.{CdEntry}
use Rattle.cob_data.specs.declared.tree.DataDivision.{DataDivision}
use Rattle.cob_data.specs.declared.tree.InputClause.{InputClause}
use Rattle.cob_data.specs.declared.tree.Item.{Item}
use Rattle.cob_data.specs.declared.tree.OutputClause.{OutputClause}
use Rattle.cob_data.specs.declared.tree.OutputClause.TheVariants as clauses
use Rattle.cob_data.specs.declared.tree.Picture.{Picture}
use Rattle.cob_data.specs.declared.tree.ItemPlace.{ItemPlace}
use Rattle.cob_data.specs.declared.tree.Value.{Value}
use Rattle.cob_data.specs.declared.tree.Value.TheVariants as values
use Rattle.cob_data.specs.Forms.{data_division, alternatives_of}
use Rattle.cob_data.specs.Entries.{Run, word_flags, entries_of, runs_of, storage_items, cd_runs, first_token, second_token, last_token, chosen_word, picture_in, value_in}
use Rattle.cob_data.specs.Clauses.{number_in, is_input, body_of, lists_names, is_name_or_filler, clauses_of, input_field_of, output_field_of}
use Rattle.cob_data.specs.Levels.{own_size, sort_of_item, length_of, records_of}

-- a name, and none for FILLER
abbrev pub name_if : Token → Option Name
name_if t = if is name t then Some (name_of t) else None

-- a picture as it is written
abbrev pub picture_of : Token → Picture
picture_of t = record { text = t.text; position = position_of t }

-- SPACE, SPACES, ZERO, ZEROS or ZEROES as a value
abbrev pub word_value : Token → Value
word_value t =
    if is (reserved (codes "SPACE")) t || is (reserved (codes "SPACES")) t
    then values.Spaces (position_of t) else values.Zeros (position_of t)

-- a token of a kind as a value
abbrev pub value_by : TokenKind → Token → Value
value_by tokens.Literal t = values.Literal (literal_of t)
value_by tokens.Number t = values.Number (number_of t)
value_by tokens.Word t = word_value t
value_by other t = word_value t

-- a token as a value
abbrev pub value_of : Token → Value
value_of t = value_by t.kind t

-- an item as it is written, and where its characters are
abbrev pub item_of : List Token → ItemPlace → List Item
item_of (level ∷ named ∷ clauses) place = record {
  level = number_of level;
  name = name_if named;
  picture = option_map picture_of (picture_in clauses);
  value = option_map value_of (value_in clauses);
  place = place;
} ∷ []
item_of other place = []

-- the place of an item in its area, by the items after it in its record
abbrev pub place_at : ℕ → ℕ → List Token → List (List Token) → ItemPlace
place_at area start item others =
    record { area = area; start = start; length = length_of item others; sort = sort_of_item item }

-- The items of a record. An item begins behind all characters of the items before it.
abbrev pub items_from : ℕ → ℕ → List (List Token) → List Item
items_from area start [] = []
items_from area start (item ∷ others) =
    item_of item (place_at area start item others) ++ items_from area (start + own_size item) others

-- the items of records that each have an area of its own
abbrev pub items_by_area : ℕ → List (List (List Token)) → List Item
items_by_area area [] = []
items_by_area area (record_items ∷ others) = items_from area 0 record_items
    ++ items_by_area (area + 1) others

-- the items of records that have one area
abbrev pub items_over : ℕ → List (List (List Token)) → List Item
items_over area records = flat_map (items_from area 0) records

-- the records of Working-Storage
abbrev pub storage_records : List Run → List (List (List Token))
storage_records runs = records_of (storage_items runs)

-- the clauses of an input CD, and those of an output CD
abbrev pub input_clause : Option InField → Option Token → Option Token → List InputClause
input_clause (Some field) (Some first) (Some named) =
    record { position = position_of first; field = field; name = name_of named } ∷ []
input_clause field first named = []

-- all clauses of an input CD
abbrev pub input_clauses : List (List Token) → List InputClause
input_clauses list =
    flat_map (λ clause. input_clause (input_field_of clause) (first_token clause) (last_token clause)) list

-- a clause of an output CD, by its field, its first and last tokens, and its number
abbrev pub output_clause_by : Option OutField → Token → Token → Option Token → List OutputClause
output_clause_by (Some field) first named occurs =
    clauses.Field (position_of first) field (name_of named) ∷ []
output_clause_by None first named (Some occurs) =
    clauses.Table (position_of first) (number_of occurs) ∷ []
output_clause_by None first named None = []

-- a clause of an output CD, where it has a field and tokens
abbrev pub output_clause : Option (Option OutField) → Option Token → Option Token → Option Token
    → List OutputClause
output_clause (Some field) (Some first) (Some named) occurs =
    output_clause_by field first named occurs
output_clause field first named occurs = []

-- all clauses of an output CD
abbrev pub output_clauses : List (List Token) → List OutputClause
output_clauses list =
    flat_map (λ clause. output_clause (output_field_of clause) (first_token clause) (last_token clause) (number_in clause)) list

-- where INITIAL stands
abbrev pub initial_of : List Token → Option Position
initial_of entry = option_map position_of (find (is (reserved (codes "INITIAL"))) entry)

-- the body of a CD entry, by whether it is for input and whether it lists names
abbrev pub body_by : (input lists : Bool) → List Token → CdBody
body_by true true entry =
    bodies.InputNames (initial_of entry) (map name_if (filter is_name_or_filler (body_of entry)))
body_by true false entry = bodies.Input (initial_of entry) (input_clauses (clauses_of entry))
body_by false lists entry = bodies.Output (output_clauses (clauses_of entry))

-- a CD entry with the records over its area, where it has a name
abbrev pub cd_named : Option Token → ℕ → Run → List CdEntry
cd_named None area cd = []
cd_named (Some named) area cd = record {
  name = name_of named;
  body = body_by (is_input cd.head) (lists_names (body_of cd.head)) cd.head;
  area = area;
  records = items_over area (records_of cd.items);
} ∷ []

-- CDs, of which the first has this area
abbrev pub cds_from : ℕ → List Run → List CdEntry
cds_from area [] = []
cds_from area (cd ∷ others) = cd_named (second_token cd.head) area cd ++ cds_from (area + 1) others

-- the items of Working-Storage
abbrev pub working_storage_of : List Token → List Item
working_storage_of ts = items_by_area 0 (storage_records (runs_of ts))

-- the CD entries, whose areas follow those of Working-Storage
abbrev pub communication_of : List Token → List CdEntry
communication_of ts = cds_from (length (storage_records (runs_of ts))) (cd_runs (runs_of ts))

-- the word that the program chooses after a header
abbrev pub word_behind : List ℕ → List Token → Option Name
word_behind header ts = option_map name_of (chosen_word header (word_flags false (entries_of ts)))

-- what the tokens before the word PROCEDURE tell, with the one that names the program
pub record IsDivisionBefore (named : Token) (before : List Token) (d : DataDivision) : Type 0 where
  pub program : d.program ≡ name_of named
  pub source_computer : d.source_computer ≡ word_behind (codes "SOURCE-COMPUTER") before
  pub object_computer : d.object_computer ≡ word_behind (codes "OBJECT-COMPUTER") before
  pub working_storage : d.working_storage ≡ working_storage_of before
  pub communication : d.communication ≡ communication_of before

-- Of these tokens, so many stand before the word PROCEDURE, with no other one wanted up to it, and
-- they tell these divisions. The sixth token, behind IDENTIFICATION DIVISION. PROGRAM-ID., is the
-- program's name.
pub record IsDivisionOf (ts : List Token) (place : ℕ) (d : DataDivision) : Type 0 where
  pub complete : reading alternatives_of data_division ts ≡ ends (drop (place + 1) ts)
  pub within : place < length ts
  pub program : option_map name_of (slice_get ts 5) ≡ Some d.program
  pub source_computer : word_behind (codes "SOURCE-COMPUTER") (take place ts) ≡ d.source_computer
  pub object_computer : word_behind (codes "OBJECT-COMPUTER") (take place ts) ≡ d.object_computer
  pub working_storage : working_storage_of (take place ts) ≡ d.working_storage
  pub communication : communication_of (take place ts) ≡ d.communication
