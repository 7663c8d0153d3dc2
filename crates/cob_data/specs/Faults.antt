-- The faults of the divisions before the Procedure Division.
use Rattle.std.specs.Prelude.{ℕ, suc, ◌+◌, ◌-◌, Bool, true, false, not, ◌&&◌, ◌||◌, ◌==◌, nat_le, nat_lt, if◌then◌else◌, List, [], ◌∷◌, ◌++◌, length, take, drop, sum, map, filter, flat_map, codes, bytes_eq, is_none, Option, Some, None, option_to_list}
use Rattle.std.specs.List.{list_any}
use Rattle.com_cd.specs.declared.output_area.TheConstants.{MAX_OCCURRENCES}
use Rattle.cob_data.specs.Numerals.{numeral}
use Rattle.cob_lex.specs.declared.fault.SourceFault.{SourceFault}
use Rattle.cob_lex.specs.declared.fault.SourceKind.{SourceKind}
use Rattle.cob_lex.specs.declared.fault.SourceKind.TheVariants as faults
use Rattle.cob_lex.specs.declared.token.Token.{Token}
use Rattle.cob_lex.specs.declared.token.TokenKind.TheVariants as tokens
use Rattle.cob_forms.specs.Sorts.{reserved, name, of_kind, is, in_area_a}
use Rattle.cob_forms.specs.Forms.{Reading, ends, reading, wanted}
use Rattle.cob_forms.specs.Faults.{before_wanted, fault, first, wanted_word}
use Rattle.cob_data.specs.declared.names.TheConstants.{MAX_DATA_NAMES}
use Rattle.cob_data.specs.declared.characters.TheConstants.{MAX_CHARACTERS}
use Rattle.cob_data.specs.declared.tree.ItemSort.{ItemSort}
use Rattle.cob_data.specs.declared.tree.ItemSort.TheVariants.{Alphanumeric, Numeric}
use Rattle.cob_data.specs.declared.tree.Value.{Value}
use Rattle.cob_data.specs.declared.tree.Value.TheVariants as values
use Rattle.cob_data.specs.Forms.{data_division, alternatives_of}
use Rattle.cob_data.specs.Entries.{Run, all_but_last, word_flags, entries_of, described, runs_of, is_item, is_cd, first_token, second_token, picture_in, value_in}
use Rattle.cob_data.specs.Clauses.{is_input, clauses_of, clause_word, area_length}
use Rattle.cob_data.specs.Pictures.{size_of, sort_of}
use Rattle.cob_data.specs.Levels.{is_level, rank_of, rank, is_group, own_size, sort_of_item, below, records_of}
use Rattle.cob_data.specs.Divisions.{value_of}

-- a fault of a kind at a token
abbrev pub at : SourceKind → Token → SourceFault
at kind t = fault t.line t.column kind

-- a fault of a kind at each of some tokens
abbrev pub at_any : SourceKind → List Token → List SourceFault
at_any kind ts = map (at kind) ts

-- a fault of a kind at a token, unless all is right there
abbrev pub unless : Bool → SourceKind → Option Token → List SourceFault
unless true kind t = []
unless false kind t = at_any kind (option_to_list t)

-- COLUMNS

-- the first word of a header, CD, and the levels 01 and 77 are in area A
abbrev pub wants_area_a : Token → Bool
wants_area_a t = not (is (of_kind tokens.Number) t) || (is_level t.text && rank_of t.text == 1)

-- levels 02 to 49 are in either area
abbrev pub is_free : Token → Bool
is_free t = is (of_kind tokens.Number) t && is_level t.text && not (rank_of t.text == 1)

-- The area of a token is right, by whether it begins an entry, and by the line of the last token
-- before it that is in area A: any other token is in area B or in that line.
abbrev pub is_in_place : Bool → ℕ → Token → Bool
is_in_place begins line t =
    if begins && wants_area_a t then in_area_a t else ((begins && is_free t) || not (in_area_a t))
    || t.line == line

-- the line of the last token in area A, once a token has been passed
abbrev pub line_behind : ℕ → Token → ℕ
line_behind line t = if in_area_a t then t.line else line

-- each token of an entry, and whether it begins a header, an item or a CD entry
abbrev pub begin_flags : Bool → List Token → List (Bool × Token)
begin_flags word [] = []
begin_flags word (t ∷ ts) = (not word, t) ∷ map (λ u. (false, u)) ts

-- each token in the wrong area of its line
abbrev pub column_faults : ℕ → List (Bool × Token) → List SourceFault
column_faults line [] = []
column_faults line (x ∷ xs) =
    unless (is_in_place x.0 line x.1) faults.BadColumn (Some x.1)
    ++ column_faults (line_behind line x.1) xs

-- each token of a text in the wrong area of its line
abbrev pub bad_columns : List Token → List SourceFault
bad_columns ts =
    column_faults 0 (flat_map (λ x. begin_flags x.0 x.1) (word_flags false (entries_of ts)))

-- NAMES, PICTURES AND NUMBERS

-- each picture that is malformed
abbrev pub bad_pictures : List Token → List SourceFault
bad_pictures ts = at_any faults.BadPicture (filter (λ t. is (of_kind tokens.Picture) t
    && is_none (size_of t.text)) ts)

-- the names of data and CDs
abbrev pub names_in : List (List Token) → List Token
names_in entries = flat_map (filter (is name)) entries

-- each name that occurred before
abbrev pub name_faults : List (List ℕ) → List Token → List SourceFault
name_faults earlier [] = []
name_faults earlier (t ∷ ts) =
    unless (not (list_any (bytes_eq t.text) earlier)) faults.TwiceDeclared (Some t)
    ++ name_faults (t.text ∷ earlier) ts

-- the names of data alone
abbrev pub data_names : List (List Token) → List Token
data_names entries = names_in (map (λ entry. if is_cd entry then drop 2 entry else entry) entries)

-- the name with which there are more than so many
abbrev pub name_past : ℕ → List Token → List SourceFault
name_past limit names = at_any faults.OverLimit (take 1 (drop limit names))

-- each INITIAL but the first
abbrev pub second_initials : List (List Token) → List SourceFault
second_initials entries =
    at_any faults.TwoInitial (drop 1 (filter (is (reserved (codes "INITIAL"))) (flat_map (λ e. e) (filter is_cd entries))))

-- a number of occurrences is at least 1 and no more than an output CD may have
abbrev pub bad_tables : List (List Token) → List SourceFault
bad_tables entries =
    at_any faults.OverLimit (filter
    (λ t. is (of_kind tokens.Number) t
    && not (nat_le 1 (numeral t.text)
    && nat_le (numeral t.text) MAX_OCCURRENCES)) (flat_map (λ e. e) (filter is_cd entries)))

-- CLAUSES

-- a clause twice, told at its first word
abbrev pub clause_faults : Bool → List (List ℕ) → List (List Token) → List SourceFault
clause_faults input earlier [] = []
clause_faults input earlier (clause ∷ clauses) =
    unless (not (list_any (bytes_eq (clause_word input clause)) earlier)) faults.TwiceDeclared (first_token clause)
    ++ clause_faults input (clause_word input clause ∷ earlier) clauses

-- each clause that occurred before in its CD entry
abbrev pub clauses_twice : List (List Token) → List SourceFault
clauses_twice entries =
    flat_map (λ entry. clause_faults (is_input entry) [] (clauses_of entry)) (filter is_cd entries)

-- LEVELS

-- a rank is the one that is given, if one is given
abbrev pub is_as : ℕ → Option ℕ → Bool
is_as own None = true
is_as own (Some other) = own == other

-- An item of a rank may stand behind these items, of which the last is first: the last one of a
-- lower rank is a group, and the item behind that one has the same rank.
abbrev pub is_under_group : ℕ → Option ℕ → List (List Token) → Bool
is_under_group own behind [] = false
is_under_group own behind (x ∷ before) =
    if nat_lt (rank x) own then is_group (sort_of_item x) && is_as own behind
    else is_under_group own (Some (rank x)) before

-- the characters of the first token
abbrev pub first_text : List Token → List ℕ
first_text [] = []
first_text (t ∷ ts) = t.text

-- A level is right, by what stands before it: it is one, 77 stands in Working-Storage, and what is
-- no record is under a group whose items all have this level.
abbrev pub is_level_right : Bool → List (List Token) → List Token → Bool
is_level_right over_cd before item =
    is_level (first_text item) && not (over_cd && numeral (first_text item) == 77)
    && (rank item == 1 || is_under_group (rank item) None before)

-- the levels of items that are wrong, by the items before them
abbrev pub level_faults : Bool → List (List Token) → List (List Token) → List SourceFault
level_faults over_cd before [] = []
level_faults over_cd before (item ∷ items) =
    unless (is_level_right over_cd before item) faults.WrongKind (first_token item)
    ++ level_faults over_cd (item ∷ before) items

-- WHOLE ITEMS

-- A group has items below it, so its level is neither 77 nor 49, and the item behind it has a
-- higher one.
abbrev pub is_group_right : ℕ → List Token → Bool
is_group_right behind item =
    not (is_group (sort_of_item item))
    || (not (numeral (first_text item) == 77 || numeral (first_text item) == 49)
    && nat_lt (rank item) behind)

-- more characters than fit have the wrong length
abbrev pub up_to : ℕ → ℕ → Option SourceKind
up_to limit n = if nat_le n limit then None else Some faults.WrongLength

-- what is wrong with the value of an item of so many characters
abbrev pub value_kind : ItemSort → ℕ → Value → Option SourceKind
value_kind Alphanumeric n (values.Literal l) = up_to n (length l.characters)
value_kind Numeric n (values.Number k) = up_to n (length k.digits)
value_kind Alphanumeric n (values.Spaces p) = None
value_kind Alphanumeric n (values.Zeros p) = None
value_kind Numeric n (values.Zeros p) = None
value_kind sort n other = Some faults.WrongKind

-- what is wrong with a value, by the size of its picture
abbrev pub sized_value : Option ℕ → ItemSort → Value → Option SourceKind
sized_value None sort value = None
sized_value (Some n) sort value = value_kind sort n value

-- A value stands at elementary items of Working-Storage alone. Where the picture is bad, no more is
-- said.
abbrev pub wrong_value : Bool → Option Token → Value → Option SourceKind
wrong_value true picture value = Some faults.WrongKind
wrong_value false None value = Some faults.WrongKind
wrong_value false (Some picture) value =
    sized_value (size_of picture.text) (sort_of picture.text) value

-- a fault at a token, if there is a kind of fault
abbrev pub kind_at : Option SourceKind → Token → List SourceFault
kind_at None t = []
kind_at (Some kind) t = at kind t ∷ []

-- what is wrong with the value of an item, if it has one
abbrev pub value_faults : Bool → Option Token → Option Token → List SourceFault
value_faults over_cd picture None = []
value_faults over_cd picture (Some value) =
    kind_at (wrong_value over_cd picture (value_of value)) value

-- what is wrong with an item by itself and by the rank of the item after it
abbrev pub item_faults : Bool → ℕ → List Token → List SourceFault
item_faults over_cd behind item =
    unless (is_group_right behind item) faults.WrongKind (first_token item)
    ++ value_faults over_cd (picture_in item) (value_in item)

-- Items that count are those behind which a further token stands. The last item of a text has none,
-- and the last item of a run that another follows has none of its own run.
abbrev pub whole_faults : Bool → Bool → List (List Token) → List SourceFault
whole_faults is_last over_cd [] = []
whole_faults true over_cd (item ∷ []) = []
whole_faults false over_cd (item ∷ []) = item_faults over_cd 0 item
whole_faults is_last over_cd (item ∷ next ∷ items) = item_faults over_cd (rank next) item
    ++ whole_faults is_last over_cd (next ∷ items)

-- RECORDS

-- an item has a picture that is malformed
abbrev pub is_bad : Option Token → Bool
is_bad None = false
is_bad (Some picture) = is_none (size_of picture.text)

-- how many characters some items have together
abbrev pub record_size : List (List Token) → ℕ
record_size items = sum (map own_size items)

-- the first of some items
abbrev pub first_item : List (List Token) → List Token
first_item [] = []
first_item (item ∷ items) = item

-- How many items the first one of a record is made of: a group of itself and all below it, and an
-- elementary item of itself alone, whatever stands behind it.
abbrev pub extent_length : List (List Token) → ℕ
extent_length [] = 0
extent_length (item ∷ items) =
    suc (if is_group (sort_of_item item) then length (below (rank item) items) else 0)

-- the items that the first one is made of
abbrev pub extent : List (List Token) → List (List Token)
extent items = take (extent_length items) items

-- an item stands below an elementary one, which has this rank if there is one
abbrev pub is_covered : Option ℕ → List Token → Bool
is_covered None item = false
is_covered (Some own) item = nat_lt own (rank item)

-- the rank of an item that is elementary
abbrev pub rank_if_elementary : List Token → Option ℕ
rank_if_elementary item = if is_group (sort_of_item item) then None else Some (rank item)

-- the rank of the elementary item below which the item behind another may stand
abbrev pub cover_behind : Option ℕ → List Token → Option ℕ
cover_behind cover item = if is_covered cover item then cover else rank_if_elementary item

-- an item in front of others, unless it is left out
abbrev pub put_unless : Bool → List Token → List (List Token) → List (List Token)
put_unless true item items = items
put_unless false item items = item ∷ items

-- The items that count into the length of the item before them. What stands below an elementary
-- item counts into no length, at any level.
abbrev pub counting_items : Option ℕ → List (List Token) → List (List Token)
counting_items cover [] = []
counting_items cover (item ∷ items) =
    put_unless (is_covered cover item) item (counting_items (cover_behind cover item) items)

-- An item that begins a record has at most 2,000 characters, and over a CD just those of the area.
abbrev pub is_record_right : Option ℕ → ℕ → Bool
is_record_right None n = true
is_record_right (Some area) n = n == area

-- what is wrong with the size of an item that is made of these
abbrev pub size_faults : Option ℕ → List (List Token) → List SourceFault
size_faults area items =
    unless (list_any (λ item. is_bad (picture_in item)) items
    || nat_le (record_size items) 2000) faults.OverLimit (first_token (first_item items))
    ++ unless (list_any (λ item. is_bad (picture_in item)) items
    || is_record_right area (record_size items)) faults.WrongLength (second_token (first_item items))

-- what is wrong with the size of the item that begins a record
abbrev pub record_faults : Option ℕ → List (List Token) → List SourceFault
record_faults area items = size_faults area (counting_items None (extent items))

-- A record counts where a further token stands behind what its first item is made of. Behind the
-- last record of a text none does, unless items follow in it that are no part of that one.
abbrev pub is_counted : Bool → List (List (List Token)) → List (List Token) → Bool
is_counted is_last behind items = (not is_last || nat_lt 0 (length behind))
    || nat_lt (extent_length items) (length items)

-- what is wrong with the sizes of records that count
abbrev pub records_faults : Bool → Option ℕ → List (List (List Token)) → List SourceFault
records_faults is_last area [] = []
records_faults is_last area (items ∷ records) =
    (if is_counted is_last records items then record_faults area items else [])
    ++ records_faults is_last area records

-- how many characters each record of a run must have: over a CD, as many as its area
abbrev pub over : Run → Option ℕ
over run = if is_cd run.head then Some (area_length run.head) else None

-- what is wrong with the items of a run
abbrev pub run_faults : Bool → Run → List SourceFault
run_faults is_last run =
    level_faults (is_cd run.head) [] run.items ++ whole_faults is_last (is_cd run.head) run.items
    ++ records_faults is_last (over run) (records_of run.items)

-- The faults of runs, by whether further tokens stand behind the last one.
abbrev pub runs_faults : Bool → List Run → List SourceFault
runs_faults is_followed [] = []
runs_faults is_followed (run ∷ []) = run_faults (not is_followed) run
runs_faults is_followed (run ∷ next ∷ runs) = run_faults false run
    ++ runs_faults is_followed (next ∷ runs)

-- the entries behind which a further token stands
abbrev pub whole_entries : Bool → List (List Token) → List (List Token)
whole_entries true entries = entries
whole_entries false entries = all_but_last entries

-- the item with which items have more than so many characters
abbrev pub characters_past : ℕ → ℕ → List (List Token) → List SourceFault
characters_past limit total [] = []
characters_past limit total (item ∷ items) =
    unless (nat_lt limit total
    || nat_le (total + own_size item) limit) faults.OverLimit (first_token item)
    ++ characters_past limit (total + own_size item) items

-- ALL FAULTS

-- how many data names and characters of items a program may have
pub record Limits : Type 0 where
  pub names : ℕ
  pub characters : ℕ

-- the limits of every program
abbrev pub limits : Limits
limits = record { names = MAX_DATA_NAMES; characters = MAX_CHARACTERS }

-- The faults that tokens have apart from where another one is wanted: by the tokens whose columns
-- count, by those whose entries count, and by whether further tokens stand behind these.
abbrev pub other_faults : Limits → Bool → (lined ts : List Token) → List SourceFault
other_faults limits is_followed lined ts =
    bad_columns lined ++ bad_pictures ts
    ++ name_faults [] (names_in (described ts))
    ++ name_past limits.names (data_names (described ts))
    ++ second_initials (described ts) ++ bad_tables (described ts) ++ clauses_twice (described ts)
    ++ runs_faults is_followed (runs_of ts)
    ++ characters_past limits.characters 0 (filter is_item (whole_entries is_followed (described ts)))

-- The faults of a reading. Where it comes to the word PROCEDURE, this word stands behind all
-- entries, and its column counts too. Where another token is wanted, the tokens before it count.
abbrev pub faults_by : Limits → List Token → Reading → List SourceFault
faults_by limits ts (ends left) =
    other_faults limits true (take (length ts - length left) ts) (take (length ts - suc (length left)) ts)
faults_by limits ts (wanted left) =
    other_faults limits false (take (before_wanted ts left) ts) (take (before_wanted ts left) ts)
    ++ option_to_list (wanted_word ts (wanted left))

-- DIVISION is wanted behind the word PROCEDURE. Where that is the last token, the tokens end too
-- early.
abbrev pub with_procedure : Reading → Reading
with_procedure (ends []) = wanted 0
with_procedure (ends (t ∷ ts)) = ends (t ∷ ts)
with_procedure (wanted left) = wanted left

-- how reading goes up to the word PROCEDURE, and whether a token stands behind it
abbrev pub division_reading : List Token → Reading
division_reading ts = with_procedure (reading alternatives_of data_division ts)

-- all faults of the tokens of a source up to the word PROCEDURE
abbrev pub data_faults : List Token → List SourceFault
data_faults ts = faults_by limits ts (division_reading ts)

-- the fault that is told
abbrev pub data_fault : List Token → Option SourceFault
data_fault ts = first (data_faults ts)
