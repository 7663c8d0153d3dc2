-- Worked divisions: what the tokens of programs say, with the storage of their items, worked out by hand.
use Rattle.std.proofs.Common.{◌≡◌, ℕ, List, [], ◌∷◌, Option, Some, None, refl, codes, arith}
use Rattle.com_cd.specs.declared.input_area.InField.{InField}
use Rattle.com_cd.specs.declared.input_area.InField.TheVariants as cd
use Rattle.com_cd.specs.declared.output_area.OutField.TheVariants as out
use Rattle.cob_lex.specs.declared.token.Token.{Token}
use Rattle.cob_lex.specs.Fronts.{front_of}
use Rattle.cob_lex.specs.Lexing.{lines_tokens, text_tokens, tokens_of}
use Rattle.cob_forms.specs.declared.written.Name.{Name}
use Rattle.cob_forms.specs.declared.written.Number.{Number}
use Rattle.cob_forms.specs.declared.written.Position.{Position}
use Rattle.cob_forms.specs.Forms.{next, reading}
use Rattle.cob_lex.proofs.Programs.{echo, leaver, orders, source}
use Rattle.cob_data.specs.declared.tree.CdBody.TheVariants as bodies
use Rattle.cob_data.specs.declared.tree.DataDivision.{DataDivision}
use Rattle.cob_data.specs.declared.tree.InputClause.{InputClause}
use Rattle.cob_data.specs.declared.tree.Item.{Item}
use Rattle.cob_data.specs.declared.tree.ItemSort.{ItemSort}
use Rattle.cob_data.specs.declared.tree.ItemSort.TheVariants.{Alphanumeric, Numeric, Group}
use Rattle.cob_data.specs.declared.tree.OutputClause.TheVariants as clauses
use Rattle.cob_data.specs.declared.tree.Picture.{Picture}
use Rattle.cob_data.specs.declared.tree.ItemPlace.{ItemPlace}
use Rattle.cob_data.specs.declared.tree.Value.{Value}
use Rattle.cob_data.specs.Clauses.{input_field_of, output_field_of}
use Rattle.cob_data.specs.Divisions.{IsDivisionOf, working_storage_of, communication_of}
use Rattle.cob_data.specs.Layout.{data_at, input_cd, output_cd, declared, referent_of, opening_storage, initial_area}
use Rattle.cob_data.proofs.Sources.{tokens_in, items, entries}

abbrev position : ℕ → ℕ → Position
position line column = record { line = line; column = column }

abbrev named : List ℕ → ℕ → ℕ → Name
named text line column = record { text = text; position = position line column }

abbrev level : List ℕ → ℕ → ℕ → Number
level digits line column = record { digits = digits; position = position line column }

abbrev picture : List ℕ → ℕ → ℕ → Picture
picture text line column = record { text = text; position = position line column }

abbrev stored : ℕ → ℕ → ℕ → ItemSort → ItemPlace
stored area start length sort = record { area = area; start = start; length = length; sort = sort }

abbrev item : Number → Option Name → Option Picture → Option Value → ItemPlace → Item
item level name picture value place = record { level = level; name = name; picture = picture; value = value; place = place }

abbrev clause : ℕ → ℕ → InField → Name → InputClause
clause line column field name = record { position = position line column; field = field; name = name }

-- the divisions that tokens tell, under some program's name
abbrev division_of : List Token → DataDivision
division_of ts = record {
  program = named (codes "P") 2 20;
  source_computer = None;
  object_computer = None;
  working_storage = working_storage_of ts;
  communication = communication_of ts;
}

abbrev division_in : List ℕ → DataDivision
division_in source = division_of (tokens_in (tokens_of source))

abbrev echo_division : DataDivision
echo_division = record {
  program = named (codes "ECHO") 2 20;
  source_computer = None;
  object_computer = None;
  working_storage =
      item (level (codes "01") 5 8) (Some (named (codes "BUF") 5 12)) (Some (picture (codes "X(20)") 5 20)) None (stored 0 0 20 Alphanumeric) ∷ [];
  communication =
      (record {
        name = named (codes "INQ") 7 12;
        body = bodies.Input None (
            clause 8 12 cd.Queue (named (codes "IN-NAME") 8 30) ∷
            clause 9 12 cd.Source (named (codes "IN-FROM") 9 31) ∷
            clause 10 12 cd.Length (named (codes "IN-LEN") 10 27) ∷ []);
        area = 1;
        records = [];
      }) ∷
      (record {
        name = named (codes "OUTQ") 11 12;
        body = bodies.Output (
            clauses.Field (position 12 12) out.Count (named (codes "OUT-COUNT") 12 33) ∷
            clauses.Field (position 13 12) out.Length (named (codes "OUT-LEN") 13 27) ∷
            clauses.Field (position 14 12) (out.Destination 0) (named (codes "OUT-TO") 14 36) ∷ []);
        area = 2;
        records = [];
      }) ∷ [];
}

echo_is_told : IsDivisionOf (tokens_in (tokens_of echo)) 55 echo_division
unfolding lines_tokens text_tokens front_of next reading input_field_of output_field_of
echo_is_told = record {
  complete = refl;
  within = omega arith;
  program = refl;
  source_computer = refl;
  object_computer = refl;
  working_storage = refl;
  communication = refl;
}

-- the names of a program, with what they stand for
orders_names : declared (division_in orders) ≡
    (codes "TOTAL-QTY", data_at (stored 0 0 6 Numeric) None) ∷
    (codes "ORDER-REC", data_at (stored 1 0 18 Group) None) ∷
    (codes "ORD-KIND", data_at (stored 1 0 1 Alphanumeric) None) ∷
    (codes "ORD-NO", data_at (stored 1 1 4 Numeric) None) ∷
    (codes "ORD-ITEM", data_at (stored 1 5 10 Alphanumeric) None) ∷
    (codes "ORD-QTY", data_at (stored 1 15 3 Numeric) None) ∷
    (codes "REPLY-REC", data_at (stored 2 0 13 Group) None) ∷
    (codes "REP-WORD", data_at (stored 2 0 9 Alphanumeric) None) ∷
    (codes "REP-NO", data_at (stored 2 9 4 Alphanumeric) None) ∷
    (codes "TOTAL-REC", data_at (stored 3 0 12 Group) None) ∷
    (codes "TOT-OUT", data_at (stored 3 6 6 Numeric) None) ∷
    (codes "ORDER-IN", input_cd 4) ∷
    (codes "Q-NAME", data_at (stored 4 0 12 Alphanumeric) None) ∷
    (codes "Q-SOURCE", data_at (stored 4 62 12 Alphanumeric) None) ∷
    (codes "Q-STATUS", data_at (stored 4 79 2 Alphanumeric) None) ∷
    (codes "REPLY-OUT", output_cd 5 1) ∷
    (codes "R-COUNT", data_at (stored 5 0 4 Numeric) None) ∷
    (codes "R-LENGTH", data_at (stored 5 4 4 Numeric) None) ∷
    (codes "R-STATUS", data_at (stored 5 8 2 Alphanumeric) None) ∷
    (codes "R-ERROR", data_at (stored 5 10 1 Alphanumeric) None) ∷
    (codes "R-DEST", data_at (stored 5 11 12 Alphanumeric) None) ∷ []
unfolding lines_tokens text_tokens front_of next reading input_field_of output_field_of
orders_names = refl

-- the areas of a program as they begin
orders_opening : opening_storage (division_in orders) ≡
    codes "000000" ∷
    codes " 0000          000" ∷
    codes "             " ∷
    codes "TOTAL 000000" ∷
    codes "                                                00000000000000            0000000000000" ∷
    codes "00000000000            " ∷ []
unfolding lines_tokens text_tokens front_of next reading input_field_of output_field_of
orders_opening = refl

-- the CD that is INITIAL
orders_initial : initial_area (division_in orders) ≡ Some 4
unfolding lines_tokens text_tokens front_of next reading input_field_of output_field_of
orders_initial = refl

-- and none
echo_initial : initial_area (division_in echo) ≡ None
unfolding lines_tokens text_tokens front_of next reading input_field_of output_field_of
echo_initial = refl

-- a program without data
leaver_storage : opening_storage (division_in leaver) ≡ []
unfolding lines_tokens text_tokens front_of next reading input_field_of output_field_of
leaver_storage = refl

-- what a name stands for
name_of_a_cd : referent_of (division_in echo) (codes "OUTQ") ≡ Some (output_cd 2 1)
unfolding lines_tokens text_tokens front_of next reading input_field_of output_field_of
name_of_a_cd = refl

-- and a word that is no name
name_of_none : referent_of (division_in echo) (codes "FIRST-ONE") ≡ None
unfolding lines_tokens text_tokens front_of next reading input_field_of output_field_of
name_of_none = refl

-- the eleven names in the order of the area
listed_names : declared (division_in (entries (codes "       CD  C INPUT A B FILLER D E F" ∷ codes "           G H I J K." ∷ []))) ≡
    (codes "C", input_cd 0) ∷
    (codes "A", data_at (stored 0 0 12 Alphanumeric) None) ∷
    (codes "B", data_at (stored 0 12 12 Alphanumeric) None) ∷
    (codes "D", data_at (stored 0 36 12 Alphanumeric) None) ∷
    (codes "E", data_at (stored 0 48 6 Numeric) None) ∷
    (codes "F", data_at (stored 0 54 8 Numeric) None) ∷
    (codes "G", data_at (stored 0 62 12 Alphanumeric) None) ∷
    (codes "H", data_at (stored 0 74 4 Numeric) None) ∷
    (codes "I", data_at (stored 0 78 1 Alphanumeric) None) ∷
    (codes "J", data_at (stored 0 79 2 Alphanumeric) None) ∷
    (codes "K", data_at (stored 0 81 6 Numeric) None) ∷ []
unfolding lines_tokens text_tokens front_of next reading input_field_of output_field_of
listed_names = refl

-- and by clauses, with the same layout
claused_names : declared (division_in (entries (codes "       CD  C INPUT QUEUE A SUB-QUEUE-1 B SUB-QUEUE-3 D" ∷ codes "           MESSAGE DATE E MESSAGE TIME F SOURCE G TEXT LENGTH H" ∷ codes "           END KEY I STATUS KEY J COUNT K." ∷ []))) ≡
    (codes "C", input_cd 0) ∷
    (codes "A", data_at (stored 0 0 12 Alphanumeric) None) ∷
    (codes "B", data_at (stored 0 12 12 Alphanumeric) None) ∷
    (codes "D", data_at (stored 0 36 12 Alphanumeric) None) ∷
    (codes "E", data_at (stored 0 48 6 Numeric) None) ∷
    (codes "F", data_at (stored 0 54 8 Numeric) None) ∷
    (codes "G", data_at (stored 0 62 12 Alphanumeric) None) ∷
    (codes "H", data_at (stored 0 74 4 Numeric) None) ∷
    (codes "I", data_at (stored 0 78 1 Alphanumeric) None) ∷
    (codes "J", data_at (stored 0 79 2 Alphanumeric) None) ∷
    (codes "K", data_at (stored 0 81 6 Numeric) None) ∷ []
unfolding lines_tokens text_tokens front_of next reading input_field_of output_field_of
claused_names = refl

-- a table of destinations
table_names : declared (division_in (entries (codes "       CD  C OUTPUT ERROR KEY E DESTINATION D" ∷ codes "           DESTINATION TABLE OCCURS 3 TIMES." ∷ []))) ≡
    (codes "C", output_cd 0 3) ∷
    (codes "E", data_at (stored 0 10 1 Alphanumeric) (Some 3)) ∷
    (codes "D", data_at (stored 0 11 12 Alphanumeric) (Some 3)) ∷ []
unfolding lines_tokens text_tokens front_of next reading input_field_of output_field_of
table_names = refl

-- as it begins
table_opening : opening_storage (division_in (entries (codes "       CD  C OUTPUT DESTINATION TABLE OCCURS 2." ∷ []))) ≡
    codes "00000000000            0            " ∷ []
unfolding lines_tokens text_tokens front_of next reading input_field_of output_field_of
table_opening = refl

-- records over a CD have its area, each from its beginning
records_over_areas : declared (division_in (entries (codes "       CD  C OUTPUT." ∷ codes "       01  R." ∷ codes "           02 A PIC X(10)." ∷ codes "           02 B PIC X(13)." ∷ codes "       01  S PIC X(23)." ∷ codes "       CD  D INPUT." ∷ codes "       01  T PIC X(87)." ∷ []))) ≡
    (codes "C", output_cd 0 1) ∷
    (codes "R", data_at (stored 0 0 23 Group) None) ∷
    (codes "A", data_at (stored 0 0 10 Alphanumeric) None) ∷
    (codes "B", data_at (stored 0 10 13 Alphanumeric) None) ∷
    (codes "S", data_at (stored 0 0 23 Alphanumeric) None) ∷
    (codes "D", input_cd 1) ∷
    (codes "T", data_at (stored 1 0 87 Alphanumeric) None) ∷ []
unfolding lines_tokens text_tokens front_of next reading input_field_of output_field_of
records_over_areas = refl

-- a group has the characters of all items below it
groups_in_groups : declared (division_in (items (codes "       01  A." ∷ codes "           02 B." ∷ codes "           03 C PIC X(2)." ∷ codes "           03 D PIC 9(3)." ∷ codes "           02 E PIC X." ∷ codes "       77  F PIC X." ∷ []))) ≡
    (codes "A", data_at (stored 0 0 6 Group) None) ∷
    (codes "B", data_at (stored 0 0 5 Group) None) ∷
    (codes "C", data_at (stored 0 0 2 Alphanumeric) None) ∷
    (codes "D", data_at (stored 0 2 3 Numeric) None) ∷
    (codes "E", data_at (stored 0 5 1 Alphanumeric) None) ∷
    (codes "F", data_at (stored 1 0 1 Alphanumeric) None) ∷ []
unfolding lines_tokens text_tokens front_of next reading input_field_of output_field_of
groups_in_groups = refl

-- values are filled
values_filled : opening_storage (division_in (items (codes "       01  A." ∷ codes "           02 B PIC X(3) VALUE \"A\"." ∷ codes "           02 C PIC 9(3) VALUE 7." ∷ codes "           02 D VALUE ZERO PIC X(2)." ∷ codes "       01  E PIC X(2) VALUE SPACES." ∷ codes "       01  F PIC X(2) VALUE \"\"\"\"." ∷ []))) ≡
    codes "A  00700" ∷
    codes "  " ∷
    codes "\" " ∷ []
unfolding lines_tokens text_tokens front_of next reading input_field_of output_field_of
values_filled = refl
