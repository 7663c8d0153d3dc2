-- The pass names and kinds: which names a Procedure Division may use where, and how long items are.
use Rattle.std.specs.Prelude.{ℕ, Bool, true, false, not, ◌&&◌, nat_le, List, [], ◌∷◌, ◌++◌, length, Option, Some, None, bytes_eq}
use Rattle.std.specs.List.{flat_map, list_any}
use Rattle.com_text.specs.Digits.{number}
use Rattle.com_msg.specs.declared.sending.TheConstants.{MAX_LINES}
use Rattle.com_events.specs.declared.call.TheConstants.{MAX_KEY_LENGTH}
use Rattle.cob_lex.specs.declared.fault.SourceFault.{SourceFault}
use Rattle.cob_lex.specs.declared.fault.SourceKind.{SourceKind}
use Rattle.cob_lex.specs.declared.fault.SourceKind.TheVariants as faults
use Rattle.cob_forms.specs.Faults.{fault}
use Rattle.cob_forms.specs.declared.written.Name.{Name}
use Rattle.cob_forms.specs.declared.written.Position.{Position}
use Rattle.cob_proc.specs.declared.tree.Addend.{Addend}
use Rattle.cob_proc.specs.declared.tree.Addend.TheVariants as addends
use Rattle.cob_proc.specs.declared.tree.Advancing.{Advancing}
use Rattle.cob_proc.specs.declared.tree.Condition.{Condition}
use Rattle.cob_proc.specs.declared.tree.Ending.{Ending}
use Rattle.cob_proc.specs.declared.tree.Identifier.{Identifier}
use Rattle.cob_proc.specs.declared.tree.Indicator.{Indicator}
use Rattle.cob_proc.specs.declared.tree.Indicator.TheVariants as indicators
use Rattle.cob_proc.specs.declared.tree.Key.{Key}
use Rattle.cob_proc.specs.declared.tree.Key.TheVariants as keys
use Rattle.cob_proc.specs.declared.tree.Lines.{Lines}
use Rattle.cob_proc.specs.declared.tree.Lines.TheVariants as lines
use Rattle.cob_proc.specs.declared.tree.Operand.{Operand}
use Rattle.cob_proc.specs.declared.tree.Operand.TheVariants as operands
use Rattle.cob_proc.specs.declared.tree.Repetition.{Repetition}
use Rattle.cob_proc.specs.declared.tree.Repetition.TheVariants as repetitions
use Rattle.cob_proc.specs.declared.tree.Simple.{Simple}
use Rattle.cob_proc.specs.declared.tree.Simple.TheVariants as simples
use Rattle.cob_proc.specs.declared.tree.Subscript.{Subscript}
use Rattle.cob_proc.specs.declared.tree.Subscript.TheVariants as subscripts
use Rattle.cob_proc.specs.Trees.{Plain, moves, adds, subtracts, performs, goes, exits, stops, sends, switches_input, switches_output, accepts, Tree, plain, branches, receives, Block, none, lead, ParagraphTree}
use Rattle.cob_data.specs.declared.tree.ItemPlace.{ItemPlace}
use Rattle.cob_data.specs.declared.tree.ItemSort.{ItemSort}
use Rattle.cob_data.specs.declared.tree.ItemSort.TheVariants.{Alphanumeric, Numeric, Group}
use Rattle.cob_data.specs.Layout.{Referent, data_at, input_cd, output_cd}
use Rattle.cob_meaning.specs.Layouts.{Layout, item_of, referent}
use Rattle.cob_meaning.specs.Meaning.{Program}

-- A part has the faults of its own and of what it has. The first of all, by place and then by kind,
-- is the one that is reported.

-- the fault at a place
abbrev pub fault_at : Position → SourceKind → SourceFault
fault_at position kind = fault position.line position.column kind

-- a fault, unless something holds
abbrev pub fault_unless : Bool → Position → SourceKind → List SourceFault
fault_unless true position kind = []
fault_unless false position kind = fault_at position kind ∷ []

-- whether items of a sort are numbers
abbrev pub is_numeric : ItemSort → Bool
is_numeric Numeric = true
is_numeric Alphanumeric = false
is_numeric Group = false

-- a rule for an item, beside that it is one, with the place of its name
abbrev pub ItemRule : Type 0
ItemRule = Position → ItemPlace → List SourceFault

-- no rule
abbrev pub any_item : ItemRule
any_item position item = []

-- it is numeric
abbrev pub numeric_item : ItemRule
numeric_item position item = fault_unless (is_numeric item.sort) position faults.WrongKind

-- it has at least and at most these numbers of characters
abbrev pub item_of_length : ℕ → ℕ → ItemRule
item_of_length least most position item =
    fault_unless (nat_le least item.length && nat_le item.length most) position faults.WrongLength

-- a name that stands for data, with further rules for these: it is declared, and it is no CD's
abbrev pub data_faults_by : Option Referent → Position → (ItemPlace → Option ℕ → List SourceFault)
    → List SourceFault
data_faults_by None position others = fault_at position faults.UnknownName ∷ []
data_faults_by (Some (data_at place occurs)) position others = others place occurs
data_faults_by (Some (input_cd area)) position others = fault_at position faults.WrongKind ∷ []
data_faults_by (Some (output_cd area occurrences)) position others =
    fault_at position faults.WrongKind ∷ []

-- the same of a name of a program
abbrev pub data_faults : Layout → Name → (ItemPlace → Option ℕ → List SourceFault)
    → List SourceFault
data_faults layout name others = data_faults_by (referent layout name) name.position others

-- whether data occurs once, so that it has no subscript
abbrev pub is_single : Option ℕ → Bool
is_single None = true
is_single (Some occurs) = false

-- a subscript of a table: a number of one of its occurrences, or a numeric item without a subscript
abbrev pub subscript_faults : Layout → ℕ → Subscript → List SourceFault
subscript_faults layout occurs (subscripts.Number position n) =
    fault_unless
    (nat_le 1 (number n.digits) && nat_le (number n.digits) occurs) n.position faults.WrongKind
subscript_faults layout occurs (subscripts.Item position name) =
    data_faults layout name
    (λ item times.
    fault_unless (is_single times && is_numeric item.sort) name.position faults.WrongKind)

-- the place of a subscript's parenthesis
abbrev pub subscript_position : Subscript → Position
subscript_position (subscripts.Number position n) = position
subscript_position (subscripts.Item position name) = position

-- a subscript is written exactly with a name of a table
abbrev pub subscripted_faults : Layout → Position → Option ℕ → Option Subscript → List SourceFault
subscripted_faults layout position None None = []
subscripted_faults layout position None (Some subscript) =
    fault_at (subscript_position subscript) faults.WrongKind ∷ []
subscripted_faults layout position (Some occurs) None = fault_at position faults.WrongKind ∷ []
subscripted_faults layout position (Some occurs) (Some subscript) =
    subscript_faults layout occurs subscript

-- an identifier, with a rule for its item
abbrev pub identifier_faults : Layout → ItemRule → Identifier → List SourceFault
identifier_faults layout rule identifier =
    data_faults layout identifier.name
    (λ item occurs.
    rule identifier.name.position item
    ++ subscripted_faults layout identifier.name.position occurs identifier.subscript)

-- what is added, subtracted or counted is a numeric item or a number
abbrev pub addend_faults : Layout → Addend → List SourceFault
addend_faults layout (addends.Item identifier) = identifier_faults layout numeric_item identifier
addend_faults layout (addends.Number n) = []

-- what is moved or compared
abbrev pub operand_faults : Layout → Operand → List SourceFault
operand_faults layout (operands.Item identifier) = identifier_faults layout any_item identifier
operand_faults layout _ = []

-- whether there is an item, and it is numeric
abbrev pub is_numeric_item : Option ItemPlace → Bool
is_numeric_item None = false
is_numeric_item (Some item) = is_numeric item.sort

-- whether an identifier names a numeric item
abbrev pub names_number : Layout → Identifier → Bool
names_number layout identifier = is_numeric_item (item_of layout identifier.name)

-- whether an operand is a numeric item
abbrev pub is_number_operand : Layout → Operand → Bool
is_number_operand layout (operands.Item identifier) = names_number layout identifier
is_number_operand layout _ = false

-- SPACES are not moved to a numeric item and not compared with one
abbrev pub spaces_faults : Operand → Bool → List SourceFault
spaces_faults (operands.Spaces position) beside_number =
    fault_unless (not beside_number) position faults.WrongKind
spaces_faults _ beside_number = []

-- a simple condition
abbrev pub simple_faults : Layout → Simple → List SourceFault
simple_faults layout (simples.Compares left denied relation right) =
    operand_faults layout left ++ operand_faults layout right
    ++ spaces_faults left (is_number_operand layout right)
    ++ spaces_faults right (is_number_operand layout left)
simple_faults layout (simples.Numeric identifier denied) =
    identifier_faults layout any_item identifier

-- a condition
abbrev pub condition_faults : Layout → Condition → List SourceFault
condition_faults layout condition = flat_map (simple_faults layout) condition.parts

-- a name that stands for an input CD
abbrev pub input_faults_by : Option Referent → Position → List SourceFault
input_faults_by None position = fault_at position faults.UnknownName ∷ []
input_faults_by (Some (input_cd area)) position = []
input_faults_by (Some (output_cd area occurrences)) position =
    fault_at position faults.WrongKind ∷ []
input_faults_by (Some (data_at place occurs)) position = fault_at position faults.WrongKind ∷ []

-- the same of a name of a program
abbrev pub input_faults : Layout → Name → List SourceFault
input_faults layout name = input_faults_by (referent layout name) name.position

-- a name that stands for an output CD
abbrev pub output_faults_by : Option Referent → Position → List SourceFault
output_faults_by None position = fault_at position faults.UnknownName ∷ []
output_faults_by (Some (output_cd area occurrences)) position = []
output_faults_by (Some (input_cd area)) position = fault_at position faults.WrongKind ∷ []
output_faults_by (Some (data_at place occurs)) position = fault_at position faults.WrongKind ∷ []

-- the same of a name of a program
abbrev pub output_faults : Layout → Name → List SourceFault
output_faults layout name = output_faults_by (referent layout name) name.position

-- a key has 1 to 10 characters
abbrev pub key_faults : Layout → Key → List SourceFault
key_faults layout (keys.Item identifier) =
    identifier_faults layout (item_of_length 1 MAX_KEY_LENGTH) identifier
key_faults layout (keys.Literal literal) =
    fault_unless
    (nat_le 1 (length literal.characters) && nat_le (length literal.characters) MAX_KEY_LENGTH)
    literal.position faults.WrongLength

-- an identifier that may be left out
abbrev pub some_identifier_faults : Layout → Option Identifier → List SourceFault
some_identifier_faults layout None = []
some_identifier_faults layout (Some identifier) = identifier_faults layout any_item identifier

-- the item of an indicator has one character
abbrev pub indicator_faults : Layout → Indicator → List SourceFault
indicator_faults layout (indicators.Item identifier) =
    identifier_faults layout (item_of_length 1 1) identifier
indicator_faults layout _ = []

-- a number of lines is a numeric item, or a number of at most 99
abbrev pub lines_faults : Layout → Lines → List SourceFault
lines_faults layout (lines.Count (addends.Number n)) =
    fault_unless (nat_le (number n.digits) MAX_LINES) n.position faults.OverLimit
lines_faults layout (lines.Count (addends.Item identifier)) =
    identifier_faults layout numeric_item identifier
lines_faults layout lines.Page = []

-- ADVANCING, which may be left out
abbrev pub advancing_faults : Layout → Option Advancing → List SourceFault
advancing_faults layout None = []
advancing_faults layout (Some advancing) = lines_faults layout advancing.lines

-- the end of a SEND, which may be left out
abbrev pub ending_faults : Layout → Option Ending → List SourceFault
ending_faults layout None = []
ending_faults layout (Some ending) =
    indicator_faults layout ending.indicator ++ advancing_faults layout ending.advancing

-- a name of a paragraph
abbrev pub paragraph_faults : List ParagraphTree → Name → List SourceFault
paragraph_faults text name =
    fault_unless
    (list_any (λ paragraph. bytes_eq paragraph.name.text name.text) text) name.position
    faults.UnknownName

-- the paragraph after THRU, which may be left out
abbrev pub some_paragraph_faults : List ParagraphTree → Option Name → List SourceFault
some_paragraph_faults text None = []
some_paragraph_faults text (Some name) = paragraph_faults text name

-- how often a PERFORM goes through its range
abbrev pub repetition_faults : Layout → Repetition → List SourceFault
repetition_faults layout repetitions.Once = []
repetition_faults layout (repetitions.Times counted) = addend_faults layout counted
repetition_faults layout (repetitions.Until condition) = condition_faults layout condition

module _ (layout : Layout) (text : List ParagraphTree) where
  -- a statement in which no others are
  abbrev pub plain_faults : Plain → List SourceFault
  plain_faults (moves source targets) =
      operand_faults layout source ++ flat_map (identifier_faults layout any_item) targets
      ++ spaces_faults source (list_any (names_number layout) targets)
  plain_faults (adds addend target) =
      addend_faults layout addend ++ identifier_faults layout numeric_item target
  plain_faults (subtracts addend target) =
      addend_faults layout addend ++ identifier_faults layout numeric_item target
  plain_faults (performs first last often) =
      paragraph_faults text first ++ some_paragraph_faults text last
      ++ repetition_faults layout often
  plain_faults (goes target) = paragraph_faults text target
  plain_faults exits = []
  plain_faults stops = []
  plain_faults (sends cd from ending) =
      output_faults layout cd ++ some_identifier_faults layout from ++ ending_faults layout ending
  plain_faults (switches_input on terminal cd key) = input_faults layout cd ++ key_faults layout key
  plain_faults (switches_output on cd key) = output_faults layout cd ++ key_faults layout key
  plain_faults (accepts cd) = input_faults layout cd

  abbrev mutual
    -- a statement
    pub statement_faults : Tree → List SourceFault
    statement_faults (plain statement) = plain_faults statement
    statement_faults (branches position condition one other) =
        condition_faults layout condition ++ all_faults one ++ all_faults other
    statement_faults (receives cd segment into no_data) =
        input_faults layout cd ++ identifier_faults layout any_item into ++ all_faults no_data

    -- statements one after another
    pub all_faults : Block → List SourceFault
    all_faults none = []
    all_faults (lead statement others) = statement_faults statement ++ all_faults others

  -- a paragraph
  abbrev pub sentences_faults : ParagraphTree → List SourceFault
  sentences_faults paragraph = flat_map all_faults paragraph.sentences

-- the faults of names and kinds of a program
abbrev pub names_faults : Program → List SourceFault
names_faults program = flat_map (sentences_faults program.layout program.text) program.text
