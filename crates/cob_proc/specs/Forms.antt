-- The forms of the Procedure Division, as lists of parts.
use Rattle.std.specs.Prelude.{ℕ, List, [], ◌∷◌, ◌++◌, codes}
use Rattle.cob_lex.specs.declared.token.TokenKind.TheVariants as tokens
use Rattle.cob_forms.specs.Sorts.{Sort, reserved, name, of_kind}
use Rattle.cob_forms.specs.Forms.{Part, Alternatives, token, form, maybe, more, never, with_tail}

pub data Form : Type 0 where
  paragraph sentence statement inner : Form
  identifier subscript subscript_value operand addend : Form
  condition simple joined and_part or_part test behind_is behind_not comparison compared_is compared_not : Form
  otherwise no_data : Form
  through repetition : Form
  unit_of_text : Form
  sending ending indicator advancing advanced lines line_word : Form
  switched key_value : Form
  word_to word_than word_with word_message word_terminal : Form

-- parts by their words
abbrev pub the : List ℕ → Part Form
the text = token (reserved text)

abbrev pub a_name : Part Form
a_name = token name

abbrev pub a_number : Sort
a_number = of_kind tokens.Number

abbrev pub a_literal : Sort
a_literal = of_kind tokens.Literal

abbrev pub period : Sort
period = of_kind tokens.Period

-- SPACE, ZERO and their kin
abbrev pub figurative_alternatives : Alternatives Form
figurative_alternatives =
    (reserved (codes "SPACE"), []) ∷ (reserved (codes "SPACES"), []) ∷ (reserved (codes "ZERO"), [])
    ∷ (reserved (codes "ZEROS"), []) ∷ (reserved (codes "ZEROES"), []) ∷ []

-- an identifier: a name, maybe with a subscript
abbrev pub identifier_alternatives : Alternatives Form
identifier_alternatives = (name, maybe subscript ∷ []) ∷ []

-- what is no identifier
abbrev pub constant_alternatives : Alternatives Form
constant_alternatives = (a_literal, []) ∷ (a_number, []) ∷ figurative_alternatives

-- an identifier or a number
abbrev pub addend_alternatives : Alternatives Form
addend_alternatives = (name, maybe subscript ∷ []) ∷ (a_number, []) ∷ []

-- the relations, each with its second operand
abbrev pub relation_alternatives : Alternatives Form
relation_alternatives =
    (of_kind tokens.Equal, form operand ∷ []) ∷ (reserved (codes "EQUAL"), maybe word_to ∷ form operand ∷ [])
    ∷ (of_kind tokens.Greater, form operand ∷ []) ∷ (reserved (codes "GREATER"), maybe word_than ∷ form operand ∷ [])
    ∷ (of_kind tokens.Less, form operand ∷ []) ∷ (reserved (codes "LESS"), maybe word_than ∷ form operand ∷ []) ∷ []

abbrev pub numeric_alternatives : Alternatives Form
numeric_alternatives = (reserved (codes "NUMERIC"), []) ∷ relation_alternatives

-- the statements that stand everywhere, without RECEIVE
abbrev pub plain_alternatives : Alternatives Form
plain_alternatives =
    (reserved (codes "MOVE"), form operand ∷ the (codes "TO") ∷ form identifier ∷ more identifier ∷ [])
    ∷ (reserved (codes "ADD"), form addend ∷ the (codes "TO") ∷ form identifier ∷ [])
    ∷ (reserved (codes "SUBTRACT"), form addend ∷ the (codes "FROM") ∷ form identifier ∷ [])
    ∷ (reserved (codes "PERFORM"), a_name ∷ maybe through ∷ maybe repetition ∷ [])
    ∷ (reserved (codes "GO"), maybe word_to ∷ a_name ∷ [])
    ∷ (reserved (codes "EXIT"), [])
    ∷ (reserved (codes "STOP"), the (codes "RUN") ∷ [])
    ∷ (reserved (codes "SEND"), a_name ∷ form sending ∷ [])
    ∷ (reserved (codes "ENABLE"), form switched ∷ a_name ∷ maybe word_with ∷ the (codes "KEY") ∷ form key_value ∷ [])
    ∷ (reserved (codes "DISABLE"), form switched ∷ a_name ∷ maybe word_with ∷ the (codes "KEY") ∷ form key_value ∷ [])
    ∷ (reserved (codes "ACCEPT"), a_name ∷ maybe word_message ∷ the (codes "COUNT") ∷ []) ∷ []

abbrev pub receiving : List (Part Form)
receiving = a_name ∷ form unit_of_text ∷ the (codes "INTO") ∷ form identifier ∷ []

-- the statements inside NO DATA
abbrev pub inner_alternatives : Alternatives Form
inner_alternatives = (reserved (codes "RECEIVE"), receiving) ∷ plain_alternatives

abbrev pub statement_alternatives : Alternatives Form
statement_alternatives =
    (reserved (codes "IF"), form condition ∷ form statement ∷ more statement ∷ maybe otherwise ∷ [])
    ∷ (reserved (codes "RECEIVE"), receiving ++ maybe no_data ∷ []) ∷ plain_alternatives

-- ESI, EMI and EGI, each with what may follow
abbrev pub indicator_alternatives : List (Part Form) → Alternatives Form
indicator_alternatives parts =
    (reserved (codes "ESI"), parts) ∷ (reserved (codes "EMI"), parts) ∷ (reserved (codes "EGI"), parts) ∷ []

abbrev pub ending_alternatives : Alternatives Form
ending_alternatives = (reserved (codes "WITH"), form indicator ∷ maybe advancing ∷ []) ∷ indicator_alternatives (maybe advancing ∷ [])

abbrev pub lines_alternatives : Alternatives Form
lines_alternatives =
    (name, maybe subscript ∷ maybe line_word ∷ []) ∷ (a_number, maybe line_word ∷ [])
    ∷ (reserved (codes "PAGE"), []) ∷ []

-- each form by the sorts with which it begins
abbrev pub alternatives_of : Form → Alternatives Form
alternatives_of paragraph = (name, token period ∷ more sentence ∷ []) ∷ []
alternatives_of sentence = with_tail (more statement ∷ token period ∷ []) statement_alternatives
alternatives_of statement = statement_alternatives
alternatives_of inner = inner_alternatives
alternatives_of identifier = identifier_alternatives
alternatives_of subscript = (of_kind tokens.Open, form subscript_value ∷ token (of_kind tokens.Close) ∷ []) ∷ []
alternatives_of subscript_value = (name, []) ∷ (a_number, []) ∷ []
alternatives_of operand = identifier_alternatives ++ constant_alternatives
alternatives_of addend = addend_alternatives
alternatives_of condition = with_tail (maybe joined ∷ []) ((name, maybe subscript ∷ form test ∷ []) ∷ with_tail (form comparison ∷ []) constant_alternatives)
alternatives_of simple = (name, maybe subscript ∷ form test ∷ []) ∷ with_tail (form comparison ∷ []) constant_alternatives
alternatives_of joined =
    (reserved (codes "AND"), form simple ∷ more and_part ∷ [])
    ∷ (reserved (codes "OR"), form simple ∷ more or_part ∷ []) ∷ []
alternatives_of and_part = (reserved (codes "AND"), form simple ∷ []) ∷ []
alternatives_of or_part = (reserved (codes "OR"), form simple ∷ []) ∷ []
alternatives_of test = (reserved (codes "IS"), form behind_is ∷ []) ∷ (reserved (codes "NOT"), form behind_not ∷ []) ∷ numeric_alternatives
alternatives_of behind_is = (reserved (codes "NOT"), form behind_not ∷ []) ∷ numeric_alternatives
alternatives_of behind_not = numeric_alternatives
alternatives_of comparison = (reserved (codes "IS"), form compared_is ∷ []) ∷ (reserved (codes "NOT"), form compared_not ∷ []) ∷ relation_alternatives
alternatives_of compared_is = (reserved (codes "NOT"), form compared_not ∷ []) ∷ relation_alternatives
alternatives_of compared_not = relation_alternatives
alternatives_of otherwise = (reserved (codes "ELSE"), form statement ∷ more statement ∷ []) ∷ []
alternatives_of no_data = (reserved (codes "NO"), the (codes "DATA") ∷ form inner ∷ more inner ∷ never (reserved (codes "IF")) ∷ []) ∷ []
alternatives_of through = (reserved (codes "THRU"), a_name ∷ []) ∷ (reserved (codes "THROUGH"), a_name ∷ []) ∷ []
alternatives_of repetition =
    (name, maybe subscript ∷ the (codes "TIMES") ∷ []) ∷ (a_number, the (codes "TIMES") ∷ [])
    ∷ (reserved (codes "UNTIL"), form condition ∷ []) ∷ []
alternatives_of unit_of_text = (reserved (codes "MESSAGE"), []) ∷ (reserved (codes "SEGMENT"), []) ∷ []
alternatives_of sending = (reserved (codes "FROM"), form identifier ∷ maybe ending ∷ []) ∷ ending_alternatives
alternatives_of ending = ending_alternatives
alternatives_of indicator = (name, maybe subscript ∷ []) ∷ indicator_alternatives []
alternatives_of advancing = (reserved (codes "BEFORE"), form advanced ∷ []) ∷ (reserved (codes "AFTER"), form advanced ∷ []) ∷ []
alternatives_of advanced = (reserved (codes "ADVANCING"), form lines ∷ []) ∷ lines_alternatives
alternatives_of lines = lines_alternatives
alternatives_of line_word = (reserved (codes "LINE"), []) ∷ (reserved (codes "LINES"), []) ∷ []
alternatives_of switched = (reserved (codes "INPUT"), maybe word_terminal ∷ []) ∷ (reserved (codes "OUTPUT"), []) ∷ []
alternatives_of key_value = (name, maybe subscript ∷ []) ∷ (a_literal, []) ∷ []
alternatives_of word_to = (reserved (codes "TO"), []) ∷ []
alternatives_of word_than = (reserved (codes "THAN"), []) ∷ []
alternatives_of word_with = (reserved (codes "WITH"), []) ∷ []
alternatives_of word_message = (reserved (codes "MESSAGE"), []) ∷ []
alternatives_of word_terminal = (reserved (codes "TERMINAL"), []) ∷ []

-- the whole division, from the word PROCEDURE to the end of the source
abbrev pub procedure_division : List (Part Form)
procedure_division =
    the (codes "PROCEDURE") ∷ the (codes "DIVISION") ∷ token period ∷ form paragraph ∷ more paragraph ∷ []
