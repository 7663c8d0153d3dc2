-- The forms of the divisions before the Procedure Division, as lists of parts.
use Rattle.std.specs.Prelude.{ℕ, List, [], ◌∷◌, ◌++◌, codes}
use Rattle.cob_lex.specs.declared.token.TokenKind.TheVariants as tokens
use Rattle.cob_forms.specs.Sorts.{Sort, reserved, name, any_word, of_kind}
use Rattle.cob_forms.specs.Forms.{Part, Alternatives, token, form, maybe, more, with_tail}

-- the forms of headers, items, CD entries and their parts
pub data Form : Type 0 where
  environment configuration source_computer object_computer working_storage communication : Form
  item name_or_filler clauses behind_picture behind_value value : Form
  cd_entry cd_use direction input_body in_clause symbolic_field message_field output_body out_clause destination_clause : Form
  word_is word_times : Form

-- a reserved word as a part
abbrev pub the : List ℕ → Part Form
the text = token (reserved text)

-- a name as a part
abbrev pub a_name : Part Form
a_name = token name

-- a period that ends an entry
abbrev pub period : Sort
period = of_kind tokens.Period

-- [IS] name
abbrev pub is_and_name : List (Part Form)
is_and_name = maybe word_is ∷ a_name ∷ []

-- PIC or PICTURE, with what may follow its picture
abbrev pub picture_alternatives : List (Part Form) → Alternatives Form
picture_alternatives parts =
    (reserved (codes "PIC"), maybe word_is ∷ token (of_kind tokens.Picture) ∷ parts)
    ∷ (reserved (codes "PICTURE"), maybe word_is ∷ token (of_kind tokens.Picture) ∷ parts) ∷ []

-- VALUE, with what may follow its value
abbrev pub value_alternatives : List (Part Form) → Alternatives Form
value_alternatives parts = (reserved (codes "VALUE"), maybe word_is ∷ form value ∷ parts) ∷ []

-- the queue names and the source, behind SYMBOLIC or without it
abbrev pub symbolic_alternatives : List (Part Form) → Alternatives Form
symbolic_alternatives parts =
    (reserved (codes "QUEUE"), parts) ∷ (reserved (codes "SUB-QUEUE-1"), parts)
    ∷ (reserved (codes "SUB-QUEUE-2"), parts)
    ∷ (reserved (codes "SUB-QUEUE-3"), parts) ∷ (reserved (codes "SOURCE"), parts) ∷ []

-- a clause of an input CD
abbrev pub in_clause_alternatives : Alternatives Form
in_clause_alternatives =
    (reserved (codes "SYMBOLIC"), form symbolic_field ∷ []) ∷ symbolic_alternatives is_and_name
    ++ (reserved (codes "MESSAGE"), form message_field ∷ is_and_name)
    ∷ (reserved (codes "TEXT"), the (codes "LENGTH") ∷ is_and_name)
    ∷ (reserved (codes "END"), the (codes "KEY") ∷ is_and_name)
    ∷ (reserved (codes "STATUS"), the (codes "KEY") ∷ is_and_name)
    ∷ (reserved (codes "COUNT"), is_and_name) ∷ []

-- a clause of an output CD
abbrev pub out_clause_alternatives : Alternatives Form
out_clause_alternatives =
    (reserved (codes "DESTINATION"), form destination_clause ∷ [])
    ∷ (reserved (codes "SYMBOLIC"), the (codes "DESTINATION") ∷ is_and_name)
    ∷ (reserved (codes "TEXT"), the (codes "LENGTH") ∷ is_and_name)
    ∷ (reserved (codes "STATUS"), the (codes "KEY") ∷ is_and_name)
    ∷ (reserved (codes "ERROR"), the (codes "KEY") ∷ is_and_name) ∷ []

-- the other ten of the eleven names of an input CD, and then its end
abbrev pub ten_more : List (Part Form)
ten_more =
    form name_or_filler ∷ form name_or_filler ∷ form name_or_filler ∷ form name_or_filler
    ∷ form name_or_filler
    ∷ form name_or_filler ∷ form name_or_filler ∷ form name_or_filler ∷ form name_or_filler
    ∷ form name_or_filler
    ∷ token period ∷ []

-- INITIAL INPUT, INPUT or OUTPUT, with what follows
abbrev pub direction_alternatives : Alternatives Form
direction_alternatives =
    (reserved (codes "INITIAL"), the (codes "INPUT") ∷ form input_body ∷ [])
    ∷ (reserved (codes "INPUT"), form input_body ∷ [])
    ∷ (reserved (codes "OUTPUT"), form output_body ∷ []) ∷ []

-- each form by the sorts with which it begins
abbrev pub alternatives_of : Form → Alternatives Form
alternatives_of environment = (
  reserved (codes "ENVIRONMENT"),
  the (codes "DIVISION")
      ∷ token period ∷ maybe configuration ∷ [],
) ∷ []
alternatives_of configuration = (
  reserved (codes "CONFIGURATION"),
  the (codes "SECTION") ∷ token period ∷ maybe source_computer
      ∷ maybe object_computer ∷ [],
) ∷ []
alternatives_of source_computer = (
  reserved (codes "SOURCE-COMPUTER"),
  token period
      ∷ token any_word ∷ token period ∷ [],
) ∷ []
alternatives_of object_computer = (
  reserved (codes "OBJECT-COMPUTER"),
  token period
      ∷ token any_word ∷ token period ∷ [],
) ∷ []
alternatives_of working_storage = (
  reserved (codes "WORKING-STORAGE"),
  the (codes "SECTION")
      ∷ token period ∷ more item ∷ [],
) ∷ []
alternatives_of communication = (
  reserved (codes "COMMUNICATION"),
  the (codes "SECTION")
      ∷ token period ∷ more cd_entry ∷ [],
) ∷ []
alternatives_of item = (of_kind tokens.Number, form name_or_filler ∷ form clauses ∷ []) ∷ []
alternatives_of name_or_filler = (name, []) ∷ (reserved (codes "FILLER"), []) ∷ []
alternatives_of clauses = (period, []) ∷ picture_alternatives (form behind_picture ∷ [])
    ++ value_alternatives (form behind_value ∷ [])
alternatives_of behind_picture = (period, []) ∷ value_alternatives (token period ∷ [])
alternatives_of behind_value = (period, []) ∷ picture_alternatives (token period ∷ [])
alternatives_of value =
    (of_kind tokens.Literal, []) ∷ (of_kind tokens.Number, []) ∷ (reserved (codes "SPACE"), [])
    ∷ (reserved (codes "SPACES"), [])
    ∷ (reserved (codes "ZERO"), []) ∷ (reserved (codes "ZEROS"), [])
    ∷ (reserved (codes "ZEROES"), []) ∷ []
alternatives_of cd_entry = (reserved (codes "CD"), a_name ∷ form cd_use ∷ more item ∷ []) ∷ []
alternatives_of cd_use = (reserved (codes "FOR"), form direction ∷ []) ∷ direction_alternatives
alternatives_of direction = direction_alternatives
alternatives_of input_body =
    (period, []) ∷ (name, ten_more) ∷ (reserved (codes "FILLER"), ten_more)
    ∷ with_tail (more in_clause ∷ token period ∷ []) in_clause_alternatives
alternatives_of in_clause = in_clause_alternatives
alternatives_of symbolic_field = symbolic_alternatives is_and_name
alternatives_of message_field = (reserved (codes "DATE"), []) ∷ (reserved (codes "TIME"), [])
    ∷ (reserved (codes "COUNT"), []) ∷ []
alternatives_of output_body = (period, [])
    ∷ with_tail (more out_clause ∷ token period ∷ []) out_clause_alternatives
alternatives_of out_clause = out_clause_alternatives
alternatives_of destination_clause =
    (reserved (codes "COUNT"), is_and_name)
    ∷ (
      reserved (codes "TABLE"),
      the (codes "OCCURS") ∷ token (of_kind tokens.Number)
          ∷ maybe word_times ∷ [],
    )
    ∷ (reserved (codes "IS"), a_name ∷ []) ∷ (name, []) ∷ []
alternatives_of word_is = (reserved (codes "IS"), []) ∷ []
alternatives_of word_times = (reserved (codes "TIMES"), []) ∷ []

-- the divisions up to the word PROCEDURE
abbrev pub before_procedure : List (Part Form)
before_procedure =
    the (codes "IDENTIFICATION") ∷ the (codes "DIVISION") ∷ token period
    ∷ the (codes "PROGRAM-ID") ∷ token period ∷ token any_word ∷ token period
    ∷ maybe environment
    ∷ the (codes "DATA") ∷ the (codes "DIVISION") ∷ token period
    ∷ maybe working_storage ∷ maybe communication ∷ []

-- the divisions from the first token to the word PROCEDURE
abbrev pub data_division : List (Part Form)
data_division = before_procedure ++ the (codes "PROCEDURE") ∷ []
