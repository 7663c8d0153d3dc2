-- Worked sources: where another word or sign is wanted, worked out by hand.
use Rattle.std.proofs.Common.{◌≡◌, ℕ, List, [], ◌∷◌, Option, Some, None, refl, codes}
use Rattle.cob_lex.specs.declared.fault.SourceFault.{SourceFault}
use Rattle.cob_lex.specs.declared.fault.SourceKind.TheVariants as faults
use Rattle.cob_lex.specs.declared.token.Token.{Token}
use Rattle.cob_lex.specs.Fronts.{front_of}
use Rattle.cob_lex.specs.Lexing.{lines_tokens, text_tokens, tokens_of}
use Rattle.cob_forms.specs.Forms.{next, reading}
use Rattle.cob_forms.specs.Faults.{fault, wanted_word}
use Rattle.cob_lex.proofs.Programs.{echo, leaver, orders, source}
use Rattle.cob_data.proofs.Sources.{tokens_in, items, entries}
use Rattle.cob_data.specs.Forms.{data_division, alternatives_of}

abbrev asked_of : List Token → Option SourceFault
asked_of tokens = wanted_word tokens (reading alternatives_of data_division tokens)

-- where another word or sign is wanted in a source
abbrev asked : List ℕ → Option SourceFault
asked source = asked_of (tokens_in (tokens_of source))

-- a whole program
echo_is_read : asked (echo) ≡ None
unfolding lines_tokens text_tokens front_of next reading
echo_is_read = refl

-- a program without sections
leaver_is_read : asked (leaver) ≡ None
unfolding lines_tokens text_tokens front_of next reading
leaver_is_read = refl

-- a program with all headers
orders_is_read : asked (orders) ≡ None
unfolding lines_tokens text_tokens front_of next reading
orders_is_read = refl

-- PROGRAM-ID comes behind the first header
program_id : asked (source (codes "       IDENTIFICATION DIVISION." ∷ codes "       DATA DIVISION." ∷ [])) ≡ Some (fault 2 8 faults.WantedWord)
unfolding lines_tokens text_tokens front_of next reading
program_id = refl

-- the name of a program is any word
reserved_program : asked (source (codes "       IDENTIFICATION DIVISION." ∷ codes "       PROGRAM-ID. TEXT." ∷ codes "       DATA DIVISION." ∷ codes "       PROCEDURE DIVISION." ∷ [])) ≡ None
unfolding lines_tokens text_tokens front_of next reading
reserved_program = refl

-- and not a number
number_of_program : asked (source (codes "       IDENTIFICATION DIVISION." ∷ codes "       PROGRAM-ID. 12." ∷ [])) ≡ Some (fault 2 20 faults.WantedWord)
unfolding lines_tokens text_tokens front_of next reading
number_of_program = refl

-- SOURCE-COMPUTER comes first
object_first : asked (source (codes "       IDENTIFICATION DIVISION." ∷ codes "       PROGRAM-ID. P." ∷ codes "       ENVIRONMENT DIVISION." ∷ codes "       CONFIGURATION SECTION." ∷ codes "       OBJECT-COMPUTER. A." ∷ codes "       SOURCE-COMPUTER. A." ∷ [])) ≡ Some (fault 6 8 faults.WantedWord)
unfolding lines_tokens text_tokens front_of next reading
object_first = refl

-- the Data Division is needed
no_data_division : asked (source (codes "       IDENTIFICATION DIVISION." ∷ codes "       PROGRAM-ID. P." ∷ codes "       PROCEDURE DIVISION." ∷ [])) ≡ Some (fault 3 8 faults.WantedWord)
unfolding lines_tokens text_tokens front_of next reading
no_data_division = refl

-- Working-Storage comes first
storage_last : asked (source (codes "       IDENTIFICATION DIVISION." ∷ codes "       PROGRAM-ID. P." ∷ codes "       DATA DIVISION." ∷ codes "       COMMUNICATION SECTION." ∷ codes "       WORKING-STORAGE SECTION." ∷ [])) ≡ Some (fault 5 8 faults.WantedWord)
unfolding lines_tokens text_tokens front_of next reading
storage_last = refl

-- the last token is told where PROCEDURE does not come
no_procedure : asked (source (codes "       IDENTIFICATION DIVISION." ∷ codes "       PROGRAM-ID. P." ∷ codes "       DATA DIVISION." ∷ [])) ≡ Some (fault 3 21 faults.WantedWord)
unfolding lines_tokens text_tokens front_of next reading
no_procedure = refl

-- the section may be empty
no_items : asked (items []) ≡ None
unfolding lines_tokens text_tokens front_of next reading
no_items = refl

-- items with the clauses in either order
some_items : asked (items (codes "       01  A." ∷ codes "           02 FILLER PIC X." ∷ codes "           02 B VALUE IS \"A\" PICTURE IS X(2)." ∷ codes "       77  C PIC 9(3) VALUE ZERO." ∷ [])) ≡ None
unfolding lines_tokens text_tokens front_of next reading
some_items = refl

-- any number is a level here
high_level : asked (items (codes "       50  A PIC X." ∷ [])) ≡ None
unfolding lines_tokens text_tokens front_of next reading
high_level = refl

-- an item has a name or FILLER
item_without_name : asked (items (codes "       01  PIC X." ∷ [])) ≡ Some (fault 5 12 faults.WantedWord)
unfolding lines_tokens text_tokens front_of next reading
item_without_name = refl

-- PIC wants a picture
no_picture : asked (items (codes "       01  A PIC ." ∷ [])) ≡ Some (fault 5 18 faults.WantedWord)
unfolding lines_tokens text_tokens front_of next reading
no_picture = refl

-- there is one PIC
two_pictures : asked (items (codes "       01  A PIC X PIC X." ∷ [])) ≡ Some (fault 5 20 faults.WantedWord)
unfolding lines_tokens text_tokens front_of next reading
two_pictures = refl

-- a value is no name
value_of_name : asked (items (codes "       01  A PIC X VALUE B." ∷ [])) ≡ Some (fault 5 26 faults.WantedWord)
unfolding lines_tokens text_tokens front_of next reading
value_of_name = refl

-- an item ends with a period
item_without_end : asked (items (codes "       01  A PIC X" ∷ codes "       01  B PIC X." ∷ [])) ≡ Some (fault 6 8 faults.WantedWord)
unfolding lines_tokens text_tokens front_of next reading
item_without_end = refl

-- the section may be empty
no_entries : asked (entries []) ≡ None
unfolding lines_tokens text_tokens front_of next reading
no_entries = refl

-- clauses of an input CD in any order
clauses : asked (entries (codes "       CD  C INPUT STATUS KEY IS S COUNT N QUEUE Q" ∷ codes "           MESSAGE DATE D MESSAGE TIME IS T MESSAGE COUNT M SOURCE R" ∷ codes "           SYMBOLIC SUB-QUEUE-1 IS S1 END KEY E TEXT LENGTH L." ∷ [])) ≡ None
unfolding lines_tokens text_tokens front_of next reading
clauses = refl

-- none is needed
no_clauses : asked (entries (codes "       CD  C FOR INITIAL INPUT." ∷ codes "       CD  D OUTPUT." ∷ [])) ≡ None
unfolding lines_tokens text_tokens front_of next reading
no_clauses = refl

-- eleven names or FILLERs
eleven_names : asked (entries (codes "       CD  C INPUT A B FILLER D E F G H I J K." ∷ codes "       01  R PIC X(87)." ∷ [])) ≡ None
unfolding lines_tokens text_tokens front_of next reading
eleven_names = refl

-- and not ten
ten_names : asked (entries (codes "       CD  C INPUT A B FILLER D E F G H I J." ∷ [])) ≡ Some (fault 5 44 faults.WantedWord)
unfolding lines_tokens text_tokens front_of next reading
ten_names = refl

-- nor twelve
twelve_names : asked (entries (codes "       CD  C INPUT A B FILLER D E F G H I J K L." ∷ [])) ≡ Some (fault 5 47 faults.WantedWord)
unfolding lines_tokens text_tokens front_of next reading
twelve_names = refl

-- a clause has a name
filler_in_clause : asked (entries (codes "       CD  C INPUT QUEUE IS FILLER." ∷ [])) ≡ Some (fault 5 29 faults.WantedWord)
unfolding lines_tokens text_tokens front_of next reading
filler_in_clause = refl

-- INITIAL is of input
initial_output : asked (entries (codes "       CD  C INITIAL OUTPUT." ∷ [])) ≡ Some (fault 5 22 faults.WantedWord)
unfolding lines_tokens text_tokens front_of next reading
initial_output = refl

-- clauses of an output CD
destinations : asked (entries (codes "       CD  C FOR OUTPUT DESTINATION COUNT N TEXT LENGTH L STATUS KEY S" ∷ codes "           DESTINATION TABLE OCCURS 3 TIMES ERROR KEY E DESTINATION D" ∷ codes "           SYMBOLIC DESTINATION IS F." ∷ [])) ≡ None
unfolding lines_tokens text_tokens front_of next reading
destinations = refl

-- a queue is of input
queue_of_output : asked (entries (codes "       CD  C OUTPUT QUEUE Q." ∷ [])) ≡ Some (fault 5 21 faults.WantedWord)
unfolding lines_tokens text_tokens front_of next reading
queue_of_output = refl

-- OCCURS wants a number
table_of_name : asked (entries (codes "       CD  C OUTPUT DESTINATION TABLE OCCURS N." ∷ [])) ≡ Some (fault 5 46 faults.WantedWord)
unfolding lines_tokens text_tokens front_of next reading
table_of_name = refl
