-- Sources with a fault that the passes over tokens find, worked out by hand: the earliest pass that finds one
-- tells it, wherever the faults of later passes stand.
use Rattle.std.proofs.Common.{◌≡◌, ℕ, List, [], ◌∷◌, Some, None, refl, codes}
use Rattle.cob_lex.specs.declared.fault.SourceKind.TheVariants as faults
use Rattle.cob_lex.specs.Fronts.{front_of}
use Rattle.cob_lex.specs.Lexing.{lines_tokens, text_tokens}
use Rattle.cob_lex.proofs.Programs.{source}
use Rattle.cob_forms.specs.Forms.{next, reading}
use Rattle.cob_forms.specs.Faults.{fault}
use Rattle.cob_meaning.specs.Sources.{text_fault}

-- a program with an item in line 5 and a statement in line 8
abbrev with_item : List ℕ → List ℕ → List ℕ
with_item item statement = source (
    codes "       IDENTIFICATION DIVISION." ∷
    codes "       PROGRAM-ID. P." ∷
    codes "       DATA DIVISION." ∷
    codes "       WORKING-STORAGE SECTION." ∷
    item ∷
    codes "       PROCEDURE DIVISION." ∷
    codes "       MAIN." ∷
    statement ∷ [])

-- a program without data, with some lines in its Procedure Division from line 5 on
abbrev without_data : List (List ℕ) → List ℕ
without_data lines = source (
    codes "       IDENTIFICATION DIVISION." ∷
    codes "       PROGRAM-ID. P." ∷
    codes "       DATA DIVISION." ∷
    codes "       PROCEDURE DIVISION." ∷ lines)

-- no fault
all_right : text_fault (with_item (codes "       01  A PIC X(20).") (codes "           STOP RUN.")) ≡ None
unfolding lines_tokens text_tokens front_of next reading
all_right = refl

-- a bad picture: units of both sorts
bad_picture : text_fault (with_item (codes "       01  A PIC X(2)9.") (codes "           STOP RUN.")) ≡ Some (fault 5 18 faults.BadPicture)
unfolding lines_tokens text_tokens front_of next reading
bad_picture = refl

-- a record of 86 characters over an input CD, told at the name
abbrev over_input : List ℕ → List ℕ
over_input picture = source (
    codes "       IDENTIFICATION DIVISION." ∷
    codes "       PROGRAM-ID. P." ∷
    codes "       DATA DIVISION." ∷
    codes "       COMMUNICATION SECTION." ∷
    codes "       CD  C INPUT." ∷
    picture ∷
    codes "       PROCEDURE DIVISION." ∷
    codes "       MAIN." ∷
    codes "           STOP RUN." ∷ [])

record_length : text_fault (over_input (codes "       01  R PIC X(86).")) ≡ Some (fault 6 12 faults.WrongLength)
unfolding lines_tokens text_tokens front_of next reading
record_length = refl

-- and the whole area
whole_record : text_fault (over_input (codes "       01  R PIC X(87).")) ≡ None
unfolding lines_tokens text_tokens front_of next reading
whole_record = refl

-- lex goes before the data pass: its fault stands in line 8, and that of the picture in line 5
lex_before_data : text_fault (with_item (codes "       01  A PIC X(2)9.") (codes "           MOVE A- TO A.")) ≡ Some (fault 8 17 faults.BadWord)
unfolding lines_tokens text_tokens front_of next reading
lex_before_data = refl

-- lex goes before the procedure pass
lex_before_procedure : text_fault (without_data (codes "       MAIN." ∷ codes "           STOP." ∷ codes "           MOVE \"A TO B." ∷ [])) ≡ Some (fault 7 17 faults.BadCharacter)
unfolding lines_tokens text_tokens front_of next reading
lex_before_procedure = refl

-- the data pass goes before the procedure pass: an item of the first wrong, and a statement of the second
data_before_procedure : text_fault (with_item (codes "       01  A PIC X(0).") (codes "           STOP.")) ≡ Some (fault 5 18 faults.BadPicture)
unfolding lines_tokens text_tokens front_of next reading
data_before_procedure = refl

-- what is wanted before PROCEDURE is of the data pass
data_without_picture : text_fault (with_item (codes "       01  A PIC .") (codes "           STOP.")) ≡ Some (fault 5 18 faults.WantedWord)
unfolding lines_tokens text_tokens front_of next reading
data_without_picture = refl

-- and what is wanted behind it of the procedure pass
procedure_stops : text_fault (with_item (codes "       01  A PIC X.") (codes "           STOP.")) ≡ Some (fault 8 16 faults.WantedWord)
unfolding lines_tokens text_tokens front_of next reading
procedure_stops = refl

-- the word PROCEDURE itself is in area A: its column is told once, by the data pass
procedure_column : text_fault (source (codes "       IDENTIFICATION DIVISION." ∷ codes "       PROGRAM-ID. P." ∷ codes "       DATA DIVISION." ∷ codes "           PROCEDURE DIVISION." ∷ codes "       MAIN." ∷ codes "           STOP." ∷ [])) ≡ Some (fault 4 12 faults.BadColumn)
unfolding lines_tokens text_tokens front_of next reading
procedure_column = refl

-- a source that ends with the word PROCEDURE wants another word there; whether the item before it is a group is not said
procedure_last : text_fault (source (codes "       IDENTIFICATION DIVISION." ∷ codes "       PROGRAM-ID. P." ∷ codes "       DATA DIVISION." ∷ codes "       WORKING-STORAGE SECTION." ∷ codes "       01  A." ∷ codes "       PROCEDURE" ∷ [])) ≡ Some (fault 6 8 faults.WantedWord)
unfolding lines_tokens text_tokens front_of next reading
procedure_last = refl

-- nor does its column count there
procedure_last_in_area_b : text_fault (source (codes "       IDENTIFICATION DIVISION." ∷ codes "       PROGRAM-ID. P." ∷ codes "       DATA DIVISION." ∷ codes "           PROCEDURE" ∷ [])) ≡ Some (fault 4 12 faults.WantedWord)
unfolding lines_tokens text_tokens front_of next reading
procedure_last_in_area_b = refl

-- a group without items before PROCEDURE DIVISION is one
group_before_division : text_fault (source (codes "       IDENTIFICATION DIVISION." ∷ codes "       PROGRAM-ID. P." ∷ codes "       DATA DIVISION." ∷ codes "       WORKING-STORAGE SECTION." ∷ codes "       01  A." ∷ codes "       PROCEDURE DIVISION." ∷ codes "       MAIN." ∷ codes "           STOP RUN." ∷ [])) ≡ Some (fault 5 8 faults.WrongKind)
unfolding lines_tokens text_tokens front_of next reading
group_before_division = refl

-- an empty source wants its first word at line 1 column 1
empty : text_fault [] ≡ Some (fault 1 1 faults.WantedWord)
unfolding lines_tokens text_tokens front_of next reading
empty = refl
