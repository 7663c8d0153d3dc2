-- Worked faults of the divisions before the Procedure Division, each worked out by hand.
use Rattle.std.proofs.Common.{◌≡◌, ℕ, List, [], ◌∷◌, Option, Some, None, refl, codes}
use Rattle.cob_lex.specs.declared.fault.SourceFault.{SourceFault}
use Rattle.cob_lex.specs.declared.fault.SourceKind.TheVariants as faults
use Rattle.cob_lex.specs.declared.token.Token.{Token}
use Rattle.cob_lex.specs.Fronts.{front_of}
use Rattle.cob_lex.specs.Lexing.{lines_tokens, text_tokens, tokens_of}
use Rattle.cob_forms.specs.Forms.{next, reading}
use Rattle.cob_forms.specs.Faults.{fault, first}
use Rattle.cob_lex.proofs.Programs.{echo, leaver, orders, source}
use Rattle.cob_data.specs.Faults.{Limits, data_fault, division_reading, faults_by}
use Rattle.cob_data.proofs.Sources.{tokens_in, items, entries}

-- the fault of a source
abbrev told_in : List ℕ → Option SourceFault
told_in source = data_fault (tokens_in (tokens_of source))

abbrev few : Limits
few = record { names = 3; characters = 10 }

abbrev within_few : List Token → Option SourceFault
within_few ts = first (faults_by few ts (division_reading ts))

-- the fault of a source where 3 names and 10 characters are the most
abbrev few_in : List ℕ → Option SourceFault
few_in source = within_few (tokens_in (tokens_of source))

-- a program without a fault
orders_is_right : told_in orders ≡ None
unfolding lines_tokens text_tokens front_of next reading
orders_is_right = refl

-- a program without a fault
leaver_is_right : told_in leaver ≡ None
unfolding lines_tokens text_tokens front_of next reading
leaver_is_right = refl

-- a program without a fault
echo_is_right : told_in echo ≡ None
unfolding lines_tokens text_tokens front_of next reading
echo_is_right = refl

-- a picture describes a character at least
no_count : told_in (items (codes "       01  A PIC X(0)." ∷ [])) ≡ Some (fault 5 18 faults.BadPicture)
unfolding lines_tokens text_tokens front_of next reading
no_count = refl

-- a count of none beside another unit
count_of_none : told_in (items (codes "       01  A PIC XX(0)." ∷ [])) ≡ None
unfolding lines_tokens text_tokens front_of next reading
count_of_none = refl

-- the longest picture of X
longest_x : told_in (items (codes "       01  A PIC X(1999)X." ∷ [])) ≡ None
unfolding lines_tokens text_tokens front_of next reading
longest_x = refl

-- and one more
over_long_x : told_in (items (codes "       01  A PIC X(1999)XX." ∷ [])) ≡ Some (fault 5 18 faults.BadPicture)
unfolding lines_tokens text_tokens front_of next reading
over_long_x = refl

-- the longest picture of 9
longest_9 : told_in (items (codes "       01  A PIC 9(18)." ∷ [])) ≡ None
unfolding lines_tokens text_tokens front_of next reading
longest_9 = refl

-- and one more
over_long_9 : told_in (items (codes "       01  A PIC 9(19)." ∷ [])) ≡ Some (fault 5 18 faults.BadPicture)
unfolding lines_tokens text_tokens front_of next reading
over_long_9 = refl

-- units of both sorts
mixed_picture : told_in (items (codes "       01  A PIC X9." ∷ [])) ≡ Some (fault 5 18 faults.BadPicture)
unfolding lines_tokens text_tokens front_of next reading
mixed_picture = refl

-- another unit
other_picture : told_in (items (codes "       01  A PIC A(3)." ∷ [])) ≡ Some (fault 5 18 faults.BadPicture)
unfolding lines_tokens text_tokens front_of next reading
other_picture = refl

-- a count without digits
count_without_digits : told_in (items (codes "       01  A PIC X()." ∷ [])) ≡ Some (fault 5 18 faults.BadPicture)
unfolding lines_tokens text_tokens front_of next reading
count_without_digits = refl

-- a count that is not closed
open_count : told_in (items (codes "       01  A PIC 9(2." ∷ [])) ≡ Some (fault 5 18 faults.BadPicture)
unfolding lines_tokens text_tokens front_of next reading
open_count = refl

-- 01 begins in area A
record_in_area_b : told_in (items (codes "           01  A PIC X." ∷ [])) ≡ Some (fault 5 12 faults.BadColumn)
unfolding lines_tokens text_tokens front_of next reading
record_in_area_b = refl

-- also behind another item in its line
record_in_its_line : told_in (items (codes "       01  A PIC X. 01 B PIC X." ∷ [])) ≡ Some (fault 5 21 faults.BadColumn)
unfolding lines_tokens text_tokens front_of next reading
record_in_its_line = refl

-- 02 in either area
level_in_area_a : told_in (items (codes "       01  A." ∷ codes "       02  B PIC X." ∷ codes "           02 C PIC X." ∷ [])) ≡ None
unfolding lines_tokens text_tokens front_of next reading
level_in_area_a = refl

-- a name does not begin a line in area A
name_in_area_a : told_in (items (codes "       01" ∷ codes "       A PIC X." ∷ [])) ≡ Some (fault 6 8 faults.BadColumn)
unfolding lines_tokens text_tokens front_of next reading
name_in_area_a = refl

-- it may stand there behind a level
name_behind_level : told_in (items (codes "       77 A PIC X." ∷ [])) ≡ None
unfolding lines_tokens text_tokens front_of next reading
name_behind_level = refl

-- where the line begins in area B all of it is in area B
name_behind_area_b : told_in (items (codes "       01  A." ∷ codes "           02 B" ∷ codes "          PIC X." ∷ [])) ≡ Some (fault 7 11 faults.BadColumn)
unfolding lines_tokens text_tokens front_of next reading
name_behind_area_b = refl

-- what is no level does not begin in area A
no_level_in_area_a : told_in (items (codes "       50  A PIC X." ∷ [])) ≡ Some (fault 5 8 faults.BadColumn)
unfolding lines_tokens text_tokens front_of next reading
no_level_in_area_a = refl

-- CD begins in area A
entry_in_area_b : told_in (entries (codes "           CD  C INPUT." ∷ [])) ≡ Some (fault 5 12 faults.BadColumn)
unfolding lines_tokens text_tokens front_of next reading
entry_in_area_b = refl

-- headers begin in area A
header_in_area_b : told_in (source (codes "       IDENTIFICATION DIVISION." ∷ codes "       PROGRAM-ID. P." ∷ codes "           DATA DIVISION." ∷ codes "       PROCEDURE DIVISION." ∷ [])) ≡ Some (fault 3 12 faults.BadColumn)
unfolding lines_tokens text_tokens front_of next reading
header_in_area_b = refl

-- so does PROCEDURE
procedure_in_area_b : told_in (source (codes "       IDENTIFICATION DIVISION." ∷ codes "       PROGRAM-ID. P." ∷ codes "       DATA DIVISION." ∷ codes "           PROCEDURE DIVISION." ∷ [])) ≡ Some (fault 4 12 faults.BadColumn)
unfolding lines_tokens text_tokens front_of next reading
procedure_in_area_b = refl

-- behind the word PROCEDURE a token is wanted
procedure_last : told_in (source (codes "       IDENTIFICATION DIVISION." ∷ codes "       PROGRAM-ID. P." ∷ codes "       DATA DIVISION." ∷ codes "       PROCEDURE" ∷ [])) ≡ Some (fault 4 8 faults.WantedWord)
unfolding lines_tokens text_tokens front_of next reading
procedure_last = refl

-- where it is the last one, its column counts nowhere
procedure_last_in_area_b : told_in (source (codes "       IDENTIFICATION DIVISION." ∷ codes "       PROGRAM-ID. P." ∷ codes "       DATA DIVISION." ∷ codes "           PROCEDURE" ∷ [])) ≡ Some (fault 4 12 faults.WantedWord)
unfolding lines_tokens text_tokens front_of next reading
procedure_last_in_area_b = refl

-- nor does a rule over the last whole item
group_before_procedure : told_in (source (codes "       IDENTIFICATION DIVISION." ∷ codes "       PROGRAM-ID. P." ∷ codes "       DATA DIVISION." ∷ codes "       WORKING-STORAGE SECTION." ∷ codes "       01  A." ∷ codes "       PROCEDURE" ∷ [])) ≡ Some (fault 6 8 faults.WantedWord)
unfolding lines_tokens text_tokens front_of next reading
group_before_procedure = refl

-- with a token behind it does
group_before_division : told_in (source (codes "       IDENTIFICATION DIVISION." ∷ codes "       PROGRAM-ID. P." ∷ codes "       DATA DIVISION." ∷ codes "       WORKING-STORAGE SECTION." ∷ codes "       01  A." ∷ codes "       PROCEDURE 1" ∷ [])) ≡ Some (fault 5 8 faults.WrongKind)
unfolding lines_tokens text_tokens front_of next reading
group_before_division = refl

-- an item before the last one is whole
groups_before_procedure : told_in (source (codes "       IDENTIFICATION DIVISION." ∷ codes "       PROGRAM-ID. P." ∷ codes "       DATA DIVISION." ∷ codes "       WORKING-STORAGE SECTION." ∷ codes "       01  A." ∷ codes "       01  B PIC X." ∷ codes "       PROCEDURE" ∷ [])) ≡ Some (fault 5 8 faults.WrongKind)
unfolding lines_tokens text_tokens front_of next reading
groups_before_procedure = refl

-- the word of PROGRAM-ID is no header, whatever it is
program_in_area_b : told_in (source (codes "       IDENTIFICATION DIVISION." ∷ codes "       PROGRAM-ID." ∷ codes "           DATA." ∷ codes "       DATA DIVISION." ∷ codes "       PROCEDURE DIVISION." ∷ [])) ≡ None
unfolding lines_tokens text_tokens front_of next reading
program_in_area_b = refl

-- nor is a word of its own wanted behind it
program_like_a_header : told_in (source (codes "       IDENTIFICATION DIVISION." ∷ codes "       PROGRAM-ID." ∷ codes "           PROGRAM-ID." ∷ codes "       DATA DIVISION." ∷ codes "       PROCEDURE DIVISION." ∷ [])) ≡ None
unfolding lines_tokens text_tokens front_of next reading
program_like_a_header = refl

-- it does not begin in area A
program_in_area_a : told_in (source (codes "       IDENTIFICATION DIVISION." ∷ codes "       PROGRAM-ID." ∷ codes "       P." ∷ codes "       DATA DIVISION." ∷ codes "       PROCEDURE DIVISION." ∷ [])) ≡ Some (fault 3 8 faults.BadColumn)
unfolding lines_tokens text_tokens front_of next reading
program_in_area_a = refl

-- a name of data stands once
name_twice : told_in (items (codes "       01  A PIC X." ∷ codes "       01  A PIC X." ∷ [])) ≡ Some (fault 6 12 faults.TwiceDeclared)
unfolding lines_tokens text_tokens front_of next reading
name_twice = refl

-- FILLER is no name
filler_twice : told_in (items (codes "       01  FILLER PIC X." ∷ codes "       01  FILLER PIC X." ∷ [])) ≡ None
unfolding lines_tokens text_tokens front_of next reading
filler_twice = refl

-- the word of PROGRAM-ID is no name of data
name_of_program : told_in (items (codes "       01  P PIC X." ∷ [])) ≡ None
unfolding lines_tokens text_tokens front_of next reading
name_of_program = refl

-- names of CDs are among them
cd_twice : told_in (entries (codes "       CD  C INPUT." ∷ codes "       CD  C OUTPUT." ∷ [])) ≡ Some (fault 6 12 faults.TwiceDeclared)
unfolding lines_tokens text_tokens front_of next reading
cd_twice = refl

-- and those of their fields, in clauses
field_twice : told_in (entries (codes "       CD  C INPUT QUEUE C." ∷ [])) ≡ Some (fault 5 26 faults.TwiceDeclared)
unfolding lines_tokens text_tokens front_of next reading
field_twice = refl

-- and in the list of eleven
listed_twice : told_in (entries (codes "       CD  C INPUT A B FILLER D E F G H I J A." ∷ [])) ≡ Some (fault 5 45 faults.TwiceDeclared)
unfolding lines_tokens text_tokens front_of next reading
listed_twice = refl

-- what stands before the wanted word counts
name_twice_before_stop : told_in (items (codes "       01  A PIC X." ∷ codes "       01  A X." ∷ [])) ≡ Some (fault 6 12 faults.TwiceDeclared)
unfolding lines_tokens text_tokens front_of next reading
name_twice_before_stop = refl

-- what stands there does not
name_twice_at_stop : told_in (items (codes "       01  A PIC X." ∷ codes "       01  B A PIC X." ∷ [])) ≡ Some (fault 6 14 faults.WantedWord)
unfolding lines_tokens text_tokens front_of next reading
name_twice_at_stop = refl

-- a clause stands once; the fault is at its first word
clause_twice : told_in (entries (codes "       CD  C INPUT QUEUE Q SYMBOLIC QUEUE R." ∷ [])) ≡ Some (fault 5 28 faults.TwiceDeclared)
unfolding lines_tokens text_tokens front_of next reading
clause_twice = refl

-- COUNT and MESSAGE COUNT are one clause
count_twice : told_in (entries (codes "       CD  C INPUT COUNT N MESSAGE COUNT M." ∷ [])) ≡ Some (fault 5 28 faults.TwiceDeclared)
unfolding lines_tokens text_tokens front_of next reading
count_twice = refl

-- DESTINATION COUNT, TABLE and DESTINATION are three
other_counts : told_in (entries (codes "       CD  C OUTPUT DESTINATION COUNT N DESTINATION D" ∷ codes "           DESTINATION TABLE OCCURS 2." ∷ [])) ≡ None
unfolding lines_tokens text_tokens front_of next reading
other_counts = refl

-- DESTINATION with SYMBOLIC and without it is one
destination_twice : told_in (entries (codes "       CD  C OUTPUT SYMBOLIC DESTINATION D DESTINATION E." ∷ [])) ≡ Some (fault 5 44 faults.TwiceDeclared)
unfolding lines_tokens text_tokens front_of next reading
destination_twice = refl

-- each CD has clauses of its own
clause_of_another_cd : told_in (entries (codes "       CD  C INPUT QUEUE Q." ∷ codes "       CD  D INPUT QUEUE R." ∷ [])) ≡ None
unfolding lines_tokens text_tokens front_of next reading
clause_of_another_cd = refl

-- a table stands once
table_twice : told_in (entries (codes "       CD  C OUTPUT DESTINATION TABLE OCCURS 2" ∷ codes "           DESTINATION TABLE OCCURS 3 TIMES STATUS PAGE" ∷ [])) ≡ Some (fault 6 12 faults.TwiceDeclared)
unfolding lines_tokens text_tokens front_of next reading
table_twice = refl

-- a clause counts where the token behind it stands before the wanted word
table_behind_stop : told_in (entries (codes "       CD  C OUTPUT DESTINATION TABLE OCCURS 2" ∷ codes "           DESTINATION TABLE OCCURS 3 TIMES PAGE" ∷ [])) ≡ Some (fault 6 45 faults.WantedWord)
unfolding lines_tokens text_tokens front_of next reading
table_behind_stop = refl

-- so does one that ends with a name
clause_behind_stop : told_in (entries (codes "       CD  C INPUT QUEUE Q QUEUE R PAGE" ∷ [])) ≡ Some (fault 5 36 faults.WantedWord)
unfolding lines_tokens text_tokens front_of next reading
clause_behind_stop = refl

-- one CD is INITIAL
two_initial : told_in (entries (codes "       CD  C INITIAL INPUT." ∷ codes "       CD  D FOR INITIAL INPUT." ∷ [])) ≡ Some (fault 6 18 faults.TwoInitial)
unfolding lines_tokens text_tokens front_of next reading
two_initial = refl

-- as many as eight destinations
most_occurrences : told_in (entries (codes "       CD  C OUTPUT DESTINATION TABLE OCCURS 8 TIMES." ∷ [])) ≡ None
unfolding lines_tokens text_tokens front_of next reading
most_occurrences = refl

-- and no more
over_many_occurrences : told_in (entries (codes "       CD  C OUTPUT DESTINATION TABLE OCCURS 9 TIMES." ∷ [])) ≡ Some (fault 5 46 faults.OverLimit)
unfolding lines_tokens text_tokens front_of next reading
over_many_occurrences = refl

-- and not none
no_occurrences : told_in (entries (codes "       CD  C OUTPUT DESTINATION TABLE OCCURS 00." ∷ [])) ≡ Some (fault 5 46 faults.OverLimit)
unfolding lines_tokens text_tokens front_of next reading
no_occurrences = refl

-- a level is 01 to 49 or 77
other_level : told_in (items (codes "           50  A PIC X." ∷ [])) ≡ Some (fault 5 12 faults.WrongKind)
unfolding lines_tokens text_tokens front_of next reading
other_level = refl

-- and not 00
level_of_none : told_in (items (codes "           00  A PIC X." ∷ [])) ≡ Some (fault 5 12 faults.WrongKind)
unfolding lines_tokens text_tokens front_of next reading
level_of_none = refl

-- in at most two digits
level_of_three_digits : told_in (items (codes "           001 A PIC X." ∷ [])) ≡ Some (fault 5 12 faults.WrongKind)
unfolding lines_tokens text_tokens front_of next reading
level_of_three_digits = refl

-- or in one
level_of_one_digit : told_in (items (codes "       1   A." ∷ codes "           2  B PIC X." ∷ [])) ≡ None
unfolding lines_tokens text_tokens front_of next reading
level_of_one_digit = refl

-- an item of 02 is under a group
no_record : told_in (items (codes "           02  A PIC X." ∷ [])) ≡ Some (fault 5 12 faults.WrongKind)
unfolding lines_tokens text_tokens front_of next reading
no_record = refl

-- none is below an elementary item
below_elementary : told_in (items (codes "       01  A PIC X." ∷ codes "           02 B PIC X." ∷ [])) ≡ Some (fault 6 12 faults.WrongKind)
unfolding lines_tokens text_tokens front_of next reading
below_elementary = refl

-- items under a group have one level
levels_of_a_group : told_in (items (codes "       01  A." ∷ codes "           03 B PIC X." ∷ codes "           02 C PIC X." ∷ [])) ≡ Some (fault 7 12 faults.WrongKind)
unfolding lines_tokens text_tokens front_of next reading
levels_of_a_group = refl

-- also behind a group within
level_between : told_in (items (codes "       01  A." ∷ codes "           02 B." ∷ codes "           05 C PIC X." ∷ codes "           03 D PIC X." ∷ [])) ≡ Some (fault 8 12 faults.WrongKind)
unfolding lines_tokens text_tokens front_of next reading
level_between = refl

-- a group within may end
level_again : told_in (items (codes "       01  A." ∷ codes "           02 B." ∷ codes "           05 C PIC X." ∷ codes "           02 D PIC X." ∷ [])) ≡ None
unfolding lines_tokens text_tokens front_of next reading
level_again = refl

-- 77 stands in Working-Storage
record_over_77 : told_in (entries (codes "       CD  C INPUT." ∷ codes "       77  A PIC X(87)." ∷ [])) ≡ Some (fault 6 8 faults.WrongKind)
unfolding lines_tokens text_tokens front_of next reading
record_over_77 = refl

-- a CD begins anew
records_apart : told_in (entries (codes "       CD  C INPUT." ∷ codes "       01  R." ∷ codes "           02 A PIC X(87)." ∷ codes "       CD  D INPUT." ∷ codes "           02 B PIC X(87)." ∷ [])) ≡ Some (fault 9 12 faults.WrongKind)
unfolding lines_tokens text_tokens front_of next reading
records_apart = refl

-- a group has items
empty_group : told_in (items (codes "       01  A." ∷ codes "       01  B PIC X." ∷ [])) ≡ Some (fault 5 8 faults.WrongKind)
unfolding lines_tokens text_tokens front_of next reading
empty_group = refl

-- also the last
empty_group_at_end : told_in (items (codes "       01  A PIC X." ∷ codes "       01  B." ∷ [])) ≡ Some (fault 6 8 faults.WrongKind)
unfolding lines_tokens text_tokens front_of next reading
empty_group_at_end = refl

-- 77 is elementary
group_of_77 : told_in (items (codes "       77  A." ∷ codes "           02 B PIC X." ∷ [])) ≡ Some (fault 5 8 faults.WrongKind)
unfolding lines_tokens text_tokens front_of next reading
group_of_77 = refl

-- and 49 holds none
group_of_49 : told_in (items (codes "       01  A." ∷ codes "           49 B." ∷ codes "           50 C PIC X." ∷ [])) ≡ Some (fault 6 12 faults.WrongKind)
unfolding lines_tokens text_tokens front_of next reading
group_of_49 = refl

-- a number that is no level is told before its group
number_below_group : told_in (items (codes "       01  A." ∷ codes "           50 B PIC X." ∷ [])) ≡ Some (fault 6 12 faults.WrongKind)
unfolding lines_tokens text_tokens front_of next reading
number_below_group = refl

-- a group counts where the level behind it stands before the wanted word
group_before_stop : told_in (items (codes "       01  A." ∷ codes "       77  PIC X." ∷ [])) ≡ Some (fault 5 8 faults.WrongKind)
unfolding lines_tokens text_tokens front_of next reading
group_before_stop = refl

-- and not where that level is the wanted word
group_at_stop : told_in (items (codes "       01  A." ∷ codes "       MOVE" ∷ [])) ≡ Some (fault 6 8 faults.WantedWord)
unfolding lines_tokens text_tokens front_of next reading
group_at_stop = refl

-- a record has at most 2,000 characters
longest_record : told_in (items (codes "       01  A." ∷ codes "           02 B PIC X(1999)." ∷ codes "           02 C PIC X." ∷ [])) ≡ None
unfolding lines_tokens text_tokens front_of next reading
longest_record = refl

-- and no more
over_long_record : told_in (items (codes "       01  A." ∷ codes "           02 B PIC X(1999)." ∷ codes "           02 C PIC XX." ∷ [])) ≡ Some (fault 5 8 faults.OverLimit)
unfolding lines_tokens text_tokens front_of next reading
over_long_record = refl

-- a record with a bad picture has no length
record_with_bad_picture : told_in (items (codes "       01  A." ∷ codes "           02 B PIC X(2000)." ∷ codes "           02 C PIC XA." ∷ codes "           02 D PIC X." ∷ [])) ≡ Some (fault 7 21 faults.BadPicture)
unfolding lines_tokens text_tokens front_of next reading
record_with_bad_picture = refl

-- a record counts where what is behind it stands before the wanted word
record_before_stop : told_in (items (codes "       01  A." ∷ codes "           02 B PIC X(2000)." ∷ codes "           02 C PIC X." ∷ codes "       01  PIC X." ∷ [])) ≡ Some (fault 5 8 faults.OverLimit)
unfolding lines_tokens text_tokens front_of next reading
record_before_stop = refl

-- and not where it goes on there
record_at_stop : told_in (items (codes "       01  A." ∷ codes "           02 B PIC X(2000)." ∷ codes "           02 C PIC X." ∷ codes "           02 PIC X." ∷ [])) ≡ Some (fault 8 15 faults.WantedWord)
unfolding lines_tokens text_tokens front_of next reading
record_at_stop = refl

-- a record over an input CD has 87 characters
record_length : told_in (entries (codes "       CD  C INPUT." ∷ codes "       01  R PIC X(86)." ∷ [])) ≡ Some (fault 6 12 faults.WrongLength)
unfolding lines_tokens text_tokens front_of next reading
record_length = refl

-- an elementary record has the characters of its picture, whatever stands below it
elementary_record : told_in (entries (codes "       CD  C INPUT." ∷ codes "       01  R PIC X(87)." ∷ codes "           02 B PIC X." ∷ [])) ≡ Some (fault 7 12 faults.WrongKind)
unfolding lines_tokens text_tokens front_of next reading
elementary_record = refl

-- and it counts where a further item is only begun
elementary_record_counts : told_in (entries (codes "       CD  C INPUT." ∷ codes "       01  R PIC X(88)." ∷ codes "           02 PIC X." ∷ [])) ≡ Some (fault 6 12 faults.WrongLength)
unfolding lines_tokens text_tokens front_of next reading
elementary_record_counts = refl

-- a group does not
group_record_counts : told_in (entries (codes "       CD  C INPUT." ∷ codes "       01  R." ∷ codes "           02 A PIC X(88)." ∷ codes "           02 PIC X." ∷ [])) ≡ Some (fault 8 15 faults.WantedWord)
unfolding lines_tokens text_tokens front_of next reading
group_record_counts = refl

-- what stands below an elementary item counts into no length
item_below_elementary : told_in (items (codes "       01  A." ∷ codes "           02 B PIC X(2000)." ∷ codes "           03 C PIC X." ∷ [])) ≡ Some (fault 7 12 faults.WrongKind)
unfolding lines_tokens text_tokens front_of next reading
item_below_elementary = refl

-- nor does what stands below that
items_below_elementary : told_in (items (codes "       01  A." ∷ codes "           02 B PIC X(2000)." ∷ codes "           03 C PIC X." ∷ codes "           04 D PIC X(2000)." ∷ [])) ≡ Some (fault 7 12 faults.WrongKind)
unfolding lines_tokens text_tokens front_of next reading
items_below_elementary = refl

-- what stands behind them counts again
item_behind_elementary : told_in (items (codes "       01  A." ∷ codes "           02 B PIC X(2000)." ∷ codes "           03 C PIC X." ∷ codes "           02 D PIC X." ∷ [])) ≡ Some (fault 5 8 faults.OverLimit)
unfolding lines_tokens text_tokens front_of next reading
item_behind_elementary = refl

-- its bad picture hides no length
bad_picture_below_elementary : told_in (items (codes "       01  A." ∷ codes "           02 B PIC X(2000)." ∷ codes "           02 C PIC X." ∷ codes "           03 D PIC XA." ∷ [])) ≡ Some (fault 5 8 faults.OverLimit)
unfolding lines_tokens text_tokens front_of next reading
bad_picture_below_elementary = refl

-- over a CD neither
item_below_elementary_over_cd : told_in (entries (codes "       CD  C INPUT." ∷ codes "       01  R." ∷ codes "           02 A PIC X(87)." ∷ codes "           03 B PIC X." ∷ [])) ≡ Some (fault 8 12 faults.WrongKind)
unfolding lines_tokens text_tokens front_of next reading
item_below_elementary_over_cd = refl

-- an elementary record in Working-Storage has the characters of its picture
elementary_item : told_in (items (codes "       01  A PIC X(2000)." ∷ codes "           02 B PIC X." ∷ [])) ≡ Some (fault 6 12 faults.WrongKind)
unfolding lines_tokens text_tokens front_of next reading
elementary_item = refl

-- what ranks lower is not below a group
lower_than_group : told_in (items (codes "       01  A." ∷ codes "           02 B PIC X(2000)." ∷ codes "           00 C PIC X." ∷ [])) ≡ Some (fault 7 12 faults.WrongKind)
unfolding lines_tokens text_tokens front_of next reading
lower_than_group = refl

-- no more and no fewer
record_of_area : told_in (entries (codes "       CD  C INPUT." ∷ codes "       01  R." ∷ codes "           02 A PIC 9(18)." ∷ codes "           02 B PIC X(69)." ∷ codes "       01  S PIC X(87)." ∷ [])) ≡ None
unfolding lines_tokens text_tokens front_of next reading
record_of_area = refl

-- also FILLER
filler_record : told_in (entries (codes "       CD  C INPUT." ∷ codes "       01  FILLER PIC X(88)." ∷ [])) ≡ Some (fault 6 12 faults.WrongLength)
unfolding lines_tokens text_tokens front_of next reading
filler_record = refl

-- without a table there is one destination
record_of_one_destination : told_in (entries (codes "       CD  C OUTPUT." ∷ codes "       01  R PIC X(23)." ∷ [])) ≡ None
unfolding lines_tokens text_tokens front_of next reading
record_of_one_destination = refl

-- with one there are as many as it says
record_of_table : told_in (entries (codes "       CD  C OUTPUT DESTINATION TABLE OCCURS 2." ∷ codes "       01  R PIC X(23)." ∷ [])) ≡ Some (fault 6 12 faults.WrongLength)
unfolding lines_tokens text_tokens front_of next reading
record_of_table = refl

-- with 13 characters each
record_of_two_destinations : told_in (entries (codes "       CD  C OUTPUT DESTINATION TABLE OCCURS 2." ∷ codes "       01  R PIC X(36)." ∷ [])) ≡ None
unfolding lines_tokens text_tokens front_of next reading
record_of_two_destinations = refl

-- a literal as long as its item
full_value : told_in (items (codes "       01  A PIC X(3) VALUE \"ABC\"." ∷ [])) ≡ None
unfolding lines_tokens text_tokens front_of next reading
full_value = refl

-- and one character more
over_long_value : told_in (items (codes "       01  A PIC X(3) VALUE \"ABCD\"." ∷ [])) ≡ Some (fault 5 29 faults.WrongLength)
unfolding lines_tokens text_tokens front_of next reading
over_long_value = refl

-- two quotation marks inside are one character
doubled_mark : told_in (items (codes "       01  A PIC X VALUE \"\"\"\"." ∷ [])) ≡ None
unfolding lines_tokens text_tokens front_of next reading
doubled_mark = refl

-- a number is of no X item
number_of_x : told_in (items (codes "       01  A PIC X VALUE 1." ∷ [])) ≡ Some (fault 5 26 faults.WrongKind)
unfolding lines_tokens text_tokens front_of next reading
number_of_x = refl

-- nor a literal of a 9 item
literal_of_9 : told_in (items (codes "       01  A PIC 9 VALUE \"1\"." ∷ [])) ≡ Some (fault 5 26 faults.WrongKind)
unfolding lines_tokens text_tokens front_of next reading
literal_of_9 = refl

-- nor are SPACES
spaces_of_9 : told_in (items (codes "       01  A PIC 9 VALUE SPACES." ∷ [])) ≡ Some (fault 5 26 faults.WrongKind)
unfolding lines_tokens text_tokens front_of next reading
spaces_of_9 = refl

-- a number as long as its item
full_number : told_in (items (codes "       01  A VALUE 012 PIC 9(3)." ∷ [])) ≡ None
unfolding lines_tokens text_tokens front_of next reading
full_number = refl

-- a number has its digits as they are written
over_long_number : told_in (items (codes "       01  A VALUE IS 0012 PIC 9(3)." ∷ [])) ≡ Some (fault 5 23 faults.WrongLength)
unfolding lines_tokens text_tokens front_of next reading
over_long_number = refl

-- ZERO and its kin are of both, SPACE of X
words_as_values : told_in (items (codes "       01  A PIC 9 VALUE ZEROES." ∷ codes "       01  B PIC X VALUE ZERO." ∷ codes "       01  C PIC X VALUE SPACE." ∷ [])) ≡ None
unfolding lines_tokens text_tokens front_of next reading
words_as_values = refl

-- a group has no value
value_of_group : told_in (items (codes "       01  A VALUE \"A\"." ∷ codes "           02 B PIC X." ∷ [])) ≡ Some (fault 5 20 faults.WrongKind)
unfolding lines_tokens text_tokens front_of next reading
value_of_group = refl

-- nor has an item over a CD
value_over_cd : told_in (entries (codes "       CD  C INPUT." ∷ codes "       01  R PIC X(87) VALUE \"A\"." ∷ [])) ≡ Some (fault 6 30 faults.WrongKind)
unfolding lines_tokens text_tokens front_of next reading
value_over_cd = refl

-- of a value with a bad picture no more is said
value_with_bad_picture : told_in (items (codes "       01  A VALUE 1 PIC X9." ∷ [])) ≡ Some (fault 5 26 faults.BadPicture)
unfolding lines_tokens text_tokens front_of next reading
value_with_bad_picture = refl

-- over a CD it is wrong all the same
value_over_cd_with_bad_picture : told_in (entries (codes "       CD  C INPUT." ∷ codes "       01  R VALUE 1 PIC X9." ∷ [])) ≡ Some (fault 6 20 faults.WrongKind)
unfolding lines_tokens text_tokens front_of next reading
value_over_cd_with_bad_picture = refl

-- an item counts where the token behind it stands before the wanted word
value_before_stop : told_in (items (codes "       01  A PIC X VALUE 1." ∷ codes "       MOVE" ∷ [])) ≡ Some (fault 6 8 faults.WantedWord)
unfolding lines_tokens text_tokens front_of next reading
value_before_stop = refl

-- as a level does
value_behind_stop : told_in (items (codes "       01  A PIC X VALUE 1." ∷ codes "       01  MOVE" ∷ [])) ≡ Some (fault 5 26 faults.WrongKind)
unfolding lines_tokens text_tokens front_of next reading
value_behind_stop = refl

-- the first by place is told, whatever its kind
earlier_place : told_in (items (codes "       01  A." ∷ codes "       01  A PIC X9." ∷ [])) ≡ Some (fault 5 8 faults.WrongKind)
unfolding lines_tokens text_tokens front_of next reading
earlier_place = refl

-- at one place the first kind
earlier_kind : told_in (items (codes "           77  A." ∷ [])) ≡ Some (fault 5 12 faults.BadColumn)
unfolding lines_tokens text_tokens front_of next reading
earlier_kind = refl

-- names of items and fields count, and neither FILLER nor the name of a CD
few_names : few_in (entries (codes "       CD  C INPUT QUEUE Q COUNT N." ∷ codes "       01  FILLER PIC X." ∷ codes "       01  R PIC X." ∷ [])) ≡ Some (fault 6 12 faults.WrongLength)
unfolding lines_tokens text_tokens front_of next reading
few_names = refl

-- the name that is one too many
a_name_too_many : few_in (items (codes "       01  A PIC X." ∷ codes "       01  B PIC X." ∷ codes "       01  C PIC X." ∷ codes "       01  D PIC X." ∷ codes "       01  E PIC X." ∷ [])) ≡ Some (fault 8 12 faults.OverLimit)
unfolding lines_tokens text_tokens front_of next reading
a_name_too_many = refl

-- also of a field
a_field_too_many : few_in (entries (codes "       CD  C INPUT QUEUE Q COUNT N END KEY K STATUS KEY S." ∷ [])) ≡ Some (fault 5 57 faults.OverLimit)
unfolding lines_tokens text_tokens front_of next reading
a_field_too_many = refl

-- the characters of elementary items count, FILLER too
few_characters : few_in (items (codes "       01  A." ∷ codes "           02 FILLER PIC X(5)." ∷ codes "           02 B PIC 9(5)." ∷ [])) ≡ None
unfolding lines_tokens text_tokens front_of next reading
few_characters = refl

-- the item that passes the limit
a_character_too_many : few_in (items (codes "       01  A." ∷ codes "           02 B PIC X(5)." ∷ codes "           02 FILLER PIC X(6)." ∷ codes "       01  C PIC X." ∷ [])) ≡ Some (fault 7 12 faults.OverLimit)
unfolding lines_tokens text_tokens front_of next reading
a_character_too_many = refl

-- it counts where the token behind it stands before the wanted word
item_at_stop : few_in (items (codes "       01  A PIC X(11)." ∷ codes "       MOVE" ∷ [])) ≡ Some (fault 6 8 faults.WantedWord)
unfolding lines_tokens text_tokens front_of next reading
item_at_stop = refl
