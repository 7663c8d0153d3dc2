-- Worked sources: the first fault of the division, worked out by hand.
use Rattle.std.proofs.Common.{◌≡◌, ℕ, zero, suc, List, [], ◌∷◌, Option, Some, None, refl, codes}
use Rattle.cob_lex.specs.declared.fault.SourceFault.{SourceFault}
use Rattle.cob_lex.specs.declared.fault.SourceKind.TheVariants as faults
use Rattle.cob_lex.specs.Fronts.{front_of}
use Rattle.cob_lex.specs.Lexing.{lines_tokens, text_tokens, tokens_of}
use Rattle.cob_forms.specs.Forms.{next, reading}
use Rattle.cob_forms.specs.Faults.{fault, first}
use Rattle.cob_lex.proofs.Programs.{source}
use Rattle.cob_proc.specs.Faults.{procedure_fault, deep_ifs, too_many, paragraph_names}
use Rattle.cob_proc.proofs.WorkedSources.{tokens_in, statements}

-- the first fault of a source
abbrev fault_in : List ℕ → Option SourceFault
fault_in source = procedure_fault (tokens_in (tokens_of source))

-- the first IF that is too deep, and the first paragraph too many, with other limits
abbrev deep_if : ℕ → List ℕ → Option SourceFault
deep_if limit source = first (deep_ifs limit [] (tokens_in (tokens_of source)))

abbrev surplus : ℕ → List ℕ → Option SourceFault
surplus limit source = first (too_many limit (paragraph_names None (tokens_in (tokens_of source))))

-- a name where a sentence may begin is a paragraph of its own, and stands in the wrong area
paragraph_in_area_b : fault_in (statements (codes "EXIT." ∷ codes "NEXT-ONE." ∷ [])) ≡ Some (fault 4 12 faults.BadColumn)
unfolding lines_tokens text_tokens front_of next reading
paragraph_in_area_b = refl

-- a statement does not begin in area A
statement_in_area_a : fault_in (source (codes "       PROCEDURE DIVISION." ∷ codes "       MAIN." ∷ codes "       EXIT." ∷ [])) ≡ Some (fault 3 8 faults.BadColumn)
unfolding lines_tokens text_tokens front_of next reading
statement_in_area_a = refl

-- nor does another token
operand_in_area_a : fault_in (source (codes "       PROCEDURE DIVISION." ∷ codes "       MAIN." ∷ codes "           MOVE A TO" ∷ codes "          B." ∷ [])) ≡ Some (fault 4 11 faults.BadColumn)
unfolding lines_tokens text_tokens front_of next reading
operand_in_area_a = refl

-- unless it follows in its line what begins there
behind_in_line : fault_in (source (codes "       PROCEDURE DIVISION." ∷ codes "       A. EXIT." ∷ [])) ≡ None
unfolding lines_tokens text_tokens front_of next reading
behind_in_line = refl

-- two paragraphs in one line
two_in_a_line : fault_in (source (codes "       PROCEDURE DIVISION." ∷ codes "       A. B." ∷ [])) ≡ None
unfolding lines_tokens text_tokens front_of next reading
two_in_a_line = refl

-- the second of which begins in area B
second_in_area_b : fault_in (source (codes "       PROCEDURE DIVISION." ∷ codes "       AB. CE." ∷ [])) ≡ Some (fault 2 12 faults.BadColumn)
unfolding lines_tokens text_tokens front_of next reading
second_in_area_b = refl

-- PROCEDURE begins in area A
procedure_in_area_b : fault_in (source (codes "           PROCEDURE DIVISION." ∷ codes "       MAIN." ∷ [])) ≡ Some (fault 1 12 faults.BadColumn)
unfolding lines_tokens text_tokens front_of next reading
procedure_in_area_b = refl

-- which ends at column 11
last_column_of_area_a : fault_in (source (codes "          PROCEDURE DIVISION." ∷ codes "          MAIN." ∷ [])) ≡ None
unfolding lines_tokens text_tokens front_of next reading
last_column_of_area_a = refl

-- paragraphs have distinct names
named_twice : fault_in (source (codes "       PROCEDURE DIVISION." ∷ codes "       A." ∷ codes "       B. EXIT." ∷ codes "       A." ∷ codes "       B." ∷ [])) ≡ Some (fault 4 8 faults.TwiceDeclared)
unfolding lines_tokens text_tokens front_of next reading
named_twice = refl

-- a longer name is another
named_longer : fault_in (source (codes "       PROCEDURE DIVISION." ∷ codes "       A." ∷ codes "       AB." ∷ codes "       B." ∷ [])) ≡ None
unfolding lines_tokens text_tokens front_of next reading
named_longer = refl

-- at one place the column is told first
twice_in_area_b : fault_in (source (codes "       PROCEDURE DIVISION." ∷ codes "       A." ∷ codes "           A." ∷ [])) ≡ Some (fault 3 12 faults.BadColumn)
unfolding lines_tokens text_tokens front_of next reading
twice_in_area_b = refl

-- an earlier place is told first, whatever its kind
earlier_place_first : fault_in (source (codes "       PROCEDURE DIVISION." ∷ codes "       A." ∷ codes "       A." ∷ codes "       EXIT." ∷ [])) ≡ Some (fault 3 8 faults.TwiceDeclared)
unfolding lines_tokens text_tokens front_of next reading
earlier_place_first = refl

-- before a word that is wanted
column_before_wanted : fault_in (source (codes "       PROCEDURE DIVISION." ∷ codes "       A." ∷ codes "       EXIT 5." ∷ [])) ≡ Some (fault 3 8 faults.BadColumn)
unfolding lines_tokens text_tokens front_of next reading
column_before_wanted = refl

-- but not behind it
column_behind_wanted : fault_in (source (codes "       PROCEDURE DIVISION." ∷ codes "       A." ∷ codes "           EXIT 5." ∷ codes "       EXIT." ∷ [])) ≡ Some (fault 3 17 faults.WantedWord)
unfolding lines_tokens text_tokens front_of next reading
column_behind_wanted = refl

-- nor at it
column_at_wanted : fault_in (source (codes "       PROCEDURE DIVISION." ∷ codes "       A." ∷ codes "           MOVE B TO" ∷ codes "       EXIT." ∷ [])) ≡ Some (fault 4 8 faults.WantedWord)
unfolding lines_tokens text_tokens front_of next reading
column_at_wanted = refl

-- nor at the last token where the tokens end too early
column_at_early_end : fault_in (source (codes "       PROCEDURE DIVISION." ∷ codes "       A." ∷ codes "           MOVE B TO" ∷ codes "       C" ∷ [])) ≡ Some (fault 4 8 faults.WantedWord)
unfolding lines_tokens text_tokens front_of next reading
column_at_early_end = refl

-- a comparison has an identifier on one side
constants : fault_in (statements (codes "IF 1 = 2 EXIT." ∷ [])) ≡ Some (fault 3 15 faults.WrongKind)
unfolding lines_tokens text_tokens front_of next reading
constants = refl

-- with all its words
constants_in_words : fault_in (statements (codes "PERFORM A UNTIL \"A\" IS NOT EQUAL TO SPACES." ∷ [])) ≡ Some (fault 3 28 faults.WrongKind)
unfolding lines_tokens text_tokens front_of next reading
constants_in_words = refl

-- whatever the relation
constants_greater : fault_in (statements (codes "IF ZERO IS GREATER THAN 1 EXIT." ∷ [])) ≡ Some (fault 3 15 faults.WrongKind)
unfolding lines_tokens text_tokens front_of next reading
constants_greater = refl

-- by its sign too
constants_less : fault_in (statements (codes "IF 1 NOT < ZEROES EXIT." ∷ [])) ≡ Some (fault 3 15 faults.WrongKind)
unfolding lines_tokens text_tokens front_of next reading
constants_less = refl

-- on the right is enough
identifier_on_the_right : fault_in (statements (codes "IF 1 = A EXIT." ∷ codes "IF \"B\" LESS THAN A (1) EXIT." ∷ [])) ≡ None
unfolding lines_tokens text_tokens front_of next reading
identifier_on_the_right = refl

-- and on the left
identifier_on_the_left : fault_in (statements (codes "IF A = 1 EXIT." ∷ codes "IF A (1) > \"B\" EXIT." ∷ [])) ≡ None
unfolding lines_tokens text_tokens front_of next reading
identifier_on_the_left = refl

-- of each part of a condition
constants_second : fault_in (statements (codes "IF A = 1 OR 2 = 3 OR 4 = 5 EXIT." ∷ [])) ≡ Some (fault 3 24 faults.WrongKind)
unfolding lines_tokens text_tokens front_of next reading
constants_second = refl

-- a wrong comparison before a word that is wanted
constants_then_wanted : fault_in (statements (codes "IF 1 = 2." ∷ [])) ≡ Some (fault 3 15 faults.WrongKind)
unfolding lines_tokens text_tokens front_of next reading
constants_then_wanted = refl

-- and one that is not read to its end
constants_unfinished : fault_in (statements (codes "IF 1 =." ∷ [])) ≡ Some (fault 3 18 faults.WantedWord)
unfolding lines_tokens text_tokens front_of next reading
constants_unfinished = refl

-- a constant elsewhere is none
constant_moved : fault_in (statements (codes "MOVE 1 TO A ADD 1 TO A PERFORM B 2 TIMES." ∷ [])) ≡ None
unfolding lines_tokens text_tokens front_of next reading
constant_moved = refl

-- an IF in one IF, where one may stand
nested : deep_if 1 (statements (codes "IF A = 1 IF B = 1 EXIT." ∷ [])) ≡ Some (fault 3 21 faults.OverLimit)
unfolding lines_tokens text_tokens front_of
nested = refl

-- as a further statement too
nested_behind : deep_if 1 (statements (codes "IF A = 1 EXIT IF B = 1 EXIT." ∷ [])) ≡ Some (fault 3 26 faults.OverLimit)
unfolding lines_tokens text_tokens front_of
nested_behind = refl

-- and in an ELSE
nested_in_else : deep_if 1 (statements (codes "IF A = 1 EXIT ELSE IF B = 1 EXIT." ∷ [])) ≡ Some (fault 3 31 faults.OverLimit)
unfolding lines_tokens text_tokens front_of
nested_in_else = refl

-- a period ends an IF
not_nested : deep_if 1 (statements (codes "IF A = 1 EXIT." ∷ codes "IF B = 1 EXIT." ∷ [])) ≡ None
unfolding lines_tokens text_tokens front_of
not_nested = refl

-- an ELSE ends the IFs behind its own
two_deep : deep_if 2 (statements (codes "IF A = 1 IF B = 1 EXIT ELSE EXIT ELSE IF C = 1 EXIT." ∷ [])) ≡ None
unfolding lines_tokens text_tokens front_of
two_deep = refl

-- and no other
three_deep : deep_if 2 (statements (codes "IF A = 1 IF B = 1 EXIT ELSE IF C = 1 EXIT." ∷ [])) ≡ Some (fault 3 40 faults.OverLimit)
unfolding lines_tokens text_tokens front_of
three_deep = refl

-- a second paragraph, where one may stand
second_paragraph : surplus 1 (source (codes "       PROCEDURE DIVISION." ∷ codes "       A. EXIT." ∷ codes "       B." ∷ [])) ≡ Some (fault 3 8 faults.OverLimit)
unfolding lines_tokens text_tokens front_of
second_paragraph = refl

-- two may stand
two_paragraphs : surplus 2 (source (codes "       PROCEDURE DIVISION." ∷ codes "       A. EXIT." ∷ codes "       B." ∷ [])) ≡ None
unfolding lines_tokens text_tokens front_of
two_paragraphs = refl

-- so many lines
abbrev repeated : ℕ → List ℕ → List (List ℕ) → List (List ℕ)
repeated zero line lines = lines
repeated (suc n) line lines = line ∷ repeated n line lines

-- 64 IFs may nest
as_deep_as_may_be : fault_in (statements (repeated 64 (codes "IF A = 1") (codes "EXIT." ∷ []))) ≡ None
unfolding lines_tokens text_tokens front_of next reading
as_deep_as_may_be = refl

-- and not 65
too_deep : fault_in (statements (repeated 65 (codes "IF A = 1") (codes "EXIT." ∷ []))) ≡ Some (fault 67 12 faults.OverLimit)
unfolding lines_tokens text_tokens front_of next reading
too_deep = refl
