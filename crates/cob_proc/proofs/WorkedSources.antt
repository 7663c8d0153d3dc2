-- Worked sources: where another word or sign is wanted, worked out by hand.
use Rattle.std.proofs.Common.{◌≡◌, ℕ, List, [], ◌∷◌, ◌++◌, Option, Some, None, Result, Ok, Err, refl, codes}
use Rattle.cob_lex.specs.declared.fault.SourceFault.{SourceFault}
use Rattle.cob_lex.specs.declared.fault.SourceKind.TheVariants as faults
use Rattle.cob_lex.specs.declared.token.Token.{Token}
use Rattle.cob_lex.specs.Fronts.{front_of}
use Rattle.cob_lex.specs.Lexing.{lines_tokens, text_tokens, tokens_of}
use Rattle.cob_forms.specs.Forms.{next, reading}
use Rattle.cob_forms.specs.Faults.{fault, wanted_word}
use Rattle.cob_lex.proofs.Programs.{source}
use Rattle.cob_proc.specs.Forms.{procedure_division, alternatives_of}

-- the tokens of a source without a fault
abbrev pub tokens_in : Result (List Token) SourceFault → List Token
tokens_in (Ok tokens) = tokens
tokens_in (Err fault) = []

abbrev asked_of : List Token → Option SourceFault
asked_of tokens = wanted_word tokens (reading alternatives_of procedure_division tokens)

-- where another word or sign is wanted in a source
abbrev asked : List ℕ → Option SourceFault
asked source = asked_of (tokens_in (tokens_of source))

-- lines in area B
abbrev pub in_area_b : List (List ℕ) → List (List ℕ)
in_area_b [] = []
in_area_b (line ∷ lines) = (codes "           " ++ line) ∷ in_area_b lines

-- a division with one paragraph, whose sentences begin in line 3
abbrev pub statements : List (List ℕ) → List ℕ
statements lines = source (codes "       PROCEDURE DIVISION." ∷ codes "       MAIN." ∷ in_area_b lines)

-- a paragraph may have no sentence
no_sentence : asked (statements []) ≡ None
unfolding lines_tokens text_tokens front_of next reading
no_sentence = refl

-- a MOVE has one target or more
moves : asked (statements (codes "MOVE \"A\" TO B C (1) D." ∷ codes "MOVE ZERO TO B. MOVE B TO C." ∷ [])) ≡ None
unfolding lines_tokens text_tokens front_of next reading
moves = refl

-- and not none
move_without_target : asked (statements (codes "MOVE A TO." ∷ [])) ≡ Some (fault 3 21 faults.WantedWord)
unfolding lines_tokens text_tokens front_of next reading
move_without_target = refl

-- a reserved word is no operand
move_from_reserved : asked (statements (codes "MOVE TEXT TO A." ∷ [])) ≡ Some (fault 3 17 faults.WantedWord)
unfolding lines_tokens text_tokens front_of next reading
move_from_reserved = refl

-- ADD and SUBTRACT have one target
sums : asked (statements (codes "ADD 1 TO A SUBTRACT B (C) FROM D." ∷ [])) ≡ None
unfolding lines_tokens text_tokens front_of next reading
sums = refl

-- and not two
two_sums : asked (statements (codes "ADD 1 TO A B." ∷ [])) ≡ Some (fault 3 23 faults.WantedWord)
unfolding lines_tokens text_tokens front_of next reading
two_sums = refl

-- they take no literal
sum_of_literal : asked (statements (codes "ADD \"1\" TO A." ∷ [])) ≡ Some (fault 3 16 faults.WantedWord)
unfolding lines_tokens text_tokens front_of next reading
sum_of_literal = refl

-- PERFORM with a range, a number of times and a condition
performs : asked (statements (codes "PERFORM A" ∷ codes "PERFORM A THRU B PERFORM A 3 TIMES" ∷ codes "PERFORM A THROUGH B N TIMES" ∷ codes "PERFORM A UNTIL B = C." ∷ [])) ≡ None
unfolding lines_tokens text_tokens front_of next reading
performs = refl

-- a number wants TIMES
perform_number : asked (statements (codes "PERFORM A 3." ∷ [])) ≡ Some (fault 3 23 faults.WantedWord)
unfolding lines_tokens text_tokens front_of next reading
perform_number = refl

-- GO TO or GO
goes : asked (statements (codes "GO TO A GO B." ∷ [])) ≡ None
unfolding lines_tokens text_tokens front_of next reading
goes = refl

-- a paragraph has no reserved word as its name
go_to_reserved : asked (statements (codes "GO TO EXIT." ∷ [])) ≡ Some (fault 3 18 faults.WantedWord)
unfolding lines_tokens text_tokens front_of next reading
go_to_reserved = refl

-- STOP wants RUN
stops : asked (statements (codes "STOP RUN EXIT STOP." ∷ [])) ≡ Some (fault 3 30 faults.WantedWord)
unfolding lines_tokens text_tokens front_of next reading
stops = refl

-- ELSE belongs to the nearest IF
ifs : asked (statements (codes "IF A = 1 IF B IS NOT NUMERIC EXIT ELSE EXIT" ∷ codes "ELSE STOP RUN." ∷ [])) ≡ None
unfolding lines_tokens text_tokens front_of next reading
ifs = refl

-- and there is one for each IF
third_else : asked (statements (codes "IF A = 1 EXIT ELSE EXIT ELSE EXIT." ∷ [])) ≡ Some (fault 3 36 faults.WantedWord)
unfolding lines_tokens text_tokens front_of next reading
third_else = refl

-- IF has a statement
empty_if : asked (statements (codes "IF A = 1." ∷ [])) ≡ Some (fault 3 20 faults.WantedWord)
unfolding lines_tokens text_tokens front_of next reading
empty_if = refl

-- so has ELSE
empty_else : asked (statements (codes "IF A = 1 EXIT ELSE." ∷ [])) ≡ Some (fault 3 30 faults.WantedWord)
unfolding lines_tokens text_tokens front_of next reading
empty_else = refl

-- ELSE wants an IF
else_alone : asked (statements (codes "EXIT ELSE EXIT." ∷ [])) ≡ Some (fault 3 17 faults.WantedWord)
unfolding lines_tokens text_tokens front_of next reading
else_alone = refl

-- the relations, with and without their words
relations : asked (statements (codes "IF A IS NOT EQUAL TO 1 AND B GREATER THAN SPACES AND \"A\" < B" ∷ codes "AND C NOT LESS D AND E IS > F EXIT." ∷ [])) ≡ None
unfolding lines_tokens text_tokens front_of next reading
relations = refl

-- AND and OR are not mixed
mixed_condition : asked (statements (codes "IF A = 1 AND B = 2 OR C = 3 EXIT." ∷ [])) ≡ Some (fault 3 31 faults.WantedWord)
unfolding lines_tokens text_tokens front_of next reading
mixed_condition = refl

-- OR alone
or_condition : asked (statements (codes "IF A = 1 OR B = 2 OR C = 3 EXIT." ∷ [])) ≡ None
unfolding lines_tokens text_tokens front_of next reading
or_condition = refl

-- NUMERIC is asked of an identifier
numeric_literal : asked (statements (codes "IF 1 NUMERIC EXIT." ∷ [])) ≡ Some (fault 3 17 faults.WantedWord)
unfolding lines_tokens text_tokens front_of next reading
numeric_literal = refl

-- NOT comes behind IS
not_is : asked (statements (codes "IF A NOT IS = 1 EXIT." ∷ [])) ≡ Some (fault 3 21 faults.WantedWord)
unfolding lines_tokens text_tokens front_of next reading
not_is = refl

-- RECEIVE with and without NO DATA
receives : asked (statements (codes "RECEIVE C MESSAGE INTO A RECEIVE C SEGMENT INTO A (2)" ∷ codes "NO DATA EXIT STOP RUN." ∷ [])) ≡ None
unfolding lines_tokens text_tokens front_of next reading
receives = refl

-- a message or a segment is received
receive_text : asked (statements (codes "RECEIVE C TEXT INTO A." ∷ [])) ≡ Some (fault 3 22 faults.WantedWord)
unfolding lines_tokens text_tokens front_of next reading
receive_text = refl

-- inside NO DATA an IF may not stand
if_in_no_data : asked (statements (codes "RECEIVE C MESSAGE INTO A NO DATA EXIT IF B = 1 EXIT." ∷ [])) ≡ Some (fault 3 50 faults.WantedWord)
unfolding lines_tokens text_tokens front_of next reading
if_in_no_data = refl

-- also not first
if_first_in_no_data : asked (statements (codes "RECEIVE C MESSAGE INTO A NO DATA IF B = 1 EXIT." ∷ [])) ≡ Some (fault 3 45 faults.WantedWord)
unfolding lines_tokens text_tokens front_of next reading
if_first_in_no_data = refl

-- nor a second NO DATA
no_data_twice : asked (statements (codes "RECEIVE C MESSAGE INTO A NO DATA" ∷ codes "RECEIVE C MESSAGE INTO A NO DATA EXIT." ∷ [])) ≡ Some (fault 4 37 faults.WantedWord)
unfolding lines_tokens text_tokens front_of next reading
no_data_twice = refl

-- its statements go on to the ELSE of an IF around it
else_behind_no_data : asked (statements (codes "IF A = 1 RECEIVE C MESSAGE INTO A NO DATA EXIT ELSE EXIT." ∷ [])) ≡ None
unfolding lines_tokens text_tokens front_of next reading
else_behind_no_data = refl

-- SEND with what it may have
sends : asked (statements (codes "SEND C FROM A SEND C FROM A WITH EMI SEND C ESI" ∷ codes "SEND C WITH B BEFORE ADVANCING 2 LINES" ∷ codes "SEND C FROM A EGI AFTER PAGE" ∷ codes "SEND C EMI AFTER N LINE." ∷ [])) ≡ None
unfolding lines_tokens text_tokens front_of next reading
sends = refl

-- SEND wants a text or its end
send_nothing : asked (statements (codes "SEND C." ∷ [])) ≡ Some (fault 3 18 faults.WantedWord)
unfolding lines_tokens text_tokens front_of next reading
send_nothing = refl

-- advancing wants the end
send_advancing : asked (statements (codes "SEND C FROM A BEFORE PAGE." ∷ [])) ≡ Some (fault 3 26 faults.WantedWord)
unfolding lines_tokens text_tokens front_of next reading
send_advancing = refl

-- ENABLE and DISABLE
switches : asked (statements (codes "ENABLE INPUT TERMINAL C WITH KEY \"K\" DISABLE OUTPUT C KEY A." ∷ [])) ≡ None
unfolding lines_tokens text_tokens front_of next reading
switches = refl

-- TERMINAL is of input
output_terminal : asked (statements (codes "ENABLE OUTPUT TERMINAL C KEY A." ∷ [])) ≡ Some (fault 3 26 faults.WantedWord)
unfolding lines_tokens text_tokens front_of next reading
output_terminal = refl

-- a key is an identifier or a literal
key_number : asked (statements (codes "ENABLE INPUT C KEY 1." ∷ [])) ≡ Some (fault 3 31 faults.WantedWord)
unfolding lines_tokens text_tokens front_of next reading
key_number = refl

-- ACCEPT, with MESSAGE or without
accepts : asked (statements (codes "ACCEPT C MESSAGE COUNT ACCEPT C COUNT." ∷ [])) ≡ None
unfolding lines_tokens text_tokens front_of next reading
accepts = refl

-- a subscript is one number or one name
subscript_twice : asked (statements (codes "MOVE A (B 1) TO C." ∷ [])) ≡ Some (fault 3 22 faults.WantedWord)
unfolding lines_tokens text_tokens front_of next reading
subscript_twice = refl

-- where the tokens end too early, the last token is told
early_end : asked (statements (codes "MOVE A TO B. MOVE A" ∷ [])) ≡ Some (fault 3 30 faults.WantedWord)
unfolding lines_tokens text_tokens front_of next reading
early_end = refl

-- and line 1 column 1 where there is none
no_tokens : asked ([]) ≡ Some (fault 1 1 faults.WantedWord)
unfolding lines_tokens text_tokens front_of next reading
no_tokens = refl

-- there is a paragraph at least
no_paragraph : asked (source (codes "       PROCEDURE DIVISION." ∷ [])) ≡ Some (fault 1 26 faults.WantedWord)
unfolding lines_tokens text_tokens front_of next reading
no_paragraph = refl

-- a sentence stands in a paragraph
sentence_without_paragraph : asked (source (codes "       PROCEDURE DIVISION." ∷ codes "           EXIT." ∷ [])) ≡ Some (fault 2 12 faults.WantedWord)
unfolding lines_tokens text_tokens front_of next reading
sentence_without_paragraph = refl
