-- The reserved words as one text, and what is asked of a token, worked out by hand.
use Rattle.std.proofs.Common.{◌≡◌, ℕ, true, false, List, [], ◌∷◌, ◌++◌, refl, codes}
use Rattle.cob_lex.specs.declared.token.TokenKind.TheVariants as kinds
use Rattle.cob_lex.specs.Lines.{place}
use Rattle.cob_lex.proofs.Written.{word, literal}
use Rattle.cob_forms.specs.Sorts.{any_word, is, is_reserved, name, of_kind, reserved, reserved_words}

-- words, each with a space behind it
abbrev as_text : List (List ℕ) → List ℕ
as_text [] = []
as_text (word ∷ words) = word ++ 32 ∷ as_text words

-- all of them
all_words : as_text reserved_words ≡
    codes "ACCEPT ADD ADVANCING AFTER AND AUTHOR BEFORE CD COMMUNICATION CONFIGURATION COUNT DATA DATE " ++
    codes "DATE-COMPILED DATE-WRITTEN DESTINATION DISABLE DIVISION EGI ELSE EMI ENABLE END ENVIRONMENT EQUAL " ++
    codes "ERROR ESI EXIT FILLER FOR FROM GO GREATER IDENTIFICATION IF INITIAL INPUT INSTALLATION INTO IS KEY " ++
    codes "LENGTH LESS LINE LINES MESSAGE MOVE NO NOT NUMERIC OBJECT-COMPUTER OCCURS OR OUTPUT PAGE PERFORM " ++
    codes "PIC PICTURE PROCEDURE PROGRAM-ID QUEUE RECEIVE RUN SECTION SECURITY SEGMENT SEND SOURCE " ++
    codes "SOURCE-COMPUTER SPACE SPACES STATUS STOP SUB-QUEUE-1 SUB-QUEUE-2 SUB-QUEUE-3 SUBTRACT SYMBOLIC " ++
    codes "TABLE TERMINAL TEXT THAN THROUGH THRU TIME TIMES TO UNTIL VALUE WITH WORKING-STORAGE ZERO ZEROES " ++
    codes "ZEROS "
all_words = refl

-- a word that begins like one is none
longer_word : is_reserved (codes "MOVED") ≡ false
longer_word = refl

-- a reserved word is a word, and no name
reserved_is_no_name : is name (word 12 (codes "MOVE") (place 3 40)) ≡ false
reserved_is_no_name = refl

-- any word may be reserved
reserved_is_a_word : is any_word (word 12 (codes "MOVE") (place 3 40)) ≡ true
reserved_is_a_word = refl

-- a reserved word is asked for by its text
reserved_by_text : is (reserved (codes "MOVE")) (word 12 (codes "SEND") (place 3 40)) ≡ false
reserved_by_text = refl

-- and no literal is it
literal_is_no_word : is (reserved (codes "MOVE")) (literal 12 (codes "MOVE") (place 3 40)) ≡ false
literal_is_no_word = refl

-- a kind is asked for by itself
literal_by_kind : is (of_kind kinds.Literal) (literal 12 (codes "\"MOVE\"") (place 3 40)) ≡ true
literal_by_kind = refl
