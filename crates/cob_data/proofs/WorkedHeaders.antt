-- The words that a program chooses behind its headers, worked out by hand: any word, also a reserved one.
use Rattle.std.proofs.Common.{◌≡◌, ℕ, List, [], ◌∷◌, Option, Some, None, refl, codes}
use Rattle.cob_lex.specs.declared.fault.SourceFault.{SourceFault}
use Rattle.cob_lex.specs.declared.fault.SourceKind.TheVariants as faults
use Rattle.cob_lex.specs.Fronts.{front_of}
use Rattle.cob_lex.specs.Lexing.{lines_tokens, text_tokens, tokens_of}
use Rattle.cob_forms.specs.Forms.{next, reading}
use Rattle.cob_forms.specs.Faults.{fault}
use Rattle.cob_lex.proofs.Programs.{source}
use Rattle.cob_data.specs.Divisions.{word_behind}
use Rattle.cob_data.specs.Faults.{data_fault}
use Rattle.cob_data.proofs.Sources.{tokens_in}

-- the fault of a source
abbrev told_in : List ℕ → Option SourceFault
told_in source = data_fault (tokens_in (tokens_of source))

-- a program with these lines in its Configuration Section, which begin in line 5
abbrev configured : List ℕ → List ℕ → List ℕ
configured one other = source (
    codes "       IDENTIFICATION DIVISION." ∷
    codes "       PROGRAM-ID. P." ∷
    codes "       ENVIRONMENT DIVISION." ∷
    codes "       CONFIGURATION SECTION." ∷
    one ∷ other ∷
    codes "       DATA DIVISION." ∷
    codes "       PROCEDURE DIVISION." ∷ [])

-- two reserved words, of which the first is like a header of its own
abbrev reserved_words : List ℕ
reserved_words = configured (codes "       SOURCE-COMPUTER. SOURCE-COMPUTER.") (codes "       OBJECT-COMPUTER. PROCEDURE.")

-- they are no fault
reserved_words_are_right : told_in reserved_words ≡ None
unfolding lines_tokens text_tokens front_of next reading
reserved_words_are_right = refl

-- and are told as they stand
reserved_source_computer : word_behind (codes "SOURCE-COMPUTER") (tokens_in (tokens_of reserved_words)) ≡ Some (record { text = codes "SOURCE-COMPUTER"; position = record { line = 5; column = 25 } })
unfolding lines_tokens text_tokens front_of
reserved_source_computer = refl

-- each behind its own header
reserved_object_computer : word_behind (codes "OBJECT-COMPUTER") (tokens_in (tokens_of reserved_words)) ≡ Some (record { text = codes "PROCEDURE"; position = record { line = 6; column = 25 } })
unfolding lines_tokens text_tokens front_of
reserved_object_computer = refl

-- in a line of its own such a word is in area B
word_in_area_b : told_in (configured (codes "       SOURCE-COMPUTER.") (codes "           DATA.")) ≡ None
unfolding lines_tokens text_tokens front_of next reading
word_in_area_b = refl

-- and not in area A
word_in_area_a : told_in (configured (codes "       SOURCE-COMPUTER.") (codes "       DATA.")) ≡ Some (fault 6 8 faults.BadColumn)
unfolding lines_tokens text_tokens front_of next reading
word_in_area_a = refl

-- a number is no word
number_of_computer : told_in (configured (codes "       SOURCE-COMPUTER. 74.") (codes "       OBJECT-COMPUTER. A.")) ≡ Some (fault 5 25 faults.WantedWord)
unfolding lines_tokens text_tokens front_of next reading
number_of_computer = refl
