-- Worked sources: what each has, worked out by hand.
use Rattle.std.proofs.Common.{◌≡◌, [], ◌∷◌, ◌++◌, Ok, Err, refl, codes}
use Rattle.cob_lex.specs.declared.fault.SourceKind.TheVariants as faults
use Rattle.cob_lex.specs.Fronts.{front_of}
use Rattle.cob_lex.specs.Lexing.{tokens_of, lines_tokens, text_tokens}
use Rattle.cob_lex.proofs.Programs.{source}
use Rattle.cob_lex.proofs.Written.{on, word, number, literal, picture, period, opening, closing, equal, greater, less, fault}

-- no bytes are no line
no_bytes : tokens_of ([]) ≡ Ok []
unfolding lines_tokens text_tokens front_of
no_bytes = refl

-- a line of fewer than seven columns is blank, whatever is in it
short_lines : tokens_of (source (([]) ∷ codes "12*4-6" ∷ codes "       A" ∷ [])) ≡ Ok (on 3 8 (word 8 (codes "A") ∷ []))
unfolding lines_tokens text_tokens front_of
short_lines = refl

-- columns 1 to 6 may hold any bytes
sequence_area : tokens_of (source ((codes "*a." ++ (9 ∷ []) ++ codes "-\" A") ∷ [])) ≡ Ok (on 1 0 (word 8 (codes "A") ∷ []))
unfolding lines_tokens text_tokens front_of
sequence_area = refl

-- the last line may end with the source
last_line : tokens_of (codes "       A B") ≡ Ok (on 1 0 (word 8 (codes "A") ∷ word 10 (codes "B") ∷ []))
unfolding lines_tokens text_tokens front_of
last_line = refl

-- CR before LF is part of the end of the line
returns : tokens_of (source ((codes "       A" ++ (13 ∷ [])) ∷ (codes "       B." ++ (13 ∷ [])) ∷ [])) ≡ Ok (on 1 0 (word 8 (codes "A") ∷ []) ++ on 2 10 (word 8 (codes "B") ∷ period 9 (codes ".") ∷ []))
unfolding lines_tokens text_tokens front_of
returns = refl

-- any other CR is a character of its line
return_inside : tokens_of (source ((codes "       A" ++ (13 ∷ []) ++ codes "B") ∷ [])) ≡ Err (fault 1 9 faults.BadCharacter)
unfolding lines_tokens text_tokens front_of
return_inside = refl

-- of two the second alone
two_returns : tokens_of (source ((codes "       A" ++ (13 ∷ []) ++ (13 ∷ [])) ∷ [])) ≡ Err (fault 1 9 faults.BadCharacter)
unfolding lines_tokens text_tokens front_of
two_returns = refl

-- and one at the end of the source is a character
return_at_the_end : tokens_of (codes "       A" ++ 13 ∷ []) ≡ Err (fault 1 9 faults.BadCharacter)
unfolding lines_tokens text_tokens front_of
return_at_the_end = refl

-- also in column 7
return_in_column_7 : tokens_of (codes "      " ++ 13 ∷ []) ≡ Err (fault 1 7 faults.BadColumn)
unfolding lines_tokens text_tokens front_of
return_in_column_7 = refl

-- column 72 is read, and what is after it is not
column_72 : tokens_of (source (codes "       A                                                               B%" ∷ codes "       A                                                               BCD" ∷ [])) ≡ Ok (on 1 0 (word 8 (codes "A") ∷ word 72 (codes "B") ∷ []) ++ on 2 74 (word 8 (codes "A") ∷ word 72 (codes "B") ∷ []))
unfolding lines_tokens text_tokens front_of
column_72 = refl

-- a period in column 72 is before the end of the line
period_in_column_72 : tokens_of (source (codes "       A                                                              B.X" ∷ [])) ≡ Ok (on 1 0 (word 8 (codes "A") ∷ word 71 (codes "B") ∷ period 72 (codes ".") ∷ []))
unfolding lines_tokens text_tokens front_of
period_in_column_72 = refl

-- a quotation mark after column 72 closes no literal
literal_past_column_72 : tokens_of (source (codes "                                                                     \"AB\"" ∷ [])) ≡ Err (fault 1 70 faults.BadCharacter)
unfolding lines_tokens text_tokens front_of
literal_past_column_72 = refl

-- another character in column 7
indicator : tokens_of (source (codes "      -A" ∷ [])) ≡ Err (fault 1 7 faults.BadColumn)
unfolding lines_tokens text_tokens front_of
indicator = refl

-- a tab is no space
tab_indicator : tokens_of (codes "      " ++ 9 ∷ []) ≡ Err (fault 1 7 faults.BadColumn)
unfolding lines_tokens text_tokens front_of
tab_indicator = refl

-- a line may end with its column 7
seven_columns : tokens_of (source (codes "       " ∷ codes "      *" ∷ codes "      /" ∷ [])) ≡ Ok []
unfolding lines_tokens text_tokens front_of
seven_columns = refl

-- * and / make comments
comments : tokens_of (source (codes "      * %" ∷ codes "      /%\"" ∷ codes "       A" ∷ [])) ≡ Ok (on 3 20 (word 8 (codes "A") ∷ []))
unfolding lines_tokens text_tokens front_of
comments = refl

-- a comment-entry goes on over lines with a blank area A
author : tokens_of (source (codes "       AUTHOR. me." ∷ codes "           % more" ∷ codes "       " ∷ codes "12" ∷ codes "         " ∷ codes "       A." ∷ [])) ≡ Ok (on 6 58 (word 8 (codes "A") ∷ period 9 (codes ".") ∷ []))
unfolding lines_tokens text_tokens front_of
author = refl

-- all five words head one
headings : tokens_of (source (codes "       INSTALLATION. %" ∷ codes "           %" ∷ codes "        DATE-WRITTEN. %" ∷ codes "         DATE-COMPILED ." ∷ codes "          SECURITY." ∷ codes "           %" ∷ [])) ≡ Ok []
unfolding lines_tokens text_tokens front_of
headings = refl

-- a line with area A ends it, and may head another
heading_ends_by_area_a : tokens_of (source (codes "       AUTHOR. %" ∷ codes "       A" ∷ codes "           %" ∷ [])) ≡ Err (fault 3 12 faults.BadCharacter)
unfolding lines_tokens text_tokens front_of
heading_ends_by_area_a = refl

-- commas and semicolons with their spaces are like spaces
heading_after_spacing : tokens_of (source (codes "       ; AUTHOR , ." ∷ codes "           %" ∷ [])) ≡ Ok []
unfolding lines_tokens text_tokens front_of
heading_after_spacing = refl

-- in area B it heads nothing
heading_in_area_b : tokens_of (source (codes "           AUTHOR. %" ∷ [])) ≡ Err (fault 1 20 faults.BadCharacter)
unfolding lines_tokens text_tokens front_of
heading_in_area_b = refl

-- nor where spaces lead to area B
heading_in_column_12_of_spacing : tokens_of (source (codes "       ;   AUTHOR. %" ∷ [])) ≡ Err (fault 1 20 faults.BadCharacter)
unfolding lines_tokens text_tokens front_of
heading_in_column_12_of_spacing = refl

-- nor without a period
heading_without_period : tokens_of (source (codes "       AUTHOR MY." ∷ [])) ≡ Ok (on 1 0 (word 8 (codes "AUTHOR") ∷ word 15 (codes "MY") ∷ period 17 (codes ".") ∷ []))
unfolding lines_tokens text_tokens front_of
heading_without_period = refl

-- nor with one that does not separate
heading_with_bad_period : tokens_of (source (codes "       AUTHOR.X" ∷ [])) ≡ Err (fault 1 14 faults.BadCharacter)
unfolding lines_tokens text_tokens front_of
heading_with_bad_period = refl

-- nor as a part of a word
heading_is_longer : tokens_of (source (codes "       AUTHORS. %" ∷ [])) ≡ Err (fault 1 17 faults.BadCharacter)
unfolding lines_tokens text_tokens front_of
heading_is_longer = refl

-- nor with the period on the next line
heading_on_two_lines : tokens_of (source (codes "       AUTHOR" ∷ codes "           . A" ∷ [])) ≡ Ok (on 1 0 (word 8 (codes "AUTHOR") ∷ []) ++ on 2 14 (period 12 (codes ".") ∷ word 14 (codes "A") ∷ []))
unfolding lines_tokens text_tokens front_of
heading_on_two_lines = refl

-- column 7 is looked at in a comment-entry, too
indicator_in_paragraph : tokens_of (source (codes "       AUTHOR." ∷ codes "      X    A" ∷ [])) ≡ Err (fault 2 7 faults.BadColumn)
unfolding lines_tokens text_tokens front_of
indicator_in_paragraph = refl

-- a comment line does not end one
comment_in_paragraph : tokens_of (source (codes "       AUTHOR." ∷ codes "      *A" ∷ codes "           %" ∷ [])) ≡ Ok []
unfolding lines_tokens text_tokens front_of
comment_in_paragraph = refl

-- nor does it begin one
comment_heads_nothing : tokens_of (source (codes "      *AUTHOR." ∷ codes "           %" ∷ [])) ≡ Err (fault 2 12 faults.BadCharacter)
unfolding lines_tokens text_tokens front_of
comment_heads_nothing = refl

-- a word has at most 30 characters
longest_word : tokens_of (source (codes "           AAAAAAAAAAAAAAAAAAAAAAAAAAAAAA" ∷ [])) ≡ Ok (on 1 0 (word 12 (codes "AAAAAAAAAAAAAAAAAAAAAAAAAAAAAA") ∷ []))
unfolding lines_tokens text_tokens front_of
longest_word = refl

-- and not 31
too_long_word : tokens_of (source (codes "           A AAAAAAAAAAAAAAAAAAAAAAAAAAAAAAA" ∷ [])) ≡ Err (fault 1 14 faults.BadWord)
unfolding lines_tokens text_tokens front_of
too_long_word = refl

-- hyphens stand inside
hyphens : tokens_of (source (codes "       1A-2--B 1-A" ∷ [])) ≡ Ok (on 1 0 (word 8 (codes "1A-2--B") ∷ word 16 (codes "1-A") ∷ []))
unfolding lines_tokens text_tokens front_of
hyphens = refl

-- and not in front
hyphen_in_front : tokens_of (source (codes "       -A" ∷ [])) ≡ Err (fault 1 8 faults.BadWord)
unfolding lines_tokens text_tokens front_of
hyphen_in_front = refl

-- nor after
hyphen_behind : tokens_of (source (codes "       A- B" ∷ [])) ≡ Err (fault 1 8 faults.BadWord)
unfolding lines_tokens text_tokens front_of
hyphen_behind = refl

-- nor alone
hyphen_alone : tokens_of (source (codes "       A -" ∷ [])) ≡ Err (fault 1 10 faults.BadWord)
unfolding lines_tokens text_tokens front_of
hyphen_alone = refl

-- digits and hyphens are no word without a letter
digits_and_hyphens : tokens_of (source (codes "       A 1-2" ∷ [])) ≡ Err (fault 1 10 faults.BadWord)
unfolding lines_tokens text_tokens front_of
digits_and_hyphens = refl

-- a number has at most 18 digits
longest_number : tokens_of (source (codes "           123456789012345678 007" ∷ [])) ≡ Ok (on 1 0 (number 12 (codes "123456789012345678") ∷ number 31 (codes "007") ∷ []))
unfolding lines_tokens text_tokens front_of
longest_number = refl

-- and not 19
too_long_number : tokens_of (source (codes "           1234567890123456789" ∷ [])) ≡ Err (fault 1 12 faults.BadWord)
unfolding lines_tokens text_tokens front_of
too_long_number = refl

-- two quotation marks inside stand for one
literals : tokens_of (source (codes "       \"A\"\"B\" \"\"\"\" \" \"" ∷ [])) ≡ Ok (on 1 0 (literal 8 (codes "\"A\"\"B\"") ∷ literal 15 (codes "\"\"\"\"") ∷ literal 20 (codes "\" \"") ∷ []))
unfolding lines_tokens text_tokens front_of
literals = refl

-- a literal holds any characters of a text
literal_with_signs : tokens_of (source (codes "       \"A.*a~\" \"PIC X\"" ∷ [])) ≡ Ok (on 1 0 (literal 8 (codes "\"A.*a~\"") ∷ literal 16 (codes "\"PIC X\"") ∷ []))
unfolding lines_tokens text_tokens front_of
literal_with_signs = refl

-- a word may follow at once
literal_and_word : tokens_of (source (codes "       \"A\"B" ∷ [])) ≡ Ok (on 1 0 (literal 8 (codes "\"A\"") ∷ word 11 (codes "B") ∷ []))
unfolding lines_tokens text_tokens front_of
literal_and_word = refl

-- a literal has a character
empty_literal : tokens_of (source (codes "       A \"\"" ∷ [])) ≡ Err (fault 1 10 faults.BadWord)
unfolding lines_tokens text_tokens front_of
empty_literal = refl

-- and ends in its line
open_literal : tokens_of (source (codes "       A \"B" ∷ codes "       \"" ∷ [])) ≡ Err (fault 1 10 faults.BadCharacter)
unfolding lines_tokens text_tokens front_of
open_literal = refl

-- three quotation marks open a literal that does not end
three_quotes : tokens_of (source (codes "       \"\"\"" ∷ [])) ≡ Err (fault 1 8 faults.BadCharacter)
unfolding lines_tokens text_tokens front_of
three_quotes = refl

-- a byte that is no character is told where it stands
byte_in_literal : tokens_of (source ((codes "       \"A" ++ (9 ∷ []) ++ codes "B\"") ∷ [])) ≡ Err (fault 1 10 faults.BadCharacter)
unfolding lines_tokens text_tokens front_of
byte_in_literal = refl

-- in a literal that does not end, the opening quotation mark is told
byte_in_open_literal : tokens_of (source ((codes "       \"A" ++ (9 ∷ []) ++ codes "B") ∷ [])) ≡ Err (fault 1 8 faults.BadCharacter)
unfolding lines_tokens text_tokens front_of
byte_in_open_literal = refl

-- a picture is the run after PIC
picture_behind_pic : tokens_of (source (codes "           A PIC X(4)." ∷ [])) ≡ Ok (on 1 0 (word 12 (codes "A") ∷ word 14 (codes "PIC") ∷ picture 18 (codes "X(4)") ∷ period 22 (codes ".") ∷ []))
unfolding lines_tokens text_tokens front_of
picture_behind_pic = refl

-- or after PICTURE IS
picture_is : tokens_of (source (codes "           PICTURE IS 9, A" ∷ [])) ≡ Ok (on 1 0 (word 12 (codes "PICTURE") ∷ word 20 (codes "IS") ∷ picture 23 (codes "9") ∷ word 26 (codes "A") ∷ []))
unfolding lines_tokens text_tokens front_of
picture_is = refl

-- also on later lines
picture_on_next_line : tokens_of (source (codes "           PIC" ∷ codes "      * NOTE" ∷ codes "           IS" ∷ codes "           a.b;" ∷ [])) ≡ Ok (on 1 0 (word 12 (codes "PIC") ∷ []) ++ on 3 28 (word 12 (codes "IS") ∷ []) ++ on 4 42 (picture 12 (codes "a.b") ∷ []))
unfolding lines_tokens text_tokens front_of
picture_on_next_line = refl

-- periods inside belong to it, the last one does not
periods_in_picture : tokens_of (source (codes "           PIC 9.9.. A" ∷ [])) ≡ Ok (on 1 0 (word 12 (codes "PIC") ∷ picture 16 (codes "9.9.") ∷ period 20 (codes ".") ∷ word 22 (codes "A") ∷ []))
unfolding lines_tokens text_tokens front_of
periods_in_picture = refl

-- so does one that a space does not follow
picture_without_period : tokens_of (source (codes "           PIC .X" ∷ [])) ≡ Ok (on 1 0 (word 12 (codes "PIC") ∷ picture 16 (codes ".X") ∷ []))
unfolding lines_tokens text_tokens front_of
picture_without_period = refl

-- a period alone is none, and none is awaited after it
no_picture : tokens_of (source (codes "           PIC . %" ∷ [])) ≡ Err (fault 1 18 faults.BadCharacter)
unfolding lines_tokens text_tokens front_of
no_picture = refl

-- also after IS
no_picture_behind_is : tokens_of (source (codes "           PIC IS. A" ∷ [])) ≡ Ok (on 1 0 (word 12 (codes "PIC") ∷ word 16 (codes "IS") ∷ period 18 (codes ".") ∷ word 20 (codes "A") ∷ []))
unfolding lines_tokens text_tokens front_of
no_picture_behind_is = refl

-- a comma or a semicolon alone is like a space
comma_before_picture : tokens_of (source (codes "           PIC , ; X" ∷ [])) ≡ Ok (on 1 0 (word 12 (codes "PIC") ∷ picture 20 (codes "X") ∷ []))
unfolding lines_tokens text_tokens front_of
comma_before_picture = refl

-- a second IS is a picture
is_as_picture : tokens_of (source (codes "           PIC IS IS IS" ∷ [])) ≡ Ok (on 1 0 (word 12 (codes "PIC") ∷ word 16 (codes "IS") ∷ picture 19 (codes "IS") ∷ word 22 (codes "IS") ∷ []))
unfolding lines_tokens text_tokens front_of
is_as_picture = refl

-- so is a second PIC, and nothing is awaited after it
pic_as_picture : tokens_of (source (codes "           PIC PIC IS A%" ∷ [])) ≡ Err (fault 1 24 faults.BadCharacter)
unfolding lines_tokens text_tokens front_of
pic_as_picture = refl

-- a picture may follow at once
picture_at_once : tokens_of (source (codes "           PIC(X)" ∷ [])) ≡ Ok (on 1 0 (word 12 (codes "PIC") ∷ picture 15 (codes "(X)") ∷ []))
unfolding lines_tokens text_tokens front_of
picture_at_once = refl

-- no picture comes after another word
pictures : tokens_of (source (codes "           PICS X. A-PIC Y." ∷ [])) ≡ Ok (on 1 0 (word 12 (codes "PICS") ∷ word 17 (codes "X") ∷ period 18 (codes ".") ∷ word 20 (codes "A-PIC") ∷ word 26 (codes "Y") ∷ period 27 (codes ".") ∷ []))
unfolding lines_tokens text_tokens front_of
pictures = refl

-- a byte that is no character is told where it stands
byte_in_picture : tokens_of (source ((codes "           PIC XX" ++ (127 ∷ []) ++ codes "X.") ∷ [])) ≡ Err (fault 1 18 faults.BadCharacter)
unfolding lines_tokens text_tokens front_of
byte_in_picture = refl

-- a comment-entry is no picture
heading_is_no_picture : tokens_of (source (codes "           PIC" ∷ codes "       AUTHOR. %" ∷ codes "       X." ∷ [])) ≡ Ok (on 1 0 (word 12 (codes "PIC") ∷ []) ++ on 3 32 (picture 8 (codes "X") ∷ period 9 (codes ".") ∷ []))
unfolding lines_tokens text_tokens front_of
heading_is_no_picture = refl

-- the signs are tokens wherever they stand
signs : tokens_of (source (codes "       (=)><A(1)" ∷ [])) ≡ Ok (on 1 0 (opening 8 (codes "(") ∷ equal 9 (codes "=") ∷ closing 10 (codes ")") ∷ greater 11 (codes ">") ∷ less 12 (codes "<") ∷ word 13 (codes "A") ∷ opening 14 (codes "(") ∷ number 15 (codes "1") ∷ closing 16 (codes ")") ∷ []))
unfolding lines_tokens text_tokens front_of
signs = refl

-- commas and semicolons before a space or the end of the line are like spaces
separators : tokens_of (source (codes "       A, ; B;" ∷ codes "       C," ∷ [])) ≡ Ok (on 1 0 (word 8 (codes "A") ∷ word 13 (codes "B") ∷ []) ++ on 2 15 (word 8 (codes "C") ∷ []))
unfolding lines_tokens text_tokens front_of
separators = refl

-- and at no other place
comma_inside : tokens_of (source (codes "       A,B" ∷ [])) ≡ Err (fault 1 9 faults.BadCharacter)
unfolding lines_tokens text_tokens front_of
comma_inside = refl

-- nor a semicolon
semicolon_inside : tokens_of (source (codes "       A ;." ∷ [])) ≡ Err (fault 1 10 faults.BadCharacter)
unfolding lines_tokens text_tokens front_of
semicolon_inside = refl

-- a period separates before a space or the end of the line alone
period_inside : tokens_of (source (codes "       A. ." ∷ codes "       1.5" ∷ [])) ≡ Err (fault 2 9 faults.BadCharacter)
unfolding lines_tokens text_tokens front_of
period_inside = refl

-- small letters are no characters of a word
small_letter : tokens_of (source (codes "       A b" ∷ [])) ≡ Err (fault 1 10 faults.BadCharacter)
unfolding lines_tokens text_tokens front_of
small_letter = refl

-- nor is a tab like a space
tab : tokens_of (source ((codes "       A" ++ (9 ∷ []) ++ codes "B") ∷ [])) ≡ Err (fault 1 9 faults.BadCharacter)
unfolding lines_tokens text_tokens front_of
tab = refl

-- nor is any other sign a token
plus : tokens_of (source (codes "       A + B" ∷ [])) ≡ Err (fault 1 10 faults.BadCharacter)
unfolding lines_tokens text_tokens front_of
plus = refl

-- the first fault of the text is told
first_of_two_lines : tokens_of (source (codes "       A -" ∷ codes "      X" ∷ [])) ≡ Err (fault 1 10 faults.BadWord)
unfolding lines_tokens text_tokens front_of
first_of_two_lines = refl

-- also of one line
first_of_one_line : tokens_of (source (codes "       A % -" ∷ [])) ≡ Err (fault 1 10 faults.BadCharacter)
unfolding lines_tokens text_tokens front_of
first_of_one_line = refl

-- column 7 comes before the text of its line
column_before_text : tokens_of (source (codes "       A" ∷ codes "      XA %" ∷ [])) ≡ Err (fault 2 7 faults.BadColumn)
unfolding lines_tokens text_tokens front_of
column_before_text = refl
