-- What PERFORM, GO and the verbs do, worked out by hand.
use Rattle.std.proofs.Common.{◌≡◌, ℕ, true, false, List, [], ◌∷◌, ◌++◌, Option, Some, None, refl, codes}
use Rattle.com_text.specs.Name.{spaces}
use Rattle.com_cd.specs.InputArea.{opening_area, set_in, zeros}
use Rattle.com_cd.specs.declared.input_area.InField.TheVariants as field
use Rattle.com_events.specs.declared.call.Call.{Call}
use Rattle.com_events.specs.declared.call.Call.TheVariants as call
use Rattle.com_events.specs.declared.call.StopReason.TheVariants as stop
use Rattle.com_events.specs.declared.reply.Reply.{Reply}
use Rattle.com_events.specs.declared.reply.Reply.TheVariants as reply
use Rattle.com_msg.specs.declared.rest.Kind.TheVariants as kind
use Rattle.com_msg.specs.declared.sending.Advance.TheVariants as advance
use Rattle.com_msg.specs.declared.sending.Part.{Part}
use Rattle.com_msg.specs.declared.sending.Part.TheVariants as part
use Rattle.cob_proc.specs.declared.tree.Addend.TheVariants as addends
use Rattle.cob_proc.specs.declared.tree.Condition.{Condition}
use Rattle.cob_proc.specs.declared.tree.Advancing.{Advancing}
use Rattle.cob_proc.specs.declared.tree.Indicator.{Indicator}
use Rattle.cob_proc.specs.declared.tree.Indicator.TheVariants as indicators
use Rattle.cob_proc.specs.declared.tree.Key.TheVariants as keys
use Rattle.cob_proc.specs.declared.tree.Lines.{Lines}
use Rattle.cob_proc.specs.declared.tree.Lines.TheVariants as lines
use Rattle.cob_proc.specs.declared.tree.Repetition.TheVariants as repetitions
use Rattle.cob_proc.specs.Trees.{Tree, ParagraphTree}
use Rattle.cob_meaning.specs.Meaning.{Ending, Stopped, Wants, Meaning, Program, meaning, meaning_within, unit_limits}
use Rattle.cob_meaning.proofs.Trees.{here, name, item, item_by_number, item_by_item, of_item, literal, a_numeral, by_number, by_item, move_to, equals, alone, perform, perform_thru, go_to, paragraph, quoted, accept_of, add_of, exit_of, if_of, receive_of, send_of, stop_of, switch_input_of, switch_output_of}
use Rattle.cob_meaning.proofs.SmallPrograms.{out_area, program, shows, sent, at_once, data_fault}

abbrev pub main : List Tree → List ParagraphTree → Program
main statements others = program (codes "ABC") (codes "042") (codes "XY12") (paragraph (codes "MAIN") statements ∷ others)

abbrev pub runs : List Tree → List ParagraphTree → Meaning
runs statements others = meaning (main statements others) None []

-- shows M and stops
abbrev pub shows_m : List Tree
shows_m = shows (codes "M") ∷ []

-- adds a number to M
abbrev adds : List ℕ → Tree
adds text = add_of (by_number text) (item (codes "M"))

abbrev pub once_more : ParagraphTree
once_more = paragraph (codes "P") (adds (codes "1") ∷ [])

abbrev m_is : List ℕ → Condition
m_is text = alone (equals (of_item (codes "M")) (a_numeral text))

-- the end of the text stops the unit
end_of_text : runs (exit_of ∷ []) [] ≡ at_once (Stopped stop.Run)
unfolding unit_limits
end_of_text = refl

-- so does STOP RUN, and nothing behind it is done
stop_run : runs (stop_of ∷ shows_m) [] ≡ at_once (Stopped stop.Run)
unfolding unit_limits
stop_run = refl

-- PERFORM does its paragraph and goes on behind it
perform_once : runs (perform (codes "P") repetitions.Once ∷ shows_m) (once_more ∷ []) ≡ sent (codes "043")
unfolding unit_limits
perform_once = refl

-- without PERFORM the next paragraph follows
falls_through : runs (exit_of ∷ []) (once_more ∷ paragraph (codes "Q") shows_m ∷ []) ≡ sent (codes "043")
unfolding unit_limits
falls_through = refl

-- so often
perform_times : runs (perform (codes "P") (repetitions.Times (by_number (codes "3"))) ∷ shows_m) (once_more ∷ []) ≡ sent (codes "045")
unfolding unit_limits
perform_times = refl

-- TIMES of zero does nothing
perform_never : runs (perform (codes "P") (repetitions.Times (by_number (codes "0"))) ∷ shows_m) (once_more ∷ []) ≡ sent (codes "042")
unfolding unit_limits
perform_never = refl

-- TIMES reads its number once, though the range changes it
times_read_once : runs (move_to (a_numeral (codes "2")) (item (codes "M") ∷ []) ∷ perform (codes "P") (repetitions.Times (by_item (codes "M"))) ∷ shows_m) (once_more ∷ []) ≡ sent (codes "004")
unfolding unit_limits
times_read_once = refl

-- UNTIL is tested before the first turn
until_at_once : runs (perform (codes "P") (repetitions.Until (m_is (codes "42"))) ∷ shows_m) (once_more ∷ []) ≡ sent (codes "042")
unfolding unit_limits
until_at_once = refl

-- and before each other
until_later : runs (perform (codes "P") (repetitions.Until (m_is (codes "45"))) ∷ shows_m) (once_more ∷ []) ≡ sent (codes "045")
unfolding unit_limits
until_later = refl

-- a fault in UNTIL's test stops the unit before its turn is counted
until_letters : meaning_within (record { statements = 2; verbs = 1 }) (program (codes "ABC") (codes "0A2") (codes "XY12") (paragraph (codes "MAIN") (exit_of ∷ perform (codes "P") (repetitions.Until (m_is (codes "42"))) ∷ []) ∷ once_more ∷ [])) None [] ≡ data_fault
until_letters = refl

-- THRU takes in the paragraphs between
performs_thru : runs (perform_thru (codes "P") (codes "Q") repetitions.Once ∷ shows_m) (once_more ∷ paragraph (codes "Q") (adds (codes "100") ∷ []) ∷ []) ≡ sent (codes "143")
unfolding unit_limits
performs_thru = refl

-- a GO inside a range stays in it, and the range ends behind its last paragraph
go_in_range : runs (perform_thru (codes "P") (codes "R") repetitions.Once ∷ shows_m) (paragraph (codes "P") (go_to (codes "R") ∷ []) ∷ paragraph (codes "Q") (adds (codes "100") ∷ []) ∷ paragraph (codes "R") (adds (codes "1") ∷ []) ∷ []) ≡ sent (codes "043")
unfolding unit_limits
go_in_range = refl

-- which other paragraphs may follow
go_in_range_ends : runs (perform_thru (codes "P") (codes "Q") repetitions.Once ∷ shows_m) (paragraph (codes "P") (go_to (codes "Q") ∷ []) ∷ paragraph (codes "Q") (adds (codes "1") ∷ []) ∷ paragraph (codes "R") (adds (codes "100") ∷ []) ∷ []) ≡ sent (codes "043")
unfolding unit_limits
go_in_range_ends = refl

-- and may go back to its first
go_back_in_range : runs (perform_thru (codes "P") (codes "Q") repetitions.Once ∷ shows_m) (once_more ∷ paragraph (codes "Q") (if_of here (m_is (codes "45")) ((exit_of ∷ [])) ((go_to (codes "P") ∷ [])) ∷ []) ∷ []) ≡ sent (codes "045")
unfolding unit_limits
go_back_in_range = refl

-- a GO goes back too
go_back : runs (adds (codes "1") ∷ if_of here (m_is (codes "44")) (shows_m) [] ∷ go_to (codes "MAIN") ∷ []) [] ≡ sent (codes "044")
unfolding unit_limits
go_back = refl

-- a range performs another
perform_in_perform : runs (perform (codes "Q") (repetitions.Times (by_number (codes "2"))) ∷ shows_m) (once_more ∷ paragraph (codes "Q") (perform (codes "P") (repetitions.Times (by_number (codes "2"))) ∷ []) ∷ []) ≡ sent (codes "046")
unfolding unit_limits
perform_in_perform = refl

-- RECEIVE C MESSAGE INTO A, and where there is no data 100 is added to M
abbrev receives : Tree
receives = receive_of (name (codes "C")) false (item (codes "A")) ((adds (codes "100") ∷ []))

abbrev asked : Call
asked = call.Receive opening_area kind.Message 3 true

-- the area with a text length of two
abbrev pub two_given : List ℕ
two_given = set_in field.Length opening_area (codes "0002")

abbrev pub answered : List Call → Ending → Meaning
answered calls ending = record { calls = calls; ending = ending }

abbrev sends : List ℕ → Ending
sends text = Wants (call.Send out_area part.Portion (Some text))

-- without a reply its call is what it wants
wants_a_reply : runs (receives ∷ shows_m) [] ≡ at_once (Wants asked)
unfolding unit_limits
wants_a_reply = refl

-- a text comes in at the left end of the item, and no space behind it
given : meaning (main (receives ∷ shows (codes "A") ∷ []) []) None (reply.Given two_given (codes "HI") ∷ []) ≡ answered (asked ∷ []) (sends (codes "HIC"))
unfolding unit_limits
given = refl

-- and the area is stored too
given_area : meaning (main (receives ∷ move_to (of_item (codes "LEN")) (item (codes "M") ∷ []) ∷ shows_m) []) None (reply.Given two_given (codes "HI") ∷ []) ≡ answered (asked ∷ []) (sends (codes "002"))
unfolding unit_limits
given_area = refl

-- first the area and then the text, which may be for an item over it
text_over_area : meaning (main (receive_of (name (codes "C")) false (item (codes "LEN")) [] ∷ shows (codes "LEN") ∷ []) []) None (reply.Given two_given (codes "HI") ∷ []) ≡ answered (call.Receive opening_area kind.Message 4 false ∷ []) (sends (codes "HI02"))
unfolding unit_limits
text_over_area = refl

-- NO DATA is passed over where there is data
given_data : meaning (main (receives ∷ shows_m) []) None (reply.Given two_given (codes "HI") ∷ []) ≡ answered (asked ∷ []) (sends (codes "042"))
unfolding unit_limits
given_data = refl

-- and taken where there is none
no_data : meaning (main (receives ∷ shows_m) []) None (reply.NoData opening_area ∷ []) ≡ answered (asked ∷ []) (sends (codes "142"))
unfolding unit_limits
no_data = refl

-- a refusal is no want of data
refused : meaning (main (receives ∷ shows_m) []) None (reply.Refused opening_area ∷ []) ≡ answered (asked ∷ []) (sends (codes "042"))
unfolding unit_limits
refused = refl

-- without NO DATA the call says so
waits_without_no_data : runs (receive_of (name (codes "C")) true (item (codes "B")) [] ∷ []) [] ≡ at_once (Wants (call.Receive opening_area kind.Segment 5 false))
unfolding unit_limits
waits_without_no_data = refl

-- the two names that START hands over stand in the CD that has INITIAL
abbrev handed : List ℕ
handed = codes "Q1          " ++ spaces 36

abbrev with_names : List ℕ
with_names = handed ++ zeros 14 ++ spaces 12 ++ zeros 13

-- the names of START come into the CD that has INITIAL
initial_names : meaning (main (accept_of (name (codes "C")) ∷ []) []) (Some handed) [] ≡ at_once (Wants (call.Count with_names))
unfolding unit_limits
initial_names = refl

-- ACCEPT
accept : runs (accept_of (name (codes "C")) ∷ []) [] ≡ at_once (Wants (call.Count opening_area))
unfolding unit_limits
accept = refl

-- a key is taken as it stands, with its spaces
key_of_item : runs (move_to (literal (codes "K")) (item (codes "A") ∷ []) ∷ switch_input_of true false (name (codes "C")) (keys.Item (item (codes "A"))) ∷ []) [] ≡ at_once (Wants (call.SwitchInput true false opening_area (codes "K  ")))
unfolding unit_limits
key_of_item = refl

-- so is a literal
key_of_literal : runs (switch_output_of false (name (codes "D")) (keys.Literal (quoted (codes "PASS"))) ∷ []) [] ≡ at_once (Wants (call.SwitchOutput false out_area (codes "PASS")))
unfolding unit_limits
key_of_literal = refl

-- SEND D FROM A with an end and an advance
abbrev pub ends : Indicator → Option Advancing → Tree
ends indicator advancing = send_of (name (codes "D")) (Some (item (codes "A"))) (Some (record { indicator = indicator; advancing = advancing }))

abbrev pub before : Lines → Option Advancing
before lines = Some (record { after = false; lines = lines })

abbrev pub sends_part : Part → Meaning
sends_part end = at_once (Wants (call.Send out_area end (Some (codes "ABC"))))

-- the end that the character in K says
abbrev pub ends_by : List ℕ → Option Advancing → Meaning
ends_by text advancing = runs (move_to (literal text) (item (codes "K") ∷ []) ∷ ends (indicators.Item (item (codes "K"))) advancing ∷ []) []

-- without ADVANCING a text goes behind one line
sends_emi : runs (ends indicators.Emi None ∷ []) [] ≡ sends_part (part.Emi (advance.After 1))
unfolding unit_limits
sends_emi = refl

-- BEFORE a number of lines
sends_esi : runs (ends indicators.Esi (before (lines.Count (by_number (codes "3")))) ∷ []) [] ≡ sends_part (part.Esi (advance.Before 3))
unfolding unit_limits
sends_esi = refl

-- BEFORE a page
sends_egi : runs (ends indicators.Egi (before lines.Page) ∷ []) [] ≡ sends_part (part.Egi advance.BeforePage)
unfolding unit_limits
sends_egi = refl

-- more than 99 lines stop the unit before its call
too_many_lines : runs (move_to (a_numeral (codes "100")) (item (codes "M") ∷ []) ∷ ends indicators.Egi (before (lines.Count (by_item (codes "M")))) ∷ []) [] ≡ data_fault
unfolding unit_limits
too_many_lines = refl

-- a character says what ends
sends_by_item : ends_by (codes "2") None ≡ sends_part (part.Emi (advance.After 1))
unfolding unit_limits
sends_by_item = refl

-- another character is no end, and its ADVANCING is not read
sends_by_other_item : ends_by (codes "4") (before (lines.Count (addends.Item (item_by_number (codes "TO") (codes "3"))))) ≡ sends_part part.Portion
unfolding unit_limits
sends_by_other_item = refl

-- an end may be sent without a text
sends_end_alone : runs (send_of (name (codes "D")) None (Some (record { indicator = indicators.Emi; advancing = None })) ∷ []) [] ≡ at_once (Wants (call.Send out_area (part.Emi (advance.After 1)) None))
unfolding unit_limits
sends_end_alone = refl

-- a subscript chooses an occurrence
second_destination : runs (move_to (literal (codes "T2")) (item_by_number (codes "TO") (codes "2") ∷ []) ∷ switch_output_of true (name (codes "D")) (keys.Literal (quoted (codes "P"))) ∷ []) [] ≡ at_once (Wants (call.SwitchOutput true (zeros 10 ++ 48 ∷ spaces 12 ++ 48 ∷ codes "T2          ") (codes "P")))
unfolding unit_limits
second_destination = refl

-- an item chooses it too
subscript_by_item : runs (move_to (a_numeral (codes "1")) (item (codes "M") ∷ []) ∷ move_to (literal (codes "T1")) (item_by_item (codes "TO") (codes "M") ∷ []) ∷ switch_output_of true (name (codes "D")) (keys.Literal (quoted (codes "P"))) ∷ []) [] ≡ at_once (Wants (call.SwitchOutput true (zeros 10 ++ 48 ∷ codes "T1          " ++ 48 ∷ spaces 12) (codes "P")))
unfolding unit_limits
subscript_by_item = refl

-- there is no third of two
no_such_occurrence : runs (move_to (a_numeral (codes "3")) (item (codes "M") ∷ []) ∷ move_to (literal (codes "T1")) (item_by_item (codes "TO") (codes "M") ∷ []) ∷ []) [] ≡ data_fault
unfolding unit_limits
no_such_occurrence = refl

-- within so many statements and verbs
abbrev within : ℕ → ℕ → List Tree → List ParagraphTree → List Reply → Meaning
within statements verbs main_statements others replies =
    meaning_within (record { statements = statements; verbs = verbs }) (main main_statements others) None replies

abbrev limit : Meaning
limit = at_once (Stopped stop.Limit)

abbrev pub accepts : Tree
accepts = accept_of (name (codes "C"))

-- as many statements as may be
last_statement : within 2 1 (exit_of ∷ exit_of ∷ []) [] [] ≡ at_once (Stopped stop.Run)
last_statement = refl

-- the next stops the unit before it does anything
one_statement_more : within 2 1 (exit_of ∷ exit_of ∷ accepts ∷ []) [] [] ≡ limit
one_statement_more = refl

-- PERFORM counts one, and each turn of TIMES one more: seven here
turns_count : within 7 1 (perform (codes "P") (repetitions.Times (by_number (codes "3"))) ∷ []) (paragraph (codes "Q") (stop_of ∷ []) ∷ once_more ∷ []) [] ≡ limit
turns_count = refl

-- so eight suffice for the STOP behind it
turns_counted : within 8 1 (perform (codes "P") (repetitions.Times (by_number (codes "3"))) ∷ []) (paragraph (codes "Q") (stop_of ∷ []) ∷ once_more ∷ []) [] ≡ at_once (Stopped stop.Run)
turns_counted = refl

-- without TIMES or UNTIL there is no count for a turn
plain_perform_counts_once : within 3 1 (perform (codes "P") repetitions.Once ∷ stop_of ∷ []) (once_more ∷ []) [] ≡ at_once (Stopped stop.Run)
plain_perform_counts_once = refl

-- a program without an end stops at the limit
endless : within 5 1 (go_to (codes "MAIN") ∷ []) [] [] ≡ limit
endless = refl

-- also where UNTIL never holds
endless_until : within 6 1 (perform (codes "P") (repetitions.Until (m_is (codes "1"))) ∷ []) (once_more ∷ []) [] ≡ limit
endless_until = refl

-- the first of one verb is answered, and the next stops the unit
verbs_count : within 9 1 (accepts ∷ accepts ∷ []) [] (reply.AreaIn opening_area ∷ reply.AreaIn opening_area ∷ []) ≡ answered (call.Count opening_area ∷ []) (Stopped stop.Limit)
verbs_count = refl

-- the limit of verbs is looked at before the subscripts of the verb
limit_before_data : within 9 0 (send_of (name (codes "D")) (Some (item_by_number (codes "TO") (codes "9"))) None ∷ []) [] [] ≡ limit
limit_before_data = refl
