-- Where a unit stops for DATA, and when subscripts are read, worked out by hand.
use Rattle.std.proofs.Common.{◌≡◌, ℕ, true, false, List, [], ◌∷◌, ◌++◌, Some, None, refl, codes}
use Rattle.com_text.specs.Name.{spaces}
use Rattle.com_cd.specs.InputArea.{opening_area, zeros}
use Rattle.com_events.specs.declared.call.Call.TheVariants as call
use Rattle.com_events.specs.declared.call.StopReason.TheVariants as stop
use Rattle.com_events.specs.declared.reply.Reply.{Reply}
use Rattle.com_events.specs.declared.reply.Reply.TheVariants as reply
use Rattle.cob_proc.specs.declared.tree.Indicator.TheVariants as indicators
use Rattle.cob_proc.specs.declared.tree.Key.TheVariants as keys
use Rattle.cob_proc.specs.declared.tree.Lines.TheVariants as lines
use Rattle.cob_proc.specs.declared.tree.Operand.TheVariants as operands
use Rattle.cob_proc.specs.declared.tree.Repetition.TheVariants as repetitions
use Rattle.cob_proc.specs.Trees.{Tree}
use Rattle.cob_meaning.specs.Meaning.{Meaning, Stopped, Wants, meaning, unit_limits}
use Rattle.cob_meaning.proofs.Trees.{name, item, item_by_item, item_by_number, literal, a_numeral, by_number, by_item, move_to, perform, paragraph, quoted, add_of, exit_of, receive_of, send_of, stop_of, subtract_of, switch_output_of}
use Rattle.cob_meaning.proofs.SmallPrograms.{program, at_once, data_fault}
use Rattle.cob_meaning.proofs.WorkedRuns.{accepts, answered, before, ends, runs}

-- what a paragraph does where M holds these characters; behind it STOP RUN, and a paragraph that leaves M as it is
abbrev with_m : List ℕ → List Tree → List Reply → Meaning
with_m m statements replies =
    meaning (program (codes "ABC") m (codes "XY12") (paragraph (codes "MAIN") (statements ++ stop_of ∷ []) ∷ paragraph (codes "P") (exit_of ∷ []) ∷ [])) None replies

-- digits are no fault
subtract_digits : with_m (codes "042") (subtract_of (by_item (codes "M")) (item (codes "N")) ∷ perform (codes "P") (repetitions.Times (by_item (codes "M"))) ∷ []) [] ≡ at_once (Stopped stop.Run)
unfolding unit_limits
subtract_digits = refl

-- and where it holds a letter
abbrev with_letter : List Tree → Meaning
with_letter statements = with_m (codes "0A2") statements []

-- SUBTRACT from it
subtract_from_letter : with_letter (subtract_of (by_number (codes "1")) (item (codes "M")) ∷ []) ≡ data_fault
unfolding unit_limits
subtract_from_letter = refl

-- and SUBTRACT it
subtract_letter : with_letter (subtract_of (by_item (codes "M")) (item (codes "N")) ∷ []) ≡ data_fault
unfolding unit_limits
subtract_letter = refl

-- ADD it
add_letter : with_letter (add_of (by_item (codes "M")) (item (codes "N")) ∷ []) ≡ data_fault
unfolding unit_limits
add_letter = refl

-- a space is no digit either
add_to_space : with_m (codes "04 ") (add_of (by_number (codes "1")) (item (codes "M")) ∷ []) [] ≡ data_fault
unfolding unit_limits
add_to_space = refl

-- so many TIMES
times_letter : with_letter (perform (codes "P") (repetitions.Times (by_item (codes "M"))) ∷ []) ≡ data_fault
unfolding unit_limits
times_letter = refl

-- as the subscript of a target
target_by_letter : with_letter (move_to (literal (codes "T1")) (item_by_item (codes "TO") (codes "M") ∷ []) ∷ []) ≡ data_fault
unfolding unit_limits
target_by_letter = refl

-- and of a source
source_by_letter : with_letter (move_to (operands.Item (item_by_item (codes "TO") (codes "M"))) (item (codes "A") ∷ []) ∷ []) ≡ data_fault
unfolding unit_limits
source_by_letter = refl

-- of an item that is sent, before the call
sent_by_letter : with_letter (send_of (name (codes "D")) (Some (item_by_item (codes "TO") (codes "M"))) None ∷ []) ≡ data_fault
unfolding unit_limits
sent_by_letter = refl

-- of the item of INTO, before the call
received_by_letter : with_letter (receive_of (name (codes "C")) false (item_by_item (codes "TO") (codes "M")) [] ∷ []) ≡ data_fault
unfolding unit_limits
received_by_letter = refl

-- the lines of ADVANCING, before the call
lines_by_letter : with_letter (ends indicators.Emi (before (lines.Count (by_item (codes "M")))) ∷ []) ≡ data_fault
unfolding unit_limits
lines_by_letter = refl

-- a space in front of a 1 is no digit there either
target_by_space : with_m (codes "  1") (move_to (literal (codes "T1")) (item_by_item (codes "TO") (codes "M") ∷ []) ∷ []) [] ≡ data_fault
unfolding unit_limits
target_by_space = refl

-- nor before TIMES
times_by_space : with_m (codes "  1") (perform (codes "P") (repetitions.Times (by_item (codes "M"))) ∷ []) [] ≡ data_fault
unfolding unit_limits
times_by_space = refl

-- nor before LINES
lines_by_space : with_m (codes "  1") (ends indicators.Emi (before (lines.Count (by_item (codes "M")))) ∷ []) [] ≡ data_fault
unfolding unit_limits
lines_by_space = refl

-- an occurrence has a number of 1 or more
occurrence_zero : with_m (codes "000") (move_to (literal (codes "T1")) (item_by_item (codes "TO") (codes "M") ∷ []) ∷ []) [] ≡ data_fault
unfolding unit_limits
occurrence_zero = refl

-- what comes before the fault is done
done_before_fault : with_m (codes "0A2") (accepts ∷ subtract_of (by_number (codes "1")) (item (codes "M")) ∷ accepts ∷ []) (reply.AreaIn opening_area ∷ []) ≡ answered (call.Count opening_area ∷ []) (Stopped stop.DataFault)
unfolding unit_limits
done_before_fault = refl

-- ENABLE OUTPUT with two destinations of these names
abbrev with_destinations : List ℕ → List ℕ → Meaning
with_destinations one other =
    at_once (Wants (call.SwitchOutput true (zeros 10 ++ 48 ∷ (one ++ spaces 11) ++ 48 ∷ (other ++ spaces 11)) (codes "PASS")))

abbrev shows_destinations : List Tree
shows_destinations = switch_output_of true (name (codes "D")) (keys.Literal (quoted (codes "PASS"))) ∷ []

-- a target's subscript is read when it is filled: M holds 2 then, and held 42 before
subscript_read_at_filling : runs (move_to (a_numeral (codes "2")) (item (codes "M") ∷ item_by_item (codes "TO") (codes "M") ∷ []) ∷ shows_destinations) [] ≡ with_destinations (codes " ") (codes "2")
unfolding unit_limits
subscript_read_at_filling = refl

-- and not before: here it holds 1 still
subscript_read_before : runs (move_to (a_numeral (codes "1")) (item (codes "M") ∷ []) ∷ move_to (a_numeral (codes "2")) (item_by_item (codes "TO") (codes "M") ∷ item (codes "M") ∷ []) ∷ shows_destinations) [] ≡ with_destinations (codes "2") (codes " ")
unfolding unit_limits
subscript_read_before = refl

-- that of the source is read before all targets
subscript_of_source : runs (move_to (a_numeral (codes "1")) (item (codes "M") ∷ []) ∷ move_to (literal (codes "2")) (item_by_number (codes "TO") (codes "1") ∷ []) ∷ move_to (operands.Item (item_by_item (codes "TO") (codes "M"))) (item_by_number (codes "TO") (codes "2") ∷ item_by_number (codes "TO") (codes "1") ∷ []) ∷ shows_destinations) [] ≡ with_destinations (codes "2") (codes "2")
unfolding unit_limits
subscript_of_source = refl
