-- The calls of ENABLE, DISABLE and SEND in each of their forms, worked out by hand.
use Rattle.std.proofs.Common.{◌≡◌, ℕ, true, false, List, [], ◌∷◌, ◌++◌, Option, Some, None, refl, codes}
use Rattle.com_text.specs.Name.{spaces}
use Rattle.com_cd.specs.InputArea.{opening_area, zeros}
use Rattle.com_events.specs.declared.call.Call.TheVariants as call
use Rattle.com_events.specs.declared.reply.Reply.TheVariants as reply
use Rattle.com_msg.specs.declared.sending.Advance.TheVariants as advance
use Rattle.com_msg.specs.declared.sending.Part.TheVariants as part
use Rattle.cob_proc.specs.declared.tree.Advancing.{Advancing}
use Rattle.cob_proc.specs.declared.tree.Indicator.TheVariants as indicators
use Rattle.cob_proc.specs.declared.tree.Key.{Key}
use Rattle.cob_proc.specs.declared.tree.Key.TheVariants as keys
use Rattle.cob_proc.specs.declared.tree.Lines.{Lines}
use Rattle.cob_proc.specs.declared.tree.Lines.TheVariants as lines
use Rattle.cob_meaning.specs.Meaning.{Wants, meaning, unit_limits}
use Rattle.cob_meaning.proofs.Trees.{name, item, item_by_item, a_numeral, by_number, by_item, move_to, quoted, switch_input_of, switch_output_of}
use Rattle.cob_meaning.proofs.SmallPrograms.{out_area, at_once, data_fault}
use Rattle.cob_meaning.proofs.WorkedRuns.{accepts, answered, before, ends, ends_by, main, runs, sends_part, two_given}

-- a key as a literal, and as an item
abbrev pass : Key
pass = keys.Literal (quoted (codes "PASS"))

abbrev held_in : List ℕ → Key
held_in text = keys.Item (item text)

-- ENABLE INPUT TERMINAL
enable_terminal : runs (switch_input_of true true (name (codes "C")) pass ∷ []) [] ≡ at_once (Wants (call.SwitchInput true true opening_area (codes "PASS")))
unfolding unit_limits
enable_terminal = refl

-- DISABLE INPUT TERMINAL
disable_terminal : runs (switch_input_of false true (name (codes "C")) (held_in (codes "GX")) ∷ []) [] ≡ at_once (Wants (call.SwitchInput false true opening_area (codes "XY")))
unfolding unit_limits
disable_terminal = refl

-- ENABLE INPUT
enable_input : runs (switch_input_of true false (name (codes "C")) pass ∷ []) [] ≡ at_once (Wants (call.SwitchInput true false opening_area (codes "PASS")))
unfolding unit_limits
enable_input = refl

-- DISABLE INPUT, with the digits of a 9 item as its key
disable_input : runs (switch_input_of false false (name (codes "C")) (held_in (codes "M")) ∷ []) [] ≡ at_once (Wants (call.SwitchInput false false opening_area (codes "042")))
unfolding unit_limits
disable_input = refl

-- ENABLE OUTPUT
enable_output : runs (switch_output_of true (name (codes "D")) (held_in (codes "A")) ∷ []) [] ≡ at_once (Wants (call.SwitchOutput true out_area (codes "ABC")))
unfolding unit_limits
enable_output = refl

-- DISABLE OUTPUT, with a group as its key
disable_output : runs (switch_output_of false (name (codes "D")) (held_in (codes "G")) ∷ []) [] ≡ at_once (Wants (call.SwitchOutput false out_area (codes "XY12")))
unfolding unit_limits
disable_output = refl

-- the subscript of a key is read before the call
key_without_occurrence : runs (switch_output_of true (name (codes "D")) (keys.Item (item_by_item (codes "TO") (codes "M"))) ∷ []) [] ≡ data_fault
unfolding unit_limits
key_without_occurrence = refl

-- the area of the reply is that of the next call
area_of_input : meaning (main (switch_input_of true true (name (codes "C")) pass ∷ accepts ∷ []) []) None (reply.AreaIn two_given ∷ []) ≡ answered (call.SwitchInput true true opening_area (codes "PASS") ∷ []) (Wants (call.Count two_given))
unfolding unit_limits
area_of_input = refl

-- also of an output CD
area_of_output : meaning (main (switch_output_of false (name (codes "D")) pass ∷ switch_output_of true (name (codes "D")) pass ∷ []) []) None (reply.AreaOut (codes "0002" ++ zeros 6 ++ zeros 1 ++ spaces 12 ++ zeros 1 ++ spaces 12) ∷ []) ≡ answered (call.SwitchOutput false out_area (codes "PASS") ∷ []) (Wants (call.SwitchOutput true (codes "0002" ++ zeros 6 ++ zeros 1 ++ spaces 12 ++ zeros 1 ++ spaces 12) (codes "PASS")))
unfolding unit_limits
area_of_output = refl

abbrev after : Lines → Option Advancing
after lines = Some (record { after = true; lines = lines })

-- AFTER a number of lines
after_three : runs (ends indicators.Emi (after (lines.Count (by_number (codes "3")))) ∷ []) [] ≡ sends_part (part.Emi (advance.After 3))
unfolding unit_limits
after_three = refl

-- also none
after_none : runs (ends indicators.Esi (after (lines.Count (by_number (codes "0")))) ∷ []) [] ≡ sends_part (part.Esi (advance.After 0))
unfolding unit_limits
after_none = refl

-- AFTER a page
after_page : runs (ends indicators.Egi (after lines.Page) ∷ []) [] ≡ sends_part (part.Egi advance.AfterPage)
unfolding unit_limits
after_page = refl

-- as many lines as an item holds
after_item : runs (ends indicators.Emi (after (lines.Count (by_item (codes "M")))) ∷ []) [] ≡ sends_part (part.Emi (advance.After 42))
unfolding unit_limits
after_item = refl

-- at most 99
before_most : runs (move_to (a_numeral (codes "99")) (item (codes "M") ∷ []) ∷ ends indicators.Egi (before (lines.Count (by_item (codes "M")))) ∷ []) [] ≡ sends_part (part.Egi (advance.Before 99))
unfolding unit_limits
before_most = refl

-- an item that holds 1 says ESI
ends_by_1 : ends_by (codes "1") None ≡ sends_part (part.Esi (advance.After 1))
unfolding unit_limits
ends_by_1 = refl

-- and one that holds 3 says EGI, with its ADVANCING
ends_by_3 : ends_by (codes "3") (before lines.Page) ≡ sends_part (part.Egi advance.BeforePage)
unfolding unit_limits
ends_by_3 = refl

-- a space is no end, nor is 0
ends_by_space : ends_by (codes " ") (after lines.Page) ≡ sends_part part.Portion
unfolding unit_limits
ends_by_space = refl

ends_by_0 : ends_by (codes "0") None ≡ sends_part part.Portion
unfolding unit_limits
ends_by_0 = refl
