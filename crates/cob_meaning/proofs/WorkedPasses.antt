-- The passes over trees, worked out by hand: which fault a program has.
use Rattle.std.proofs.Common.{ℕ, true, false, List, [], ◌∷◌, Some, None, inl, refl, codes}
use Rattle.cob_lex.specs.declared.fault.SourceFault.{SourceFault}
use Rattle.cob_lex.specs.declared.fault.SourceKind.TheVariants as faults
use Rattle.cob_forms.specs.Faults.{fault}
use Rattle.cob_proc.specs.declared.tree.Addend.TheVariants as addends
use Rattle.cob_proc.specs.declared.tree.Identifier.{Identifier}
use Rattle.cob_proc.specs.declared.tree.Indicator.TheVariants as indicators
use Rattle.cob_proc.specs.declared.tree.Key.TheVariants as keys
use Rattle.cob_proc.specs.declared.tree.Lines.TheVariants as lines
use Rattle.cob_proc.specs.declared.tree.Operand.{Operand}
use Rattle.cob_proc.specs.declared.tree.Operand.TheVariants as operands
use Rattle.cob_proc.specs.declared.tree.Repetition.TheVariants as repetitions
use Rattle.cob_proc.specs.declared.tree.Subscript.TheVariants as subscripts
use Rattle.cob_proc.specs.Trees.{Tree, ParagraphTree}
use Rattle.cob_meaning.specs.Ranges.{IsFirstOf, IsRangesFault}
use Rattle.cob_meaning.specs.Sources.{HasNoTreesFault, IsTreesFaultOf}
use Rattle.cob_meaning.proofs.RangeFaults.{first_fault, free_of_faults, no_fault}
use Rattle.cob_meaning.specs.Meaning.{Program}
use Rattle.cob_meaning.proofs.Placed.{at, name_at, item_at, digits_at}
use Rattle.cob_meaning.proofs.SmallPrograms.{program}
use Rattle.cob_meaning.proofs.Trees.{alone, equals, here, paragraph, accept_of, add_of, exit_of, go_of, if_of, move_of, perform_of, receive_of, send_of, stop_of, switch_input_of}

-- a name at one place with a subscript in parentheses at another, and a number behind them
abbrev second_of : ℕ → ℕ → List ℕ → List ℕ → Identifier
second_of line column text n =
    record { name = name_at line column text; subscript = Some (subscripts.Number (at line 30) (digits_at line 31 n)) }

abbrev pub performs : ℕ → ℕ → List ℕ → Tree
performs line column text = perform_of (name_at line column text) None repetitions.Once

abbrev pub performs_thru : ℕ → ℕ → List ℕ → ℕ → List ℕ → Tree
performs_thru line column text later other =
    perform_of (name_at line column text) (Some (name_at line later other)) repetitions.Once

abbrev pub goes : ℕ → ℕ → List ℕ → Tree
goes line column text = go_of (name_at line column text)

-- the fault of ranges that is reported, and that there is none
abbrev pub HasRangesFault : List ParagraphTree → SourceFault → Type 0
HasRangesFault text = IsFirstOf (IsRangesFault text)

abbrev pub HasNoRangesFault : List ParagraphTree → Type 0
HasNoRangesFault text = (x : SourceFault) → IsRangesFault text x → ⊥

-- a GO out of a performed paragraph, as in LEAVER
leaver : HasRangesFault (paragraph (codes "A1") (performs 6 20 (codes "B1") ∷ stop_of ∷ []) ∷ paragraph (codes "B1") (goes 9 18 (codes "A1") ∷ []) ∷ []) (fault 9 18 faults.LeavesRange)
leaver = first_fault _ _ refl

-- and in it
leaver_repaired : HasNoRangesFault (paragraph (codes "A1") (performs 6 20 (codes "B1") ∷ stop_of ∷ []) ∷ paragraph (codes "B1") (goes 9 18 (codes "B1") ∷ []) ∷ [])
leaver_repaired = no_fault _ refl

-- a GO in a paragraph that no PERFORM names goes anywhere
never_performed : HasNoRangesFault (paragraph (codes "A1") (goes 6 18 (codes "B1") ∷ []) ∷ paragraph (codes "B1") (goes 9 18 (codes "A1") ∷ []) ∷ [])
never_performed = no_fault _ refl

-- nor is one bound by the range of another paragraph
outside_of_ranges : HasNoRangesFault (paragraph (codes "A1") (performs 3 20 (codes "C1") ∷ goes 4 18 (codes "B1") ∷ []) ∷ paragraph (codes "B1") (stop_of ∷ []) ∷ paragraph (codes "C1") (exit_of ∷ []) ∷ [])
outside_of_ranges = no_fault _ refl

-- a GO stays in each range that has its paragraph: the first PERFORM allows it, and the second does not
each_range : HasRangesFault (paragraph (codes "A1") (performs_thru 3 20 (codes "B1") 28 (codes "C1") ∷ performs 4 20 (codes "C1") ∷ stop_of ∷ []) ∷ paragraph (codes "B1") (exit_of ∷ []) ∷ paragraph (codes "C1") (goes 8 18 (codes "B1") ∷ []) ∷ []) (fault 8 18 faults.LeavesRange)
each_range = first_fault _ _ refl

-- a THRU that ends before it begins, at its end
backward : HasRangesFault (paragraph (codes "A1") (performs_thru 3 20 (codes "C1") 28 (codes "B1") ∷ stop_of ∷ []) ∷ paragraph (codes "B1") (exit_of ∷ []) ∷ paragraph (codes "C1") (goes 8 18 (codes "A1") ∷ []) ∷ []) (fault 3 28 faults.LeavesRange)
backward = first_fault _ _ refl

-- a paragraph that performs itself
performs_itself : HasRangesFault (paragraph (codes "A1") (performs 3 20 (codes "A1") ∷ []) ∷ []) (fault 3 20 faults.PerformsItself)
performs_itself = first_fault _ _ refl

-- two that perform each other: the PERFORM that leads there is not on the circle
circle : HasRangesFault (paragraph (codes "A1") (performs 3 20 (codes "B1") ∷ stop_of ∷ []) ∷ paragraph (codes "B1") (performs 6 20 (codes "C1") ∷ []) ∷ paragraph (codes "C1") (performs 8 20 (codes "B1") ∷ []) ∷ []) (fault 6 20 faults.PerformsItself)
circle = first_fault _ _ refl

-- a range may lead back by a paragraph in its middle
circle_thru : HasRangesFault (paragraph (codes "A1") (performs_thru 3 20 (codes "B1") 28 (codes "D1") ∷ stop_of ∷ []) ∷ paragraph (codes "B1") (exit_of ∷ []) ∷ paragraph (codes "C1") (performs 7 20 (codes "A1") ∷ []) ∷ paragraph (codes "D1") (exit_of ∷ []) ∷ []) (fault 3 20 faults.PerformsItself)
circle_thru = first_fault _ _ refl

-- one range may be performed twice
no_circle : HasNoRangesFault (paragraph (codes "A1") (performs 3 20 (codes "B1") ∷ performs 4 20 (codes "B1") ∷ stop_of ∷ []) ∷ paragraph (codes "B1") (performs 6 20 (codes "C1") ∷ []) ∷ paragraph (codes "C1") (exit_of ∷ []) ∷ [])
no_circle = no_fault _ refl

-- a range that reaches itself through two others: the PERFORM that leads there is not on the circle
circle_of_three : HasRangesFault (paragraph (codes "A1") (performs 3 20 (codes "B1") ∷ stop_of ∷ []) ∷ paragraph (codes "B1") (performs 6 20 (codes "C1") ∷ []) ∷ paragraph (codes "C1") (performs 8 20 (codes "D1") ∷ []) ∷ paragraph (codes "D1") (performs 10 20 (codes "B1") ∷ []) ∷ []) (fault 6 20 faults.PerformsItself)
circle_of_three = first_fault _ _ refl

-- as far as the third does not lead back
chain_of_three : HasNoRangesFault (paragraph (codes "A1") (performs 3 20 (codes "B1") ∷ stop_of ∷ []) ∷ paragraph (codes "B1") (performs 6 20 (codes "C1") ∷ []) ∷ paragraph (codes "C1") (performs 8 20 (codes "D1") ∷ []) ∷ paragraph (codes "D1") (exit_of ∷ []) ∷ [])
chain_of_three = no_fault _ refl

-- the first PERFORM on a circle is reported, also if a later one stands nearer to the end
first_on_circle : HasRangesFault (paragraph (codes "A1") (performs 3 20 (codes "B1") ∷ []) ∷ paragraph (codes "B1") (performs 6 20 (codes "A1") ∷ []) ∷ []) (fault 3 20 faults.PerformsItself)
first_on_circle = first_fault _ _ refl

-- a GO is judged of both ranges that its paragraph is in: it stays in the wide one, and leaves the narrow one
go_out_of_inner : HasRangesFault (paragraph (codes "A1") (performs_thru 3 20 (codes "B1") 28 (codes "D1") ∷ performs_thru 4 20 (codes "C1") 28 (codes "D1") ∷ stop_of ∷ []) ∷ paragraph (codes "B1") (exit_of ∷ []) ∷ paragraph (codes "C1") (goes 8 18 (codes "B1") ∷ []) ∷ paragraph (codes "D1") (exit_of ∷ []) ∷ []) (fault 8 18 faults.LeavesRange)
go_out_of_inner = first_fault _ _ refl

-- and it may go to what both have
go_in_both : HasNoRangesFault (paragraph (codes "A1") (performs_thru 3 20 (codes "B1") 28 (codes "D1") ∷ performs_thru 4 20 (codes "C1") 28 (codes "D1") ∷ stop_of ∷ []) ∷ paragraph (codes "B1") (exit_of ∷ []) ∷ paragraph (codes "C1") (goes 8 18 (codes "D1") ∷ []) ∷ paragraph (codes "D1") (exit_of ∷ []) ∷ [])
go_in_both = no_fault _ refl

-- a THRU backwards is refused at its end alone, though it begins in the paragraph that performs it
backward_alone : HasRangesFault (paragraph (codes "A1") (exit_of ∷ []) ∷ paragraph (codes "B1") (performs_thru 5 20 (codes "B1") 28 (codes "A1") ∷ stop_of ∷ []) ∷ []) (fault 5 28 faults.LeavesRange)
backward_alone = first_fault _ _ refl

-- the fault of a program of one paragraph over the items of SmallPrograms
abbrev pub main : List Tree → Program
main statements = program (codes "ABC") (codes "042") (codes "XY12") (paragraph (codes "MAIN") statements ∷ [])

abbrev pub Finds : List Tree → SourceFault → Type 0
Finds statements = IsTreesFaultOf (main statements)

abbrev pub FindsNone : List Tree → Type 0
FindsNone statements = HasNoTreesFault (main statements)

abbrev pub moves : Operand → Identifier → Tree
moves source target = move_of source (target ∷ [])

abbrev pub of : ℕ → ℕ → List ℕ → Operand
of line column text = operands.Item (item_at line column text)

-- a program whose names are declared
all_declared : FindsNone (moves (of 3 17 (codes "A")) (item_at 3 22 (codes "M")) ∷ goes 4 18 (codes "MAIN") ∷ [])
all_declared = free_of_faults _ refl refl

-- a name that is not declared
unknown : Finds (moves (of 3 17 (codes "A")) (item_at 3 22 (codes "Z")) ∷ []) (fault 3 22 faults.UnknownName)
unknown = inl refl

-- the first of two faults is told
two_unknown : Finds (moves (of 4 17 (codes "Y")) (item_at 3 22 (codes "Z")) ∷ []) (fault 3 22 faults.UnknownName)
two_unknown = inl refl

-- the pass names and kinds goes before ranges
names_before_ranges : Finds (performs 3 20 (codes "MAIN") ∷ moves (of 4 17 (codes "A")) (item_at 4 22 (codes "Z")) ∷ []) (fault 4 22 faults.UnknownName)
names_before_ranges = inl refl

-- the name of a paragraph is none of an item
paragraph_as_item : Finds (moves (of 3 17 (codes "MAIN")) (item_at 3 25 (codes "A")) ∷ []) (fault 3 17 faults.UnknownName)
paragraph_as_item = inl refl

-- nor the other way round
item_as_paragraph : Finds (goes 3 18 (codes "A") ∷ []) (fault 3 18 faults.UnknownName)
item_as_paragraph = inl refl

-- a CD is no item
cd_as_item : Finds (moves (of 3 17 (codes "A")) (item_at 3 22 (codes "D")) ∷ []) (fault 3 22 faults.WrongKind)
cd_as_item = inl refl

-- and an item no CD
item_as_cd : Finds (accept_of (name_at 3 19 (codes "A")) ∷ []) (fault 3 19 faults.WrongKind)
item_as_cd = inl refl

-- RECEIVE takes a CD for input
receives_output : Finds (receive_of (name_at 3 20 (codes "D")) false (item_at 3 35 (codes "A")) [] ∷ []) (fault 3 20 faults.WrongKind)
receives_output = inl refl

-- SEND one for output
sends_input : Finds (send_of (name_at 3 17 (codes "C")) (Some (item_at 3 24 (codes "A"))) None ∷ []) (fault 3 17 faults.WrongKind)
sends_input = inl refl

-- ADD takes 9 items
adds_text : Finds (add_of (addends.Item (item_at 3 16 (codes "A"))) (item_at 3 21 (codes "M")) ∷ []) (fault 3 16 faults.WrongKind)
adds_text = inl refl

-- also as its target
adds_to_text : Finds (add_of (addends.Number (digits_at 3 16 (codes "1"))) (item_at 3 21 (codes "A")) ∷ []) (fault 3 21 faults.WrongKind)
adds_to_text = inl refl

-- SPACES do not go into a 9 item
spaces_to_digits : Finds (moves (operands.Spaces (at 3 17)) (item_at 3 27 (codes "M")) ∷ []) (fault 3 17 faults.WrongKind)
spaces_to_digits = inl refl

-- also where it is the second target
spaces_to_second : Finds (move_of (operands.Spaces (at 3 17)) (item_at 3 27 (codes "A") ∷ item_at 3 29 (codes "M") ∷ []) ∷ []) (fault 3 17 faults.WrongKind)
spaces_to_second = inl refl

-- nor are they compared with one
spaces_beside_digits : Finds (if_of here (alone (equals (of 3 15 (codes "M")) (operands.Spaces (at 3 19)))) ((exit_of ∷ [])) [] ∷ []) (fault 3 19 faults.WrongKind)
spaces_beside_digits = inl refl

-- an item of a table has a subscript
subscript_missing : Finds (moves (of 3 17 (codes "A")) (item_at 3 22 (codes "TO")) ∷ []) (fault 3 22 faults.WrongKind)
subscript_missing = inl refl

-- and no other item, at the parenthesis
subscript_not_allowed : Finds (moves (of 3 17 (codes "A")) (second_of 3 22 (codes "B") (codes "2")) ∷ []) (fault 3 30 faults.WrongKind)
subscript_not_allowed = inl refl

-- a number within the table
subscript_too_great : Finds (moves (of 3 17 (codes "A")) (second_of 3 22 (codes "TO") (codes "3")) ∷ []) (fault 3 31 faults.WrongKind)
subscript_too_great = inl refl

-- counts from 1
subscript_zero : Finds (moves (of 3 17 (codes "A")) (second_of 3 22 (codes "TO") (codes "0")) ∷ []) (fault 3 31 faults.WrongKind)
subscript_zero = inl refl

-- and may be the last
subscript_in_range : FindsNone (moves (of 3 17 (codes "A")) (second_of 3 22 (codes "TO") (codes "2")) ∷ [])
subscript_in_range = free_of_faults _ refl refl

-- a key has at most ten characters
long_key : Finds (switch_input_of true false (name_at 3 25 (codes "C")) (keys.Item (second_of 3 36 (codes "TO") (codes "1"))) ∷ []) (fault 3 36 faults.WrongLength)
long_key = inl refl

-- the item of an indicator has one
long_indicator : Finds (send_of (name_at 3 17 (codes "D")) None (Some (record { indicator = indicators.Item (item_at 3 24 (codes "GX")); advancing = None })) ∷ []) (fault 3 24 faults.WrongLength)
long_indicator = inl refl

-- at most 99 lines are advanced
many_lines : Finds (send_of (name_at 3 17 (codes "D")) None (Some (record { indicator = indicators.Emi; advancing = Some (record { after = true; lines = lines.Count (addends.Number (digits_at 3 36 (codes "100"))) }) })) ∷ []) (fault 3 36 faults.OverLimit)
many_lines = inl refl
