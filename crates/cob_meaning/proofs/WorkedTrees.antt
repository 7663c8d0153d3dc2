-- Small sources, with the trees that their tokens spell, worked out by hand.
use Rattle.std.proofs.Common.{◌≡◌, ℕ, true, false, List, [], ◌∷◌, Some, None, Ok, refl, codes}
use Rattle.cob_lex.specs.declared.token.Token.{Token}
use Rattle.cob_lex.specs.Fronts.{front_of}
use Rattle.cob_lex.specs.Lexing.{lines_tokens, text_tokens, tokens_of}
use Rattle.cob_forms.specs.Readers.{turns}
use Rattle.cob_proc.specs.declared.tree.Addend.TheVariants as addends
use Rattle.cob_proc.specs.declared.tree.Indicator.TheVariants as indicators
use Rattle.cob_proc.specs.declared.tree.Joint.TheVariants as joints
use Rattle.cob_proc.specs.declared.tree.Lines.TheVariants as lines
use Rattle.cob_proc.specs.declared.tree.Operand.TheVariants as operands
use Rattle.cob_proc.specs.declared.tree.Relation.TheVariants as relations
use Rattle.cob_proc.specs.declared.tree.Repetition.TheVariants as repetitions
use Rattle.cob_proc.specs.declared.tree.Simple.TheVariants as simples
use Rattle.cob_proc.specs.PartReaders as parts
use Rattle.cob_proc.specs.StatementReaders as statement
use Rattle.cob_proc.specs.DivisionReaders as division
use Rattle.cob_proc.specs.Spelled.{IsProcedure}
use Rattle.cob_proc.specs.Trees.{ParagraphTree, Tree}
use Rattle.cob_proc.proofs.DivisionSpelled.{procedure_spelled}
use Rattle.cob_proc.proofs.WorkedSources.{statements, tokens_in}
use Rattle.cob_meaning.proofs.Placed.{at, name_at, item_at, digits_at, of_item, of_number, paragraph_at}
use Rattle.cob_meaning.proofs.Trees.{alone, accept_of, add_of, exit_of, go_of, if_of, move_of, perform_of, receive_of, send_of, stop_of, subtract_of}

-- the tokens of a paragraph MAIN with these sentences in line 3 on
abbrev tokens_with : List ℕ → List Token
tokens_with sentence = tokens_in (tokens_of (statements (sentence ∷ [])))

-- the trees of MAIN with these sentences
abbrev trees_with : List (List Tree) → List ParagraphTree
trees_with sentences = paragraph_at 2 (codes "MAIN") sentences ∷ []

-- each is what the readers find
record Facts : Type 0 where
  -- an ELSE is of the nearest IF
  nested_if : division.read_procedure (tokens_with (codes "IF A = 1 IF B = 1 EXIT ELSE STOP RUN.")) ≡ Ok (trees_with ((if_of (at 3 12) (alone (simples.Compares (of_item 3 15 (codes "A")) false relations.Equal (of_number 3 19 (codes "1")))) ((if_of (at 3 21) (alone (simples.Compares (of_item 3 24 (codes "B")) false relations.Equal (of_number 3 28 (codes "1")))) ((exit_of ∷ [])) ((stop_of ∷ [])) ∷ [])) [] ∷ []) ∷ []))
  -- and the next one of the IF around it
  else_of_first : division.read_procedure (tokens_with (codes "IF A = 1 IF B = 1 EXIT ELSE EXIT ELSE STOP RUN.")) ≡ Ok (trees_with ((if_of (at 3 12) (alone (simples.Compares (of_item 3 15 (codes "A")) false relations.Equal (of_number 3 19 (codes "1")))) ((if_of (at 3 21) (alone (simples.Compares (of_item 3 24 (codes "B")) false relations.Equal (of_number 3 28 (codes "1")))) ((exit_of ∷ [])) ((exit_of ∷ [])) ∷ [])) ((stop_of ∷ [])) ∷ []) ∷ []))
  -- a period ends both
  two_sentences : division.read_procedure (tokens_with (codes "IF A = 1 EXIT. STOP RUN.")) ≡ Ok (trees_with ((if_of (at 3 12) (alone (simples.Compares (of_item 3 15 (codes "A")) false relations.Equal (of_number 3 19 (codes "1")))) ((exit_of ∷ [])) [] ∷ []) ∷ (stop_of ∷ []) ∷ []))
  -- the statements of NO DATA go on to the period
  no_data_goes_on : division.read_procedure (tokens_with (codes "RECEIVE C MESSAGE INTO A NO DATA EXIT STOP RUN.")) ≡ Ok (trees_with ((receive_of (name_at 3 20 (codes "C")) false (item_at 3 35 (codes "A")) ((exit_of ∷ stop_of ∷ [])) ∷ []) ∷ []))
  -- or to the ELSE of an IF around it
  no_data_in_if : division.read_procedure (tokens_with (codes "IF A = 1 RECEIVE C SEGMENT INTO A NO DATA EXIT ELSE STOP RUN.")) ≡ Ok (trees_with ((if_of (at 3 12) (alone (simples.Compares (of_item 3 15 (codes "A")) false relations.Equal (of_number 3 19 (codes "1")))) ((receive_of (name_at 3 29 (codes "C")) true (item_at 3 44 (codes "A")) ((exit_of ∷ [])) ∷ [])) ((stop_of ∷ [])) ∷ []) ∷ []))
  -- a condition of two parts
  joined_by_and : division.read_procedure (tokens_with (codes "IF A IS NOT NUMERIC AND B NOT < 2 EXIT.")) ≡ Ok (trees_with ((if_of (at 3 12) (record { joint = joints.And; parts = (simples.Numeric (item_at 3 15 (codes "A")) true) ∷ (simples.Compares (of_item 3 36 (codes "B")) true relations.Less (of_number 3 44 (codes "2"))) ∷ [] }) ((exit_of ∷ [])) [] ∷ []) ∷ []))
  -- a range, so often
  performs_often : division.read_procedure (tokens_with (codes "PERFORM P THRU Q N TIMES.")) ≡ Ok (trees_with ((perform_of (name_at 3 20 (codes "P")) (Some (name_at 3 27 (codes "Q"))) (repetitions.Times (addends.Item (item_at 3 29 (codes "N")))) ∷ []) ∷ []))
  -- and until a condition holds
  performs_until : division.read_procedure (tokens_with (codes "PERFORM P UNTIL A GREATER THAN SPACES.")) ≡ Ok (trees_with ((perform_of (name_at 3 20 (codes "P")) None (repetitions.Until (alone (simples.Compares (of_item 3 28 (codes "A")) false relations.Greater (operands.Spaces (at 3 43))))) ∷ []) ∷ []))
  -- an item with an end and an advance
  sends_all : division.read_procedure (tokens_with (codes "SEND C FROM A WITH EMI BEFORE ADVANCING 2 LINES.")) ≡ Ok (trees_with ((send_of (name_at 3 17 (codes "C")) (Some (item_at 3 24 (codes "A"))) (Some (record { indicator = indicators.Emi; advancing = Some (record { after = false; lines = lines.Count (addends.Number (digits_at 3 52 (codes "2"))) }) })) ∷ []) ∷ []))
  -- the item behind WITH tells the end
  sends_by_item : division.read_procedure (tokens_with (codes "SEND C FROM A WITH K AFTER PAGE.")) ≡ Ok (trees_with ((send_of (name_at 3 17 (codes "C")) (Some (item_at 3 24 (codes "A"))) (Some (record { indicator = (indicators.Item (item_at 3 31 (codes "K"))); advancing = Some (record { after = true; lines = lines.Page }) })) ∷ []) ∷ []))
  -- a constant to two items
  moves_many : division.read_procedure (tokens_with (codes "MOVE ZEROS TO B C.")) ≡ Ok (trees_with ((move_of (operands.Zeros (at 3 17)) ((item_at 3 26 (codes "B")) ∷ (item_at 3 28 (codes "C")) ∷ []) ∷ []) ∷ []))
  -- ADD and SUBTRACT, one behind the other
  adds_number : division.read_procedure (tokens_with (codes "ADD 1 TO A SUBTRACT B FROM C.")) ≡ Ok (trees_with ((add_of (addends.Number (digits_at 3 16 (codes "1"))) (item_at 3 21 (codes "A")) ∷ subtract_of (addends.Item (item_at 3 32 (codes "B"))) (item_at 3 39 (codes "C")) ∷ []) ∷ []))
  -- ACCEPT without MESSAGE
  accepts_count : division.read_procedure (tokens_with (codes "ACCEPT C COUNT GO P.")) ≡ Ok (trees_with ((accept_of (name_at 3 19 (codes "C")) ∷ go_of (name_at 3 30 (codes "P")) ∷ []) ∷ []))

facts : Facts
unfolding lines_tokens text_tokens front_of turns parts.subscript_value parts.subscript parts.identifier parts.identifiers parts.constant parts.operand parts.addend parts.key parts.relation parts.compared parts.tested parts.perhaps_denied parts.simple parts.joined_part parts.joined parts.condition statement.read_move statement.read_add statement.read_subtract statement.through statement.times statement.repetition statement.read_perform statement.read_go statement.read_exit statement.read_stop statement.mark statement.with_what statement.indicator statement.perhaps_lines statement.lines_or_page statement.advanced statement.advancing statement.ending statement.sent statement.read_send statement.switched statement.read_switch statement.read_accept statement.read_plain division.unit_of_text division.receive_head division.receive_alone division.inner division.inners division.no_data division.receive division.otherwise division.branch division.read_statement division.read_statements division.read_sentence division.read_sentences division.read_paragraph division.read_paragraphs division.read_division
facts = record {
  nested_if = refl;
  else_of_first = refl;
  two_sentences = refl;
  no_data_goes_on = refl;
  no_data_in_if = refl;
  joined_by_and = refl;
  performs_often = refl;
  performs_until = refl;
  sends_all = refl;
  sends_by_item = refl;
  moves_many = refl;
  adds_number = refl;
  accepts_count = refl;
}

-- what is read is spelled so: the first of these
nested_if_is_spelled : IsProcedure (trees_with ((if_of (at 3 12) (alone (simples.Compares (of_item 3 15 (codes "A")) false relations.Equal (of_number 3 19 (codes "1")))) ((if_of (at 3 21) (alone (simples.Compares (of_item 3 24 (codes "B")) false relations.Equal (of_number 3 28 (codes "1")))) ((exit_of ∷ [])) ((stop_of ∷ [])) ∷ [])) [] ∷ []) ∷ [])) (tokens_with (codes "IF A = 1 IF B = 1 EXIT ELSE STOP RUN."))
nested_if_is_spelled = procedure_spelled (tokens_with (codes "IF A = 1 IF B = 1 EXIT ELSE STOP RUN.")) _ facts.nested_if
