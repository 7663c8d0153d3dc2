-- The trees of words that may stand in one place, one after another, worked out by hand.
use Rattle.std.proofs.Common.{◌≡◌, ℕ, true, false, List, [], ◌∷◌, Some, None, Ok, refl, codes}
use Rattle.cob_lex.specs.declared.token.Token.{Token}
use Rattle.cob_lex.specs.Fronts.{front_of}
use Rattle.cob_lex.specs.Lexing.{lines_tokens, text_tokens, tokens_of}
use Rattle.cob_forms.specs.Readers.{turns}
use Rattle.cob_proc.specs.declared.tree.Addend.TheVariants as addends
use Rattle.cob_proc.specs.declared.tree.Indicator.TheVariants as indicators
use Rattle.cob_proc.specs.declared.tree.Joint.TheVariants as joints
use Rattle.cob_proc.specs.declared.tree.Key.TheVariants as keys
use Rattle.cob_proc.specs.declared.tree.Lines.TheVariants as lines
use Rattle.cob_proc.specs.declared.tree.Operand.TheVariants as operands
use Rattle.cob_proc.specs.declared.tree.Relation.TheVariants as relations
use Rattle.cob_proc.specs.declared.tree.Simple.TheVariants as simples
use Rattle.cob_proc.specs.declared.tree.Subscript.TheVariants as subscripts
use Rattle.cob_proc.specs.PartReaders as parts
use Rattle.cob_proc.specs.StatementReaders as statement
use Rattle.cob_proc.specs.DivisionReaders as division
use Rattle.cob_proc.specs.Trees.{ParagraphTree, Tree}
use Rattle.cob_proc.proofs.WorkedSources.{statements, tokens_in}
use Rattle.cob_meaning.proofs.Placed.{at, name_at, item_at, digits_at, literal_at, of_item, of_number, paragraph_at}
use Rattle.cob_meaning.proofs.Trees.{exit_of, if_of, move_of, send_of, switch_input_of, switch_output_of}

-- the tokens of a paragraph MAIN with this sentence in line 3
abbrev tokens_with : List ℕ → List Token
tokens_with sentence = tokens_in (tokens_of (statements (sentence ∷ [])))

-- the trees of MAIN with one sentence
abbrev trees_with : List Tree → List ParagraphTree
trees_with sentence = paragraph_at 2 (codes "MAIN") (sentence ∷ []) ∷ []

-- each is what the readers find
record Facts : Type 0 where
  -- ENABLE and DISABLE
  enable_terminal : division.read_procedure (tokens_with (codes "ENABLE INPUT TERMINAL C WITH KEY \"K\".")) ≡ Ok (trees_with (switch_input_of true true (name_at 3 34 (codes "C")) (keys.Literal (literal_at 3 45 (codes "K"))) ∷ []))
  disable_terminal : division.read_procedure (tokens_with (codes "DISABLE INPUT TERMINAL C KEY A.")) ≡ Ok (trees_with (switch_input_of false true (name_at 3 35 (codes "C")) (keys.Item (item_at 3 41 (codes "A"))) ∷ []))
  enable_input : division.read_procedure (tokens_with (codes "ENABLE INPUT C KEY A.")) ≡ Ok (trees_with (switch_input_of true false (name_at 3 25 (codes "C")) (keys.Item (item_at 3 31 (codes "A"))) ∷ []))
  disable_input : division.read_procedure (tokens_with (codes "DISABLE INPUT C WITH KEY \"A\"\"B\".")) ≡ Ok (trees_with (switch_input_of false false (name_at 3 26 (codes "C")) (keys.Literal (literal_at 3 37 (codes "A\"B"))) ∷ []))
  enable_output : division.read_procedure (tokens_with (codes "ENABLE OUTPUT D WITH KEY A.")) ≡ Ok (trees_with (switch_output_of true (name_at 3 26 (codes "D")) (keys.Item (item_at 3 37 (codes "A"))) ∷ []))
  disable_output : division.read_procedure (tokens_with (codes "DISABLE OUTPUT D KEY \"K\".")) ≡ Ok (trees_with (switch_output_of false (name_at 3 27 (codes "D")) (keys.Literal (literal_at 3 33 (codes "K"))) ∷ []))
  -- ESI and EGI, AFTER and BEFORE
  sends_esi : division.read_procedure (tokens_with (codes "SEND C FROM A WITH ESI.")) ≡ Ok (trees_with (send_of (name_at 3 17 (codes "C")) (Some (item_at 3 24 (codes "A"))) (Some (record { indicator = indicators.Esi; advancing = None })) ∷ []))
  sends_egi : division.read_procedure (tokens_with (codes "SEND C EGI AFTER 3.")) ≡ Ok (trees_with (send_of (name_at 3 17 (codes "C")) None (Some (record { indicator = indicators.Egi; advancing = Some (record { after = true; lines = lines.Count (addends.Number (digits_at 3 29 (codes "3"))) }) })) ∷ []))
  sends_emi : division.read_procedure (tokens_with (codes "SEND C EMI BEFORE N LINE.")) ≡ Ok (trees_with (send_of (name_at 3 17 (codes "C")) None (Some (record { indicator = indicators.Emi; advancing = Some (record { after = false; lines = lines.Count (addends.Item (item_at 3 30 (codes "N"))) }) })) ∷ []))
  -- SPACE, ZERO and ZEROES
  moves_constants : division.read_procedure (tokens_with (codes "MOVE SPACE TO A MOVE ZERO TO A MOVE ZEROES TO A.")) ≡ Ok (trees_with (move_of (operands.Spaces (at 3 17)) (item_at 3 26 (codes "A") ∷ []) ∷ move_of (operands.Zeros (at 3 33)) (item_at 3 41 (codes "A") ∷ []) ∷ move_of (operands.Zeros (at 3 48)) (item_at 3 58 (codes "A") ∷ []) ∷ []))
  -- the relations by their words, and by the sign
  compares : division.read_procedure (tokens_with (codes "IF A EQUAL TO 1 AND A LESS THAN 2 AND A > 3 EXIT.")) ≡ Ok (trees_with (if_of (at 3 12) (record { joint = joints.And; parts = simples.Compares (of_item 3 15 (codes "A")) false relations.Equal (of_number 3 26 (codes "1")) ∷ simples.Compares (of_item 3 32 (codes "A")) false relations.Less (of_number 3 44 (codes "2")) ∷ simples.Compares (of_item 3 50 (codes "A")) false relations.Greater (of_number 3 54 (codes "3")) ∷ [] }) ((exit_of ∷ [])) [] ∷ []))
  -- OR
  joined_by_or : division.read_procedure (tokens_with (codes "IF A = 1 OR B = 2 EXIT.")) ≡ Ok (trees_with (if_of (at 3 12) (record { joint = joints.Or; parts = simples.Compares (of_item 3 15 (codes "A")) false relations.Equal (of_number 3 19 (codes "1")) ∷ simples.Compares (of_item 3 24 (codes "B")) false relations.Equal (of_number 3 28 (codes "2")) ∷ [] }) ((exit_of ∷ [])) [] ∷ []))
  -- subscripts
  moves_occurrences : division.read_procedure (tokens_with (codes "MOVE A (2) TO B (C).")) ≡ Ok (trees_with (move_of (operands.Item (record { name = name_at 3 17 (codes "A"); subscript = Some (subscripts.Number (at 3 19) (digits_at 3 20 (codes "2"))) })) (record { name = name_at 3 26 (codes "B"); subscript = Some (subscripts.Item (at 3 28) (name_at 3 29 (codes "C"))) } ∷ []) ∷ []))

facts : Facts
unfolding lines_tokens text_tokens front_of turns parts.subscript_value parts.subscript parts.identifier parts.identifiers parts.constant parts.operand parts.addend parts.key parts.relation parts.compared parts.tested parts.perhaps_denied parts.simple parts.joined_part parts.joined parts.condition statement.read_move statement.mark statement.with_what statement.indicator statement.perhaps_lines statement.lines_or_page statement.advanced statement.advancing statement.ending statement.sent statement.read_send statement.switched statement.read_switch statement.read_exit statement.read_plain division.otherwise division.branch division.read_statement division.read_statements division.read_sentence division.read_sentences division.read_paragraph division.read_paragraphs division.read_division
facts = record {
  enable_terminal = refl;
  disable_terminal = refl;
  enable_input = refl;
  disable_input = refl;
  enable_output = refl;
  disable_output = refl;
  sends_esi = refl;
  sends_egi = refl;
  sends_emi = refl;
  moves_constants = refl;
  compares = refl;
  joined_by_or = refl;
  moves_occurrences = refl;
}
