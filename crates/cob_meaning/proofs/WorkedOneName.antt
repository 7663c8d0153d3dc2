-- Sources in which a name stands for two things or for none, worked out by hand.
use Rattle.std.proofs.Common.{◌≡◌, ℕ, List, [], ◌∷◌, drop, take, None, Ok, refl, codes, arith, inl}
use Rattle.cob_lex.specs.declared.fault.SourceKind.TheVariants as faults
use Rattle.cob_lex.specs.declared.token.Token.{Token}
use Rattle.cob_lex.specs.Fronts.{front_of}
use Rattle.cob_lex.specs.Lexing.{lines_tokens, text_tokens, tokens_of}
use Rattle.cob_lex.proofs.Programs.{source}
use Rattle.cob_forms.specs.Forms.{next, reading}
use Rattle.cob_forms.specs.Faults.{fault}
use Rattle.cob_forms.specs.Readers.{turns}
use Rattle.cob_data.specs.declared.tree.DataDivision.{DataDivision}
use Rattle.cob_data.specs.Clauses.{input_field_of, output_field_of}
use Rattle.cob_data.specs.Divisions.{IsDivisionOf, communication_of, working_storage_of}
use Rattle.cob_proc.specs.PartReaders as parts
use Rattle.cob_proc.specs.StatementReaders as statement
use Rattle.cob_proc.specs.DivisionReaders as division
use Rattle.cob_proc.specs.Trees.{Tree}
use Rattle.cob_proc.proofs.DivisionSpelled.{procedure_spelled}
use Rattle.cob_proc.proofs.WorkedSources.{tokens_in}
use Rattle.cob_data.specs.declared.tree.ItemSort.TheVariants.{Alphanumeric}
use Rattle.cob_meaning.specs.Meaning.{Program}
use Rattle.cob_meaning.specs.Sources.{IsProgramOf, IsSourceFaultOf, Spells, of_text, of_trees}
use Rattle.cob_meaning.proofs.RangeFaults.{free_of_faults}
use Rattle.cob_meaning.proofs.Trees.{go_of, move_of, stop_of, an_item}
use Rattle.cob_meaning.proofs.Placed.{name_at, item_at, of_item, paragraph_at}

-- an item MAIN, and a paragraph MAIN with two sentences, in lines 8 and 9
abbrev with_sentences : List ℕ → List ℕ → List ℕ
with_sentences one other = source (
    codes "       IDENTIFICATION DIVISION." ∷
    codes "       PROGRAM-ID. P." ∷
    codes "       DATA DIVISION." ∷
    codes "       WORKING-STORAGE SECTION." ∷
    codes "       01  MAIN PIC X." ∷
    codes "       PROCEDURE DIVISION." ∷
    codes "       MAIN." ∷ one ∷ other ∷ [])

abbrev both : List ℕ
both = with_sentences (codes "           MOVE MAIN TO MAIN.") (codes "           GO TO MAIN.")

abbrev unknown : List ℕ
unknown = with_sentences (codes "           MOVE MAIN TO Z.") (codes "           STOP RUN.")

abbrev tokens_from : List ℕ → List Token
tokens_from source = tokens_in (tokens_of source)

-- the program with these statements in its two sentences
abbrev program_of : Tree → Tree → Program
program_of one other = record {
  layout = record {
    names = (codes "MAIN", an_item 0 0 1 Alphanumeric) ∷ [];
    opening = codes " " ∷ [];
    initial = None;
  };
  text = paragraph_at 7 (codes "MAIN") ((one ∷ []) ∷ (other ∷ []) ∷ []) ∷ [];
}

abbrev both_program : Program
both_program = program_of (move_of (of_item 8 17 (codes "MAIN")) (item_at 8 25 (codes "MAIN") ∷ [])) (go_of (name_at 9 18 (codes "MAIN")))

abbrev unknown_program : Program
unknown_program = program_of (move_of (of_item 8 17 (codes "MAIN")) (item_at 8 25 (codes "Z") ∷ [])) stop_of

-- what these tokens tell before the word PROCEDURE
abbrev told : List Token → DataDivision
told ts = record {
  program = name_at 2 20 (codes "P");
  source_computer = None;
  object_computer = None;
  working_storage = working_storage_of (take 18 ts);
  communication = communication_of (take 18 ts);
}

both_is_read : division.read_procedure (drop 18 (tokens_from both)) ≡ Ok both_program.text
unfolding lines_tokens text_tokens front_of turns parts.subscript_value parts.subscript parts.identifier parts.identifiers parts.constant parts.operand statement.read_move statement.read_go statement.read_stop statement.read_plain division.read_statement division.read_statements division.read_sentence division.read_sentences division.read_paragraph division.read_paragraphs division.read_division
both_is_read = refl

unknown_is_read : division.read_procedure (drop 18 (tokens_from unknown)) ≡ Ok unknown_program.text
unfolding lines_tokens text_tokens front_of turns parts.subscript_value parts.subscript parts.identifier parts.identifiers parts.constant parts.operand statement.read_move statement.read_go statement.read_stop statement.read_plain division.read_statement division.read_statements division.read_sentence division.read_sentences division.read_paragraph division.read_paragraphs division.read_division
unknown_is_read = refl

both_is_divided : IsDivisionOf (tokens_from both) 18 (told (tokens_from both))
unfolding lines_tokens text_tokens front_of next reading input_field_of output_field_of
both_is_divided = record {
  complete = refl;
  within = omega arith;
  program = refl;
  source_computer = refl;
  object_computer = refl;
  working_storage = refl;
  communication = refl;
}

unknown_is_divided : IsDivisionOf (tokens_from unknown) 18 (told (tokens_from unknown))
unfolding lines_tokens text_tokens front_of next reading input_field_of output_field_of
unknown_is_divided = record {
  complete = refl;
  within = omega arith;
  program = refl;
  source_computer = refl;
  object_computer = refl;
  working_storage = refl;
  communication = refl;
}

both_is_spelled : Spells (tokens_from both) both_program
unfolding lines_tokens text_tokens front_of next reading input_field_of output_field_of
both_is_spelled = record {
  no_fault = refl;
  place = 18;
  division = told (tokens_from both);
  is_division = both_is_divided;
  is_procedure = procedure_spelled _ _ both_is_read;
  layout = refl;
}

unknown_is_spelled : Spells (tokens_from unknown) unknown_program
unfolding lines_tokens text_tokens front_of next reading input_field_of output_field_of
unknown_is_spelled = record {
  no_fault = refl;
  place = 18;
  division = told (tokens_from unknown);
  is_division = unknown_is_divided;
  is_procedure = procedure_spelled _ _ unknown_is_read;
  layout = refl;
}

-- an item and a paragraph may have one name
both_is_program : IsProgramOf both both_program
unfolding lines_tokens text_tokens front_of
both_is_program = record { few = omega arith; tokens = tokens_from both; are_tokens = refl; spells = both_is_spelled; no_fault = free_of_faults both_program refl refl }

-- a name that stands for nothing
unknown_name : IsSourceFaultOf unknown (fault 8 25 faults.UnknownName)
unfolding lines_tokens text_tokens front_of
unknown_name = of_trees (tokens_from unknown) unknown_program (omega arith) refl unknown_is_spelled (inl refl)

-- the procedure pass is the earlier one: what it finds in line 9 is told, and not the name in line 8
wanted_before_unknown : IsSourceFaultOf (with_sentences (codes "           MOVE MAIN TO Z.") (codes "           STOP.")) (fault 9 16 faults.WantedWord)
unfolding lines_tokens text_tokens front_of next reading
wanted_before_unknown = of_text (omega arith) refl

-- so is a comparison without an identifier
constants_before_unknown : IsSourceFaultOf (with_sentences (codes "           MOVE MAIN TO Z.") (codes "           IF 1 = 2 STOP RUN.")) (fault 9 15 faults.WrongKind)
unfolding lines_tokens text_tokens front_of next reading
constants_before_unknown = of_text (omega arith) refl
