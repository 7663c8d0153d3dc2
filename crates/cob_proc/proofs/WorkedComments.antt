-- AUTHOR in a Procedure Division, worked out by hand: a comment, or a word that is wanted nowhere.
use Rattle.std.proofs.Common.{◌≡◌, ℕ, List, [], ◌∷◌, Option, Some, None, refl, codes}
use Rattle.cob_lex.specs.declared.fault.SourceFault.{SourceFault}
use Rattle.cob_lex.specs.declared.fault.SourceKind.TheVariants as faults
use Rattle.cob_lex.specs.Fronts.{front_of}
use Rattle.cob_lex.specs.Lexing.{lines_tokens, text_tokens, tokens_of}
use Rattle.cob_forms.specs.Forms.{next, reading}
use Rattle.cob_forms.specs.Faults.{fault}
use Rattle.cob_lex.proofs.Programs.{source}
use Rattle.cob_proc.specs.Faults.{procedure_fault}
use Rattle.cob_proc.proofs.WorkedSources.{tokens_in, statements}

-- the first fault of a source
abbrev fault_in : List ℕ → Option SourceFault
fault_in source = procedure_fault (tokens_in (tokens_of source))

-- a line under a sentence of MAIN, and one under that
abbrev behind_statement : List ℕ → List ℕ → List ℕ
behind_statement line other = source (
    codes "       PROCEDURE DIVISION." ∷
    codes "       MAIN." ∷
    codes "           STOP RUN." ∷ line ∷ other ∷
    codes "       NEXT-ONE." ∷ [])

-- what stands in a comment paragraph is no fault
author_is_a_comment : fault_in (behind_statement (codes "       AUTHOR. MOVE.") (codes "           EXIT 5.")) ≡ None
unfolding lines_tokens text_tokens front_of next reading
author_is_a_comment = refl

-- without a period AUTHOR is a reserved word, where a paragraph or a statement is wanted
author_without_period : fault_in (behind_statement (codes "       AUTHOR MOVE.") (codes "           EXIT.")) ≡ Some (fault 4 8 faults.WantedWord)
unfolding lines_tokens text_tokens front_of next reading
author_without_period = refl

-- and it is no name
author_as_target : fault_in (statements (codes "MOVE A TO AUTHOR." ∷ [])) ≡ Some (fault 3 22 faults.WantedWord)
unfolding lines_tokens text_tokens front_of next reading
author_as_target = refl
