-- Comment paragraphs in a Procedure Division, worked out by hand.
use Rattle.std.proofs.Common.{◌≡◌, ℕ, List, [], ◌∷◌, ◌++◌, Ok, Err, refl, codes}
use Rattle.cob_lex.specs.declared.fault.SourceKind.TheVariants as faults
use Rattle.cob_lex.specs.Fronts.{front_of}
use Rattle.cob_lex.specs.Lexing.{tokens_of, lines_tokens, text_tokens}
use Rattle.cob_lex.proofs.Programs.{source}
use Rattle.cob_lex.proofs.Written.{on, word, period, fault}

-- a paragraph, a line under its sentence, and a line under that one
abbrev behind_statement : List ℕ → List ℕ → List ℕ
behind_statement line other = source (
    codes "       PROCEDURE DIVISION." ∷
    codes "       MAIN." ∷
    codes "           STOP RUN." ∷ line ∷ other ∷
    codes "       NEXT-ONE." ∷ [])

-- AUTHOR and its period make comments there too, up to the next line with area A
author_in_procedure : tokens_of (behind_statement (codes "       AUTHOR. % me") (codes "           EXIT 5 %")) ≡ Ok (
    on 1 0 (word 8 (codes "PROCEDURE") ∷ word 18 (codes "DIVISION") ∷ period 26 (codes ".") ∷ []) ++
    on 2 27 (word 8 (codes "MAIN") ∷ period 12 (codes ".") ∷ []) ++
    on 3 40 (word 12 (codes "STOP") ∷ word 17 (codes "RUN") ∷ period 20 (codes ".") ∷ []) ++
    on 6 101 (word 8 (codes "NEXT-ONE") ∷ period 16 (codes ".") ∷ []))
unfolding lines_tokens text_tokens front_of
author_in_procedure = refl

-- a comment line above them makes no difference
comment_before_author : tokens_of (behind_statement (codes "      *    NOTE") (codes "       SECURITY . %")) ≡ Ok (
    on 1 0 (word 8 (codes "PROCEDURE") ∷ word 18 (codes "DIVISION") ∷ period 26 (codes ".") ∷ []) ++
    on 2 27 (word 8 (codes "MAIN") ∷ period 12 (codes ".") ∷ []) ++
    on 3 40 (word 12 (codes "STOP") ∷ word 17 (codes "RUN") ∷ period 20 (codes ".") ∷ []) ++
    on 6 97 (word 8 (codes "NEXT-ONE") ∷ period 16 (codes ".") ∷ []))
unfolding lines_tokens text_tokens front_of
comment_before_author = refl

-- in area B it is a word like any other
author_in_area_b : tokens_of (behind_statement (codes "           AUTHOR. % me") (codes "           EXIT.")) ≡ Err (fault 4 20 faults.BadCharacter)
unfolding lines_tokens text_tokens front_of
author_in_area_b = refl
