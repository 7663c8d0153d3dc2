-- Sources for worked facts: the divisions before the Procedure Division, with some lines in a section.
use Rattle.std.proofs.Common.{ℕ, List, [], ◌∷◌, ◌++◌, Result, Ok, Err, codes}
use Rattle.cob_lex.specs.declared.fault.SourceFault.{SourceFault}
use Rattle.cob_lex.specs.declared.token.Token.{Token}
use Rattle.cob_lex.proofs.Programs.{source}

-- the tokens of a source without a fault
abbrev pub tokens_in : Result (List Token) SourceFault → List Token
tokens_in (Ok tokens) = tokens
tokens_in (Err fault) = []

-- a program with items in Working-Storage, which begin in line 5
abbrev pub items : List (List ℕ) → List ℕ
items lines = source (codes "       IDENTIFICATION DIVISION." ∷ codes "       PROGRAM-ID. P." ∷ codes "       DATA DIVISION." ∷ codes "       WORKING-STORAGE SECTION." ∷ lines ++ codes "       PROCEDURE DIVISION." ∷ [])

-- a program with CD entries, which begin in line 5
abbrev pub entries : List (List ℕ) → List ℕ
entries lines = source (codes "       IDENTIFICATION DIVISION." ∷ codes "       PROGRAM-ID. P." ∷ codes "       DATA DIVISION." ∷ codes "       COMMUNICATION SECTION." ∷ lines ++ codes "       PROCEDURE DIVISION." ∷ [])
