-- A program of a source, pass by pass.
use Rattle.std.proofs.Common.{◌≡◌, ℕ, ◌+◌, ◌≤◌, List, [], ◌∷◌, length, drop, Option, None, Ok, Err, Result, refl, sym, ap, subst, ◌∙◌, arith}
use Rattle.std.specs.Prelude.{IfErr}
use Rattle.std.specs.Option.{option_or}
use Rattle.cob_lex.specs.declared.fault.SourceError.{SourceError}
use Rattle.cob_lex.specs.declared.fault.SourceError.TheVariants.{Memory, Refused}
use Rattle.cob_lex.specs.declared.lexer.TheConstants.{MAX_SOURCE}
use Rattle.cob_lex.specs.declared.token.Token.{Token}
use Rattle.cob_lex.specs.Answers.{IsRefusal}
use Rattle.cob_lex.specs.Lexing.{tokens_of}
use Rattle.cob_lex.specs.Spelled.{AreBetween, AreTokens}
use Rattle.cob_forms.specs.Answers.{IsRefused}
use Rattle.cob_data.specs.declared.tree.DataDivision.{DataDivision}
use Rattle.cob_data.specs.Divisions.{IsDivisionOf}
use Rattle.cob_data.specs.Faults.{data_fault}
use Rattle.cob_proc.specs.declared.tree.Procedure.{Procedure}
use Rattle.cob_proc.specs.Faults.{procedure_fault}
use Rattle.cob_proc.specs.Spelled.{IsProcedure}
use Rattle.cob_proc.specs.Trees.{procedure_trees}
use Rattle.cob_meaning.specs.Meaning.{Program}
use Rattle.cob_meaning.specs.Sources.{HasNoTreesFault, IsProgramOf, Spells, from_procedure, of_text, of_trees, text_fault_by, tokens_fault}
use Rattle.cob_meaning.proofs.Divided.{begins_there}
use Rattle.cob_code.specs.Compiled.{IsReadRefusal, IsRefusalOf, program_of}

few_between : (from to : ℕ) (tokens : List Token) → AreBetween from tokens to → from + length tokens ≤ to
few_between from to [] h = omega (arith, h)
few_between from to (token ∷ tokens) h = let others = few_between token.past to tokens h.2 in omega (arith, others, h.0, h.1)

-- a source has no more tokens than bytes
pub no_more_tokens : (limit : ℕ) (source : List ℕ) (tokens : List Token) → AreTokens source tokens → length source ≤ limit → length tokens ≤ limit
no_more_tokens limit source tokens are few = let all = few_between 0 (length source) tokens are.between in omega (arith, all, few)

-- THE PASSES OVER TOKENS

by_data : (error : SourceError) (found other : Option _) → IsRefused error found → IsRefused error (option_or found other)
by_data (Refused fault) found other h = ap (λ o. option_or o other) h
by_data (Memory error) found other h = tt

pub data_refused : (error : SourceError) (tokens : List Token) → IsRefused error (data_fault tokens) → IsRefused error (tokens_fault tokens)
data_refused error tokens h = by_data error (data_fault tokens) (procedure_fault (from_procedure tokens)) h

fault_behind : (tokens rest : List Token) (place : ℕ) (division : DataDivision) → IsDivisionOf tokens place division → data_fault tokens ≡ None → rest ≡ drop place tokens
    → procedure_fault rest ≡ tokens_fault tokens
fault_behind tokens rest place division is none e =
    ap procedure_fault (e ∙ sym (begins_there tokens place division is)) ∙ ap (λ o. option_or o (procedure_fault (from_procedure tokens))) (sym none)

pub procedure_refused : (error : SourceError) (tokens rest : List Token) (place : ℕ) (division : DataDivision) → IsDivisionOf tokens place division → data_fault tokens ≡ None → rest ≡ drop place tokens
    → IsRefused error (procedure_fault rest) → IsRefused error (tokens_fault tokens)
procedure_refused error tokens rest place division is none e h = subst (IsRefused error) (fault_behind tokens rest place division is none e) h

pub spelled : (tokens rest : List Token) (place : ℕ) (division : DataDivision) (procedure : Procedure) → IsDivisionOf tokens place division → data_fault tokens ≡ None → rest ≡ drop place tokens
    → IsProcedure (procedure_trees procedure) rest → procedure_fault rest ≡ None → Spells tokens (program_of division procedure)
spelled tokens rest place division procedure is none e written no_fault = record {
  no_fault = sym (fault_behind tokens rest place division is none e) ∙ no_fault;
  place = place;
  division = division;
  is_division = is;
  is_procedure = subst (IsProcedure (procedure_trees procedure)) e written;
  layout = refl;
}

-- THE WHOLE SOURCE

pub lex_refused : (source : List ℕ) (error : SourceError) → length source ≤ MAX_SOURCE → IsRefusal error (tokens_of source) → IsReadRefusal source error
lex_refused source (Refused fault) few h = of_text few (ap text_fault_by h)
lex_refused source (Memory error) few h = tt

pub trees_refused : (source : List ℕ) (tokens : List Token) (error : SourceError) → length source ≤ MAX_SOURCE → tokens_of source ≡ Ok tokens → IsRefused error (tokens_fault tokens)
    → IsReadRefusal source error
trees_refused source tokens (Refused fault) few are h = of_text few (ap text_fault_by are ∙ h)
trees_refused source tokens (Memory error) few are h = tt

pub program_refused : (source : List ℕ) (tokens : List Token) (program : Program) (error : SourceError) → length source ≤ MAX_SOURCE → tokens_of source ≡ Ok tokens → Spells tokens program
    → IsRefusalOf program error → IsReadRefusal source error
program_refused source tokens program (Refused fault) few are spells h = of_trees tokens program few are spells h
program_refused source tokens program (Memory error) few are spells h = tt

pub program_read : (source : List ℕ) (tokens : List Token) (program : Program) → length source ≤ MAX_SOURCE → tokens_of source ≡ Ok tokens → Spells tokens program → HasNoTreesFault program
    → IsProgramOf source program
program_read source tokens program few are spells none = record { few = few; tokens = tokens; are_tokens = are; spells = spells; no_fault = none }

pub program_not_read : {P : Type 0} (source : List ℕ) (tokens : List Token) (program : Program) (r : Result P SourceError) → length source ≤ MAX_SOURCE → tokens_of source ≡ Ok tokens → Spells tokens program
    → IfErr r (IsRefusalOf program) → IfErr r (IsReadRefusal source)
program_not_read source tokens program (Ok read) few are spells h = tt
program_not_read source tokens program (Err error) few are spells h = program_refused source tokens program error few are spells h
