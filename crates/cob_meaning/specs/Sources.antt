-- Which program a source is, and which fault it has.
use Rattle.std.specs.Prelude.{◌≡◌, ◌⊎◌, ◌≤◌, ◌<◌, ℕ, ◌-◌, List, length, drop, Option, Some, None, Result, Ok, Err}
use Rattle.std.specs.Option.{option_or}
use Rattle.cob_lex.specs.declared.fault.SourceFault.{SourceFault}
use Rattle.cob_lex.specs.declared.fault.SourceKind.TheVariants as faults
use Rattle.cob_lex.specs.declared.lexer.TheConstants.{MAX_SOURCE}
use Rattle.cob_lex.specs.declared.token.Token.{Token}
use Rattle.cob_lex.specs.Lexing.{tokens_of}
use Rattle.cob_forms.specs.Forms.{reading}
use Rattle.cob_forms.specs.Faults.{counting, fault, first}
use Rattle.cob_data.specs.declared.tree.DataDivision.{DataDivision}
use Rattle.cob_data.specs.Divisions.{IsDivisionOf}
use Rattle.cob_data.specs.Faults.{data_fault}
use Rattle.cob_data.specs.Forms.{data_division, alternatives_of}
use Rattle.cob_data.specs.Layout.{declared, initial_area, opening_storage}
use Rattle.cob_proc.specs.Faults.{procedure_fault}
use Rattle.cob_proc.specs.Spelled.{IsProcedure}
use Rattle.cob_meaning.specs.Layouts.{Layout}
use Rattle.cob_meaning.specs.Meaning.{Program}
use Rattle.cob_meaning.specs.Names.{names_faults}
use Rattle.cob_meaning.specs.Ranges.{IsFirstOf, IsRangesFault}

-- what the divisions before the Procedure Division say of names and areas
abbrev pub layout_of : DataDivision → Layout
layout_of d = record { names = declared d; opening = opening_storage d; initial = initial_area d }

-- THE PASSES

-- The tokens from the word PROCEDURE on, if reading the divisions comes to it: it is the last token
-- that was read.
abbrev pub from_procedure : List Token → List Token
from_procedure ts = drop (length (counting ts (reading alternatives_of data_division ts)) - 1) ts

-- the fault that the passes over tokens report: that of the data pass, and else that of the
-- procedure pass
abbrev pub tokens_fault : List Token → Option SourceFault
tokens_fault ts = option_or (data_fault ts) (procedure_fault (from_procedure ts))

-- the same, of what a source is read as by its first pass
abbrev pub text_fault_by : Result (List Token) SourceFault → Option SourceFault
text_fault_by (Err fault) = Some fault
text_fault_by (Ok ts) = tokens_fault ts

-- the fault that the passes over the text of a source report
abbrev pub text_fault : List ℕ → Option SourceFault
text_fault source = text_fault_by (tokens_of source)

-- Tokens without a fault spell a program: those before the word PROCEDURE its layout, and those
-- from it on its paragraphs.
pub record Spells (ts : List Token) (program : Program) : Type 0 where
  pub no_fault : tokens_fault ts ≡ None
  pub place : ℕ
  pub division : DataDivision
  pub is_division : IsDivisionOf ts place division
  pub is_procedure : IsProcedure program.text (drop place ts)
  pub layout : program.layout ≡ layout_of division

-- the fault that the passes over trees report: that of names and kinds, and else that of ranges
abbrev pub IsTreesFaultOf : Program → SourceFault → Type 0
IsTreesFaultOf program fault =
    (first (names_faults program) ≡ Some fault)
    ⊎ ((first (names_faults program) ≡ None) × IsFirstOf (IsRangesFault program.text) fault)

-- the passes over trees find no fault
pub record HasNoTreesFault (program : Program) : Type 0 where
  pub names : first (names_faults program) ≡ None
  pub ranges : (fault : SourceFault) → IsRangesFault program.text fault → ⊥

-- THE PROGRAM

-- a source is a program if it is not too long, its tokens spell the program, and the program has no
-- fault
pub record IsProgramOf (source : List ℕ) (program : Program) : Type 0 where
  pub few : length source ≤ MAX_SOURCE
  pub tokens : List Token
  pub are_tokens : tokens_of source ≡ Ok tokens
  pub spells : Spells tokens program
  pub no_fault : HasNoTreesFault program

-- THE FAULT

-- The fault of a source. Its length comes first, and then the passes lex, data, procedure, names
-- and kinds, and ranges. The first of them that finds a fault reports its first.
pub data IsSourceFaultOf (source : List ℕ) : SourceFault → Type 0 where
  of_length : MAX_SOURCE < length source → IsSourceFaultOf source (fault 1 1 faults.OverLimit)
  of_text : {found : SourceFault} → length source ≤ MAX_SOURCE → text_fault source ≡ Some found
      → IsSourceFaultOf source found
  of_trees : {found : SourceFault} (tokens : List Token) (program : Program)
      → length source ≤ MAX_SOURCE
      → tokens_of source ≡ Ok tokens → Spells tokens program → IsTreesFaultOf program found
      → IsSourceFaultOf source found

-- what a source is read as: its program, or its fault
abbrev pub IsReadAs : List ℕ → Result Program SourceFault → Type 0
IsReadAs source (Ok program) = IsProgramOf source program
IsReadAs source (Err fault) = IsSourceFaultOf source fault
