-- A program that was checked, and the answers of the check.
use Rattle.std.specs.Prelude.{ℕ, List}
use Rattle.cob_lex.specs.declared.fault.SourceError.{SourceError}
use Rattle.cob_lex.specs.declared.fault.SourceError.TheVariants.{Memory, Refused}
use Rattle.cob_lex.specs.declared.token.Token.{Token}
use Rattle.cob_data.specs.declared.tree.DataDivision.{DataDivision}
use Rattle.cob_proc.specs.declared.tree.Procedure.{Procedure}
use Rattle.cob_proc.specs.Trees.{procedure_trees}
use Rattle.cob_meaning.specs.Meaning.{Program}
use Rattle.cob_meaning.specs.Sources.{IsSourceFaultOf, IsTreesFaultOf, Spells, layout_of}

-- the two trees of a program
pub record Compiled : Type 0 where
  pub divisions : DataDivision
  pub procedure : Procedure

-- what they mean
abbrev pub program_of : DataDivision → Procedure → Program
program_of divisions procedure = record { layout = layout_of divisions; text = procedure_trees procedure }

-- they were read from the same tokens
pub record AreOfOne (divisions : DataDivision) (procedure : Procedure) : Type 0 where
  pub tokens : List Token
  pub spells : Spells tokens (program_of divisions procedure)

-- a refusal reports the first fault of the program; it says nothing if memory ran out
abbrev pub IsRefusalOf : Program → SourceError → Type 0
IsRefusalOf program (Refused fault) = IsTreesFaultOf program fault
IsRefusalOf program (Memory error) = Unit {0}

-- a refusal reports the fault of the source; it says nothing if memory ran out
abbrev pub IsReadRefusal : List ℕ → SourceError → Type 0
IsReadRefusal source (Refused fault) = IsSourceFaultOf source fault
IsReadRefusal source (Memory error) = Unit {0}
