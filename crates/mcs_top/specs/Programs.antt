-- Reading the programs of a network, one after another.
use Rattle.std.specs.Prelude.{◌≡◌, ℕ, List, [], ◌∷◌, ◌++◌}
use Rattle.com_io.specs.Files.{file_limit, IsRead}
use Rattle.com_io.specs.Stores.{Shown}
use Rattle.com_net.specs.declared.net.UnitRow.{UnitRow}
use Rattle.cob_lex.specs.declared.fault.SourceFault.{SourceFault}
use Rattle.cob_meaning.specs.Meaning.{Program}
use Rattle.cob_meaning.specs.Sources.{IsProgramOf, IsSourceFaultOf}

-- The file of a unit was read, and its source is this program.
pub record IsProgramRead (unit : UnitRow) (program : Program) (before after : Shown) : Type 0 where
  pub source : List ℕ
  pub is_read : IsRead file_limit unit.source source before after
  pub is_program : IsProgramOf source program

-- The file of a unit was read, and its source has this fault.
pub record IsProgramRefused (unit : UnitRow) (fault : SourceFault) (before after : Shown) : Type 0 where
  pub source : List ℕ
  pub is_read : IsRead file_limit unit.source source before after
  pub refused : IsSourceFaultOf source fault

-- The files of these units were read, one after another, and their sources are these programs.
pub data AreProgramsRead : List UnitRow → List Program → Shown → Shown → Type 0 where
  none : {shown : Shown} → AreProgramsRead [] [] shown shown
  more : {unit : UnitRow} {program : Program} {units : List UnitRow} {programs : List Program}
      {before after : Shown} (between : Shown) → IsProgramRead unit program before between
      → AreProgramsRead units programs between after
      → AreProgramsRead (unit ∷ units) (program ∷ programs) before after

-- The programs of the first units were read, and that of the next one was not: `Why` says why, from
-- what the store showed before and after that unit.
pub record StopsAtUnit (units : List UnitRow) (before after : Shown)
    (Why : UnitRow → Shown → Shown → Type 0) : Type 0 where
  pub front : List UnitRow
  pub unit : UnitRow
  pub others : List UnitRow
  pub split : units ≡ front ++ unit ∷ others
  pub programs : List Program
  pub between : Shown
  pub are_read : AreProgramsRead front programs before between
  pub why : Why unit between after
