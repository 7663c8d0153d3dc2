-- Why a check is not done, for the functions that do it.
use Rattle.std.specs.Prelude.{◌≡◌, ℕ, ◌⊎◌, List}
use Rattle.com_io.specs.Files.{file_limit, IsAbandoned}
use Rattle.com_io.specs.Stores.{Shown}
use Rattle.com_net.specs.declared.net.UnitRow.{UnitRow}
use Rattle.cob_meaning.specs.Meaning.{Program}
use Rattle.mcs_top.specs.declared.report.Refusal.TheVariants.{Usage, Description, Unread, Source, Script, Input}
use Rattle.mcs_top.specs.declared.report.Failure.{Failure}
use Rattle.mcs_top.specs.declared.report.Failure.TheVariants.{Refused, Write, Memory}
use Rattle.mcs_top.specs.Check.{check_text}
use Rattle.mcs_top.specs.Files.{IsNotRead}
use Rattle.mcs_top.specs.Programs.{IsProgramRefused, AreProgramsRead, StopsAtUnit}
use Rattle.mcs_top.specs.Reports.{IsWritten}
use Rattle.mcs_top.specs.Showing.{IsUnwrittenFor}

-- the file of a unit gave no program
abbrev pub IsUnitFailure : Failure → UnitRow → Shown → Shown → Type 0
IsUnitFailure (Refused (Unread name)) unit before after =
    (name.now ≡ unit.source) × IsNotRead unit.source before after
IsUnitFailure (Refused (Source name fault)) unit before after =
    (name.now ≡ unit.name) × IsProgramRefused unit fault before after
IsUnitFailure (Refused Usage) unit before after = ⊥
IsUnitFailure (Refused (Description fault)) unit before after = ⊥
IsUnitFailure (Refused (Script line reason)) unit before after = ⊥
IsUnitFailure (Refused (Input text)) unit before after = ⊥
IsUnitFailure Memory unit before after = IsAbandoned file_limit unit.source before after
IsUnitFailure Write unit before after = ⊥

-- the files of these units were read, and their sources are programs
pub record AreRead (units : List UnitRow) (before after : Shown) : Type 0 where
  pub programs : List Program
  pub are_read : AreProgramsRead units programs before after

-- the file of one of these units gave no program
abbrev pub IsUnitsFailure : List UnitRow → Shown → Shown → Failure → Type 0
IsUnitsFailure units before after failure = StopsAtUnit units before after (IsUnitFailure failure)

-- the programs of these units were read, and `Told` says what became of `ok`
pub record AreReadAndTold (units : List UnitRow) (before : Shown)
    (Told : Shown → List ℕ → Type 0) : Type 0 where
  pub read : Shown
  pub are_read : AreRead units before read
  pub told : Told read check_text

-- the programs of these units were read, and `ok` was written
abbrev pub AreChecked : List UnitRow → Shown → Shown → Type 0
AreChecked units before after = AreReadAndTold units before (IsWritten after)

-- why that was not done
abbrev pub AreNotChecked : List UnitRow → Shown → Shown → Failure → Type 0
AreNotChecked units before after failure =
    IsUnitsFailure units before after failure
    ⊎ AreReadAndTold units before (λ read text. IsUnwrittenFor text read after failure)
