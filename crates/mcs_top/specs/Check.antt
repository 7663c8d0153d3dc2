-- What `check` does: it reads a description and then each program that it names.
use Rattle.std.specs.Prelude.{◌≡◌, ℕ, ◌⊎◌, List, codes}
use Rattle.com_io.specs.Files.{file_limit, IsAbandoned}
use Rattle.com_io.specs.Stores.{Shown}
use Rattle.com_net.specs.declared.net.Net.{Net}
use Rattle.com_net.specs.declared.net.UnitRow.{UnitRow}
use Rattle.cob_lex.specs.declared.fault.SourceFault.{SourceFault}
use Rattle.cob_meaning.specs.Meaning.{Program}
use Rattle.mcs_top.specs.Files.{IsNotRead}
use Rattle.mcs_top.specs.Programs.{IsProgramRefused, AreProgramsRead, StopsAtUnit}
use Rattle.mcs_top.specs.Replay.{IsNetRead}
use Rattle.mcs_top.specs.Reports.{IsWritten, IsWriteFailed}

-- what is written when no program has a fault
abbrev pub check_text : List ℕ
check_text = codes "ok\n"

-- NET was read, and then each program that it names, in the order of its units. Nothing else was asked
-- for.
pub record IsChecked (net_file : List ℕ) (before read : Shown) : Type 0 where
  pub net : Net
  pub between : Shown
  pub net_read : IsNetRead net_file before between net
  pub programs : List Program
  pub programs_read : AreProgramsRead net.units programs between read

-- All were read. `Told` says what became of `ok`, from what the store showed before it.
pub record IsCheckTold (net_file : List ℕ) (before : Shown)
    (Told : Shown → List ℕ → Type 0) : Type 0 where
  pub read : Shown
  pub checked : IsChecked net_file before read
  pub told : Told read check_text

-- All were read, and `ok` was written, in one write. Nothing else was asked for, and no fault was
-- counted.
abbrev pub HasChecked : List ℕ → Shown → Shown → Type 0
HasChecked net_file before after = IsCheckTold net_file before (IsWritten after)

-- that write failed
abbrev pub IsCheckUnwritten : List ℕ → Shown → Shown → Type 0
IsCheckUnwritten net_file before after = IsCheckTold net_file before (IsWriteFailed after)

-- NET was read and describes a network, and then the programs of its first units; that of the next one
-- was not, as `Why` says.
pub record StopsAtProgram (net_file : List ℕ) (before after : Shown)
    (Why : UnitRow → Shown → Shown → Type 0) : Type 0 where
  pub net : Net
  pub between : Shown
  pub net_read : IsNetRead net_file before between net
  pub stop : StopsAtUnit net.units between after Why

-- The file of this name could not be read: NET, or that of a program.
abbrev pub IsCheckedFileUnread : List ℕ → Shown → Shown → List ℕ → Type 0
IsCheckedFileUnread net_file before tried name =
    ((name ≡ net_file) × IsNotRead net_file before tried)
    ⊎ StopsAtProgram net_file before tried
    (λ unit between after. (name ≡ unit.source) × IsNotRead unit.source between after)

-- The source of the unit of this name was read, and is the first with a fault.
abbrev pub IsSourceRefused : List ℕ → Shown → Shown → List ℕ → SourceFault → Type 0
IsSourceRefused net_file before tried name fault =
    StopsAtProgram net_file before tried
    (λ unit between after. (name ≡ unit.name) × IsProgramRefused unit fault between after)

-- Memory ran out at NET or at a program. No other file was begun, and no fault was counted.
abbrev pub LacksMemoryToCheck : List ℕ → Shown → Shown → Type 0
LacksMemoryToCheck net_file before after =
    IsAbandoned file_limit net_file before after
    ⊎ StopsAtProgram net_file before after
    (λ unit between tried. IsAbandoned file_limit unit.source between tried)
