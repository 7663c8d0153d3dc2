-- What the reader of a log has read, for the functions that read one.
use Rattle.std.specs.Prelude.{◌≡◌, ℕ, ◌≤◌, ◌<◌, ◌^◌, List, ◌++◌, length}
use Rattle.com_events.specs.declared.entry.Entry.{Entry}
use Rattle.com_journal.specs.Lines.{IsLine}
use Rattle.com_journal.specs.Journals.{AreLines}
use Rattle.com_journal.specs.Versions.{IsVersion}
use Rattle.com_disk.specs.Logs.{record_of, log_bytes}
use Rattle.com_disk.specs.declared.reading.RecoverFault.{RecoverFault}
use Rattle.com_disk.specs.declared.reading.RecoverFault.TheVariants.{Failed, Empty, NotJournal, Memory}

-- the bytes begin with the header and the records of these entries, and go on with the rest
pub record HasRead (bytes : List ℕ) (version : ℕ) (entries : List Entry) (end : ℕ)
    (rest : List ℕ) : Type 0 where
  pub known : IsVersion version
  pub lines : List (List ℕ)
  pub are_lines : AreLines entries lines
  pub split : bytes ≡ log_bytes version lines ++ rest
  pub at : end ≡ length (log_bytes version lines)

-- the bytes begin with the record of this entry, and go on with the rest, which has a gate
pub record IsRecordOf (bytes : List ℕ) (entry : Entry) (rest : List ℕ) : Type 0 where
  pub line : List ℕ
  pub is_line : IsLine entry line
  pub split : bytes ≡ record_of line ++ rest
  pub gate : 1 ≤ length rest

-- a line that is short, and what is after it
pub record IsSplit (bytes line rest : List ℕ) : Type 0 where
  pub short : length line < 2 ^ 32
  pub split : bytes ≡ record_of line ++ rest
  pub gate : 1 ≤ length rest

-- no line
abbrev pub IsCut : List ℕ → Type 0
IsCut bytes =
    (line rest : List ℕ) → length line < 2 ^ 32 → 1 ≤ length rest
    → bytes ≡ record_of line ++ rest → ⊥

-- a fault of the bytes, or want of memory
abbrev pub TellsOf : (ℕ → Type 0) → RecoverFault → Type 0
TellsOf P Failed = ⊥
TellsOf P Empty = ⊥
TellsOf P (NotJournal at) = P at
TellsOf P Memory = Unit {0}
