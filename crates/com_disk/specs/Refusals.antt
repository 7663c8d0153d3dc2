-- Why the bytes of a disk stand for no entries, and what a fault of `recover` says.
use Rattle.std.specs.Prelude.{◌≡◌, ◌⊎◌, ℕ, ◌≤◌, List, [], ◌∷◌, ◌++◌, length}
use Rattle.com_events.specs.declared.entry.Entry.{Entry}
use Rattle.com_journal.specs.Lines.{IsLine}
use Rattle.com_journal.specs.Journals.{AreLines}
use Rattle.com_journal.specs.Versions.{IsVersion}
use Rattle.com_disk.specs.Logs.{header, record_of, log_bytes}
use Rattle.com_disk.specs.declared.reading.RecoverFault.{RecoverFault}
use Rattle.com_disk.specs.declared.reading.RecoverFault.TheVariants.{Failed, Empty, NotJournal, Memory}

-- the bytes do not begin with a header and a gate
abbrev pub IsHeaderless : List ℕ → Type 0
IsHeaderless bytes =
    (version gate : ℕ) (rest : List ℕ) → IsVersion version → bytes ≡ header version ++ gate ∷ rest
    → ⊥

-- The bytes after an open gate do not begin with the record of an entry's line and a next gate: the
-- record or the gate is cut, or the line is no entry's.
abbrev pub IsNoRecord : List ℕ → Type 0
IsNoRecord bytes =
    (entry : Entry) (line after : List ℕ) → IsLine entry line → 1 ≤ length after
    → bytes ≡ record_of line ++ after → ⊥

-- the first open gate that has no record is at this place
pub record IsBadRecord (bytes : List ℕ) (at : ℕ) : Type 0 where
  pub version : ℕ
  pub known : IsVersion version
  pub entries : List Entry
  pub lines : List (List ℕ)
  pub are_lines : AreLines entries lines
  pub rest : List ℕ
  pub split : bytes ≡ log_bytes version lines ++ 1 ∷ rest
  pub no_record : IsNoRecord rest
  pub gate : at ≡ length (log_bytes version lines)

-- the bytes stand for no entries, because of what is at this place
abbrev pub IsNoLog : List ℕ → ℕ → Type 0
IsNoLog bytes at = (IsHeaderless bytes × (at ≡ 0)) ⊎ IsBadRecord bytes at

-- what a fault says of the content; the disk may fail, and memory may run out, at any time
abbrev pub Tells : List ℕ → RecoverFault → Type 0
Tells content Failed = Unit {0}
Tells content Empty = content ≡ []
Tells content (NotJournal at) = (1 ≤ length content) × IsNoLog content at
Tells content Memory = Unit {0}

-- the disk failed, or memory ran out
abbrev pub IsOutside : RecoverFault → Type 0
IsOutside Failed = Unit {0}
IsOutside Empty = ⊥
IsOutside (NotJournal at) = ⊥
IsOutside Memory = Unit {0}

-- this fault, or one from outside
abbrev pub IsFaultOr : RecoverFault → RecoverFault → Type 0
IsFaultOr fault other = (other ≡ fault) ⊎ IsOutside other
