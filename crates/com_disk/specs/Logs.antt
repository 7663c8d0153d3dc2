-- What the bytes of a disk stand for, and what is known of a log on a disk.
use Rattle.std.specs.Prelude.{◌≡◌, ◌≢◌, ◌⊎◌, ℕ, ◌+◌, List, [], ◌∷◌, ◌++◌, length, codes, Bool}
use Rattle.std.specs.List.{flat_map, sum_by}
use Rattle.std.specs.Int.{to_be_bytes, w32}
use Rattle.com_events.specs.declared.entry.Entry.{Entry}
use Rattle.com_journal.specs.Journals.{AreLines}
use Rattle.com_journal.specs.Versions.{IsVersion}
use Rattle.com_disk.specs.Disks.{Only}

-- the eight bytes with which a log begins
abbrev pub header : ℕ → List ℕ
header version = codes "MCSDISK" ++ (48 + version) ∷ []

-- a line's length in four bytes, the most significant first, and the line
abbrev pub record_of : List ℕ → List ℕ
record_of line = to_be_bytes w32 (length line) ++ line

-- the record of each line, after an open gate
abbrev pub records : List (List ℕ) → List ℕ
records lines = flat_map (λ line. 1 ∷ record_of line) lines

-- the header, and the records
abbrev pub log_bytes : ℕ → List (List ℕ) → List ℕ
log_bytes version lines = header version ++ records lines

-- after these bytes comes a gate that is not open, and then any bytes
pub record IsShut (front image : List ℕ) : Type 0 where
  pub gate : ℕ
  pub rest : List ℕ
  pub closed : gate ≢ 1
  pub bytes : image ≡ front ++ gate ∷ rest

-- the image stands for the entries: a header, the record of each entry's line, and a closed gate
pub record Stands (image : List ℕ) (version : ℕ) (entries : List Entry) : Type 0 where
  pub known : IsVersion version
  pub lines : List (List ℕ)
  pub are_lines : AreLines entries lines
  pub shut : IsShut (log_bytes version lines) image

-- the image stands for the entries, or for them and one more
abbrev pub IsBeforeOrAfter : ℕ → List Entry → Entry → List ℕ → Type 0
IsBeforeOrAfter version entries entry image =
    Stands image version entries ⊎ Stands image version (entries ++ entry ∷ [])

-- a log of these entries has this many bytes: 9, and for each entry five more than its line
abbrev pub IsLength : List Entry → ℕ → Type 0
IsLength entries bytes =
    (lines : List (List ℕ)) × AreLines entries lines
    × (bytes ≡ 9 + sum_by (λ line. length line + 5) lines)

-- what is known of a log without its disk
pub record Log : Type 0 where
  pub version : ℕ
  -- how many bytes it has, with its closed gate
  pub bytes : ℕ
  -- whether an append has answered Failed
  pub failed : Bool

-- the log is on the disk and has these entries, and nothing is pending
pub record IsAt {D : Type 0} (content : D → List ℕ) (images : D → List ℕ → Type 0)
    (log : Log) (disk : D) (entries : List Entry) : Type 0 where
  pub stands : Stands (content disk) log.version entries
  pub length : IsLength entries log.bytes
  pub durable : Only (content disk) (images disk)
