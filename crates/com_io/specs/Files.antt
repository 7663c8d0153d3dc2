-- What reading a whole file does to what a store shows.
use Rattle.std.specs.Prelude.{◌≡◌, ℕ, ◌+◌, ◌-◌, ◌≤◌, ◌⊎◌, Bool, true, false, List, length, take, Option, Some, IfSome, option_map}
use Rattle.std.specs.FinMap as map
use Rattle.com_io.specs.declared.files.TheConstants.{FILE_LIMIT}
use Rattle.com_io.specs.Faults.{Rose}
use Rattle.com_io.specs.Stores.{Shown, Contents, Opened, Closed, with_call}

-- at most this many bytes of a file are looked at
abbrev pub file_limit : ℕ
file_limit = FILE_LIMIT

-- a file is read to its end, or to one byte past the limit
abbrev pub bytes_read : ℕ → List ℕ → List ℕ
bytes_read limit file = take (limit + 1) file

-- the file was opened, so many of its bytes were read, and it was closed
abbrev pub with_reading : List ℕ → List ℕ → ℕ → Bool → Contents → Contents
with_reading name file read failed c =
    with_call (Closed (length file - read) failed) (with_call (Opened name true) c)

-- no fault was counted, and as many sources are open as before
pub record HasNoFault (before after : Shown) : Type 0 where
  pub pending : after.pending ≡ before.pending
  pub open_faults : after.open_faults ≡ before.open_faults
  pub read_faults : after.read_faults ≡ before.read_faults
  pub write_faults : after.write_faults ≡ before.write_faults

-- The file was opened, read and closed, and nothing else was asked for.
pub record IsRead (limit : ℕ) (name bytes : List ℕ) (before after : Shown) : Type 0 where
  pub contents : IfSome before.contents (λ c. (file : List ℕ)
      × (map.get c.files name ≡ Some file)
      × (bytes ≡ bytes_read limit file)
      × (after.contents ≡ Some (with_reading name file (length bytes) false c)))
  pub no_fault : HasNoFault before after

-- The file was asked for and not opened, and nothing else was asked for.
pub record IsUnopened (name : List ℕ) (before after : Shown) : Type 0 where
  pub contents : after.contents ≡ option_map (with_call (Opened name false)) before.contents
  pub pending : after.pending ≡ before.pending
  pub rose : Rose before.open_faults after.open_faults
  pub read_faults : after.read_faults ≡ before.read_faults
  pub write_faults : after.write_faults ≡ before.write_faults

-- Some bytes of the file were read, no more than one past the limit, and it was closed.
abbrev pub IsPartRead : ℕ → List ℕ → Bool → Option Contents → Option Contents → Type 0
IsPartRead limit name failed before after =
    IfSome before (λ c. (file : List ℕ) × (read : ℕ)
    × (map.get c.files name ≡ Some file)
    × (read ≤ limit + 1)
    × (after ≡ Some (with_reading name file read failed c)))

-- The file was opened, a read of it failed, it was closed, and nothing else was asked for.
pub record IsUnreadable (limit : ℕ) (name : List ℕ) (before after : Shown) : Type 0 where
  pub contents : IsPartRead limit name true before.contents after.contents
  pub pending : after.pending ≡ before.pending
  pub open_faults : after.open_faults ≡ before.open_faults
  pub rose : Rose before.read_faults after.read_faults
  pub write_faults : after.write_faults ≡ before.write_faults

-- The file was at most asked for and not opened, or it was opened, no read of it failed, and it was
-- closed. Nothing else was asked for.
pub record IsAbandoned (limit : ℕ) (name : List ℕ) (before after : Shown) : Type 0 where
  pub contents : (after.contents ≡ before.contents)
      ⊎ ((after.contents ≡ option_map (with_call (Opened name false)) before.contents)
      ⊎ IsPartRead limit name false before.contents after.contents)
  pub no_fault : HasNoFault before after
