-- What a store in memory is, and what each call makes of it.
use Rattle.std.specs.Prelude.{◌≡◌, ℕ, ◌+◌, ◌-◌, Bool, true, false, ◌||◌, ◌==◌, nat_lt, if◌then◌else◌, List, [], ◌∷◌, ◌++◌, length, find, Option, Some, is_none, option_map, unwrap_or, Result, Ok, Err}
use Rattle.std.specs.List.{list_any}
use Rattle.std.specs.FinMap as map
use Rattle.com_io.specs.declared.store.StoreFault.{StoreFault}
use Rattle.com_io.specs.declared.store.StoreFault.TheVariants.{Failed, Memory}
use Rattle.com_io.specs.declared.memory_store.FailingWrite.{FailingWrite}
use Rattle.com_io.specs.Listed.{next_count}
use Rattle.com_io.specs.Reading.{Reading}
use Rattle.com_io.specs.Stores.{Named, Contents, Opened, openings, writings, with_call, closing_of, with_written, with_part, with_output}

-- what it holds, how many of its sources are open, how often a call has failed, and which calls
-- fail: openings and writes by number, and reads by number for each file's name
pub record Shelf : Type 0 where
  pub held : Contents
  pub pending : ℕ
  pub open_faults : ℕ
  pub read_faults : ℕ
  pub write_faults : ℕ
  pub failing_opens : List ℕ
  pub failing_writes : List FailingWrite
  pub failing_reads : Named

-- nothing was put into it, and no call was made or listed
abbrev pub empty_shelf : Shelf
empty_shelf = record {
  held = record {
    files = map.empty;
    outs = map.empty;
    calls = [];
  };
  pending = 0;
  open_faults = 0;
  read_faults = 0;
  write_faults = 0;
  failing_opens = [];
  failing_writes = [];
  failing_reads = map.empty;
}

-- a file of this name can be opened
abbrev pub with_file : List ℕ → List ℕ → Shelf → Shelf
with_file name bytes s =
    record s { held = record s.held { files = map.insert s.held.files name bytes } }

-- the k-th opening fails
abbrev pub with_failing_open : ℕ → Shelf → Shelf
with_failing_open k s = record s { failing_opens = s.failing_opens ++ k ∷ [] }

-- the k-th write fails, after so many of its bytes
abbrev pub with_failing_write : ℕ → ℕ → Shelf → Shelf
with_failing_write k keep s =
    record s { failing_writes = s.failing_writes ++ record { number = k; keep = keep } ∷ [] }

-- the k-th read of each source of this name fails
abbrev pub with_failing_read : List ℕ → ℕ → Shelf → Shelf
with_failing_read name k s = record s {
  failing_reads =
      map.insert s.failing_reads name (unwrap_or (map.get s.failing_reads name) [] ++ k ∷ []);
}

-- an opening fails where it is listed, or where there is no such file
abbrev pub is_failing_open : List ℕ → Shelf → Bool
is_failing_open name s =
    list_any (λ k. k == length (openings s.held.calls) + 1) s.failing_opens
    || is_none (map.get s.held.files name)

abbrev pub after_open : {S : Type 0} → List ℕ → Result S StoreFault → Shelf → Shelf
after_open name (Ok _) s =
    record s { held = with_call (Opened name true) s.held; pending = s.pending + 1 }
after_open name (Err Failed) s = record s {
  held = with_call (Opened name false) s.held;
  open_faults = next_count s.open_faults;
}
after_open name (Err Memory) s = s

-- The source has the bytes of the file of this name. Its failing reads are those that are listed
-- for the name.
pub record IsNewReading (name : List ℕ) (s : Shelf) (source : Reading) : Type 0 where
  pub bytes : map.get s.held.files name ≡ Some source.left
  pub unread : source.reads ≡ 0
  pub unfailed : source.faults ≡ 0
  pub failing : source.failing ≡ unwrap_or (map.get s.failing_reads name) []

abbrev pub after_close : Reading → Shelf → Shelf
after_close r s = record s {
  held = with_call (closing_of (Some r.left) r.faults) s.held;
  pending = s.pending - 1;
  read_faults = if nat_lt 0 r.faults then next_count s.read_faults else s.read_faults;
}

-- how many bytes the next write writes before it fails, if it is listed
abbrev pub next_keep : Shelf → Option ℕ
next_keep s =
    option_map (λ f. f.keep)
    (find (λ f. f.number == length (writings s.held.calls) + 1) s.failing_writes)

-- a part of the bytes of a write was written
abbrev pub with_write : List ℕ → List ℕ → List ℕ → Bool → Shelf → Shelf
with_write name bytes part ok s =
    record s { held = with_written name bytes part ok s.held }

abbrev pub after_write : {T : Type 0} → List ℕ → List ℕ → Result T StoreFault → Shelf → Shelf
after_write name bytes (Ok _) s = record s { held = with_output name bytes s.held }
after_write name bytes (Err Failed) s = record s {
  held = with_part name bytes (unwrap_or (next_keep s) 0) s.held;
  write_faults = next_count s.write_faults;
}
after_write name bytes (Err Memory) s = s
