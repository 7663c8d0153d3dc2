-- What a store holds and which calls were made on it, where it tells.
use Rattle.std.specs.Prelude.{◌≡◌, ℕ, ◌<◌, ◌≤◌, Bool, true, false, nat_lt, List, [], ◌∷◌, ◌++◌, length, take, filter_map, Option, Some, None, IsSome, IfSome, option_map, unwrap_or, if◌then◌else◌, codes, ◌⊎◌, Result, Ok, Err}
use Rattle.std.specs.Ordering.{nat_cmp}
use Rattle.std.specs.Cmp.Lexicographic.{slice_cmp}
use Rattle.std.specs.Str.{bytes_eq}
use Rattle.std.specs.FinMap.{FinMap}
use Rattle.std.specs.FinMap as map
use Rattle.com_io.specs.declared.store.StoreFault.{StoreFault}
use Rattle.com_io.specs.declared.store.StoreFault.TheVariants.{Failed, Memory}
use Rattle.com_io.specs.Faults.{Rose}

-- contents by name
abbrev pub Named : Type 0
Named = FinMap (slice_cmp nat_cmp) (List ℕ)

-- a call that was made on a store
pub data StoreCall : Type 0 where
  -- the opening of this name, and whether it answered Ok
  Opened : List ℕ → Bool → StoreCall
  -- the closing of a source: how many bytes it had left, and whether a read of it had failed
  Closed : ℕ → Bool → StoreCall
  -- the write of these bytes under this name, and whether it answered Ok
  Wrote : List ℕ → List ℕ → Bool → StoreCall

-- The files that can be read, what was written, and all calls so far, in order. The list of calls
-- only grows.
pub record Contents : Type 0 where
  pub files : Named
  pub outs : Named
  pub calls : List StoreCall

-- the name that a call asked to open
abbrev pub opened_name : StoreCall → Option (List ℕ)
opened_name (Opened name ok) = Some name
opened_name _ = None

-- the names that were asked for, in order
abbrev pub openings : List StoreCall → List (List ℕ)
openings calls = filter_map opened_name calls

-- what a closed source had left, and whether it had failed
abbrev pub closing : StoreCall → Option (ℕ × Bool)
closing (Closed left failed) = Some (left, failed)
closing _ = None

-- how sources were closed, in order
abbrev pub closings : List StoreCall → List (ℕ × Bool)
closings calls = filter_map closing calls

-- what was to be written under a name
pub record Writing : Type 0 where
  pub name : List ℕ
  pub bytes : List ℕ

-- what a call asked to write
abbrev pub writing_asked : StoreCall → Option Writing
writing_asked (Wrote name bytes ok) = Some (record { name = name; bytes = bytes })
writing_asked _ = None

-- the writes that were asked for, in order
abbrev pub writings : List StoreCall → List Writing
writings calls = filter_map writing_asked calls

-- What a store shows at one moment. What it holds may be untold, and then nothing is said of it.
pub record Shown : Type 0 where
  pub contents : Option Contents
  -- how many sources are open
  pub pending : ℕ
  -- how often an opening has failed, how many closed sources had failed, and how often a writing
  -- has failed
  pub open_faults : ℕ
  pub read_faults : ℕ
  pub write_faults : ℕ

-- The source has the bytes of the file of this name, and has not failed. A missing file is not
-- opened.
pub record IsOpened (held : Option Contents) (name : List ℕ) (left : Option (List ℕ))
    (faults : ℕ) : Type 0 where
  pub bytes : IfSome held (λ c. (left ≡ map.get c.files name) × IsSome left)
  pub unfailed : faults ≡ 0

-- one more call was made
abbrev pub with_call : StoreCall → Contents → Contents
with_call call c = record c { calls = c.calls ++ call ∷ [] }

-- What became of an opening. It is told; only one that wanted memory may be untold.
abbrev pub IsOpening : {S : Type 0} → List ℕ → Result S StoreFault → Option Contents
    → Option Contents → Type 0
IsOpening name (Ok _) before after = after ≡ option_map (with_call (Opened name true)) before
IsOpening name (Err Failed) before after = after ≡ option_map (with_call (Opened name false)) before
IsOpening name (Err Memory) before after =
    (after ≡ before) ⊎ (after ≡ option_map (with_call (Opened name false)) before)

-- of a source that does not tell what it has left, the number is 0
abbrev pub closing_of : Option (List ℕ) → ℕ → StoreCall
closing_of left faults = Closed (unwrap_or (option_map length left) 0) (nat_lt 0 faults)

-- the count of failed reads rises at a closing exactly where the source had failed
pub record CountsClosing (faults before now : ℕ) : Type 0 where
  pub later : before ≤ now
  pub rose : 0 < faults → Rose before now
  pub kept : faults ≡ 0 → now ≡ before

-- standard output, as a name
abbrev pub output_name : List ℕ
output_name = codes "-"

-- what was written to standard output grows at its end; any other content is replaced
abbrev pub outs_with_output : List ℕ → List ℕ → Named → Named
outs_with_output name bytes outs =
    if bytes_eq name output_name
    then map.insert outs name (unwrap_or (map.get outs name) [] ++ bytes)
    else map.insert outs name bytes

-- a write was asked for, and this part of its bytes was written
abbrev pub with_written : List ℕ → List ℕ → List ℕ → Bool → Contents → Contents
with_written name bytes part ok c =
    with_call (Wrote name bytes ok) (record c { outs = outs_with_output name part c.outs })

-- a prefix of the bytes, of this length, was written
abbrev pub with_part : List ℕ → List ℕ → ℕ → Contents → Contents
with_part name bytes n c = with_written name bytes (take n bytes) false c

-- the bytes were written
abbrev pub with_output : List ℕ → List ℕ → Contents → Contents
with_output name bytes c = with_written name bytes bytes true c

-- the write is told, and wrote nothing or a front of the bytes
abbrev pub IsPartWritten : List ℕ → List ℕ → Option Contents → Option Contents → Type 0
IsPartWritten name bytes before after =
    (after ≡ option_map (with_call (Wrote name bytes false)) before)
    ⊎ ((n : ℕ) × (after ≡ option_map (with_part name bytes n) before))

-- A write that was not done is told. Only one that wanted memory, and wrote nothing, may be untold.
abbrev pub IsUndone : StoreFault → List ℕ → List ℕ → Option Contents → Option Contents → Type 0
IsUndone Failed name bytes before after = IsPartWritten name bytes before after
IsUndone Memory name bytes before after =
    (after ≡ before) ⊎ IsPartWritten name bytes before after

-- what became of a write
abbrev pub IsWriting : {T : Type 0} → List ℕ → List ℕ → Result T StoreFault → Option Contents
    → Option Contents → Type 0
IsWriting name bytes (Ok _) before after = after ≡ option_map (with_output name bytes) before
IsWriting name bytes (Err fault) before after = IsUndone fault name bytes before after
