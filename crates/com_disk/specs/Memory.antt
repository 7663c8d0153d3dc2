-- What a disk in memory makes of its writes and its syncs.
use Rattle.std.specs.Prelude.{◌≡◌, ℕ, ◌+◌, ◌-◌, ◌^◌, ◌≤◌, min, Bool, false, ◌==◌, ◌||◌, nat_le, Option, Some, None, List, [], ◌∷◌, ◌++◌, length, take, drop, map, if◌then◌else◌}
use Rattle.std.specs.List.{fold, list_any}
use Rattle.com_disk.specs.Disks.{IsTorn}
use Rattle.com_disk.specs.declared.written.Written.{Written}
use Rattle.com_disk.specs.declared.torn.Torn.{Torn}
use Rattle.com_disk.specs.declared.torn.Torn.TheVariants.{Old, New, Ones}

-- what a disk in memory keeps
pub record Memory : Type 0 where
  -- the bytes that were on it at first
  pub first : List ℕ
  -- each write that was done, in order
  pub writes : List Written
  -- how many calls there were
  pub calls : ℕ
  -- the numbers of the calls that fail
  pub failing : List ℕ
  -- how often it has failed
  pub faults : ℕ

-- an unused disk that holds these bytes
abbrev pub fresh : List ℕ → Memory
fresh bytes = record { first = bytes; writes = []; calls = 0; failing = []; faults = 0 }

-- these bytes at this place, in place of those that are there
abbrev pub put : List ℕ → ℕ → List ℕ → List ℕ
put old at bytes = take at old ++ bytes ++ drop (at + length bytes) old

-- where a write begins, which is at most the end
abbrev pub place : List ℕ → ℕ → ℕ
place old at = min at (length old)

-- after this many calls the write was made
abbrev pub is_made : ℕ → Written → Bool
is_made k write = nat_le write.call k

-- a sync among this many calls
abbrev pub is_by : ℕ → Option ℕ → Bool
is_by k None = false
is_by k (Some sync) = nat_le sync k

-- after this many calls the write lasts
abbrev pub is_lasting : ℕ → Written → Bool
is_lasting k write = is_by k write.synced

-- a write that is pending: its place and its bytes
abbrev pub Pending : Type 0
Pending = List (ℕ × List ℕ)

-- what lasts on the disk, and the writes that are pending, the newest first
pub record State : Type 0 where
  pub base : List ℕ
  pub pending : Pending

-- with one write more, after this many calls
abbrev pub after_write : ℕ → State → Written → State
after_write k s write =
    if is_lasting k write
    then record s { base = put s.base (place s.base write.at) write.bytes.items }
    else if is_made k write
    then record s { pending = (write.at, write.bytes.items) ∷ s.pending }
    else s

-- the state after this many calls
abbrev pub state_at : List ℕ → List Written → ℕ → State
state_at first writes k = fold (after_write k) (record { base = first; pending = [] }) writes

-- bytes after writes, of which each has written what is left of its bytes
abbrev pub written : (List ℕ → List ℕ) → List ℕ → Pending → List ℕ
written left base [] = base
written left base (write ∷ older) =
    put (written left base older) (place (written left base older) write.0) (left write.1)

-- what a read gives
abbrev pub content_of : State → List ℕ
content_of s = written (λ bytes. bytes) s.base s.pending

-- what a crash may leave
abbrev pub IsImage : List ℕ → Pending → List ℕ → Type 0
IsImage base [] image = image ≡ base
IsImage base (write ∷ older) image =
    (before : List ℕ) × IsImage base older before
    × IsTorn (place (written (λ bytes. bytes) base older) write.0) (length write.1) before image

abbrev pub IsImageOf : State → List ℕ → Type 0
IsImageOf s image = IsImage s.base s.pending image

-- the image that a crash leaves
abbrev pub image_of : Torn → State → List ℕ
image_of Old s = s.base
image_of New s = content_of s
image_of Ones s = written (map (λ _. 1)) s.base s.pending

-- the disk's state now
abbrev pub state_of : Memory → State
state_of m = state_at m.first m.writes m.calls

-- what a crash since then might have left
abbrev pub HadImage : Memory → ℕ → List ℕ → Type 0
HadImage m t image =
    (k : ℕ) × (t ≤ k) × (k ≤ m.calls) × IsImageOf (state_at m.first m.writes k) image

-- one more than a count, which stays at the last value of its type
abbrev pub next_count : ℕ → ℕ
next_count n = min (n + 1) (2 ^ 64 - 1)

-- the next call fails: it is listed, or cannot be counted
abbrev pub is_failing : Memory → Bool
is_failing m = (m.calls == 2 ^ 64 - 1) || list_any (λ k. k == next_count m.calls) m.failing

-- after a call that changed nothing but the counts
abbrev pub counted : Bool → Memory → Memory
counted failed m = record m {
  calls = next_count m.calls;
  faults = if failed then next_count m.faults else m.faults;
}

-- the call of this number is to fail
abbrev pub with_failing : ℕ → Memory → Memory
with_failing k m = record m { failing = m.failing ++ k ∷ [] }
