-- What a call leaves of a disk in memory, for the functions that make one.
use Rattle.std.specs.Prelude.{◌≡◌, ◌↔◌, ℕ, ◌≤◌, List, [], length, map, Some, IfSome}
use Rattle.std.specs.Option.{option_or}
use Rattle.std.specs.List.{fold, AllByRecursion}
use Rattle.com_disk.specs.Disks.{Elapses, Follows, IsTorn, Only}
use Rattle.com_disk.specs.Memory.{Memory, IsImageOf, HadImage, content_of, state_of, put, place}
use Rattle.com_disk.specs.declared.written.Written.{Written}
use Rattle.com_disk.specs.declared.torn.Torn.{Torn}
use Rattle.com_disk.specs.declared.torn.Torn.TheVariants.{Old, New, Ones}

-- content and images stay, and time goes on
pub record IsStill (old new : Memory) : Type 0 where
  pub content : content_of (state_of new) ≡ content_of (state_of old)
  pub images : (c : List ℕ) → IsImageOf (state_of new) c ↔ IsImageOf (state_of old) c
  pub time : Elapses old.calls new.calls (HadImage old) (HadImage new) (IsImageOf (state_of new))

-- these bytes were written at this place, and no fault was counted
pub record HasWritten (at : ℕ) (bytes : List ℕ) (old new : Memory) : Type 0 where
  pub content : content_of (state_of new)
      ≡ put (content_of (state_of old)) (place (content_of (state_of old)) at) bytes
  pub images : Follows (IsTorn (place (content_of (state_of old)) at) (length bytes))
      (IsImageOf (state_of old)) (IsImageOf (state_of new))
  pub time : Elapses old.calls new.calls (HadImage old) (HadImage new) (IsImageOf (state_of new))
  pub faults : new.faults ≡ old.faults

-- each write was made last, and no fault was counted
pub record HasSynced (old new : Memory) : Type 0 where
  pub content : content_of (state_of new) ≡ content_of (state_of old)
  pub durable : Only (content_of (state_of old)) (IsImageOf (state_of new))
  pub images : (c : List ℕ) → IsImageOf (state_of new) c → IsImageOf (state_of old) c
  pub time : Elapses old.calls new.calls (HadImage old) (HadImage new) (IsImageOf (state_of new))
  pub faults : new.faults ≡ old.faults

-- all writes, one after another
abbrev pub all_put : List ℕ → List Written → List ℕ
all_put first writes = fold (λ bytes write. put bytes (place bytes write.at) write.bytes.items) first writes

-- the numbers of a write are at most this one
abbrev pub IsNumbered : ℕ → Written → Type 0
IsNumbered calls write = (write.call ≤ calls) × IfSome write.synced (λ sync. sync ≤ calls)

-- what holds of the fields of a disk in memory: a read gives the writes, one after another
pub record IsKept (first bytes : List ℕ) (writes : List Written) (calls : ℕ) : Type 0 where
  pub numbers : AllByRecursion (IsNumbered calls) writes
  pub replayed : bytes ≡ all_put first writes
  pub read : bytes ≡ content_of (state_of (record { first = first; writes = writes; calls = calls; failing = []; faults = 0 }))

-- what a crash leaves of bytes with a write that is pending
abbrev pub torn_put : Torn → List ℕ → ℕ → List ℕ → List ℕ
torn_put Old old at bytes = old
torn_put New old at bytes = put old (place old at) bytes
torn_put Ones old at bytes = put old (place old at) (map (λ _. 1) bytes)

-- made last by this sync, if it did not last before
abbrev pub synced_by : ℕ → Written → Written
synced_by sync write = record write { synced = option_or write.synced (Some sync) }
