-- Calls that are listed to fail, by their numbers. The first call has the number 1.
use Rattle.std.specs.Prelude.{ℕ, ◌+◌, ◌-◌, ◌^◌, Bool, ◌==◌, nat_lt, if◌then◌else◌, List}
use Rattle.std.specs.List.{list_any}

-- one more than a count, which stays at the last value of its type
abbrev pub next_count : ℕ → ℕ
next_count n = if nat_lt n (2 ^ 64 - 1) then n + 1 else n

-- whether the call after so many is listed
abbrev pub is_next_listed : ℕ → List ℕ → Bool
is_next_listed made listed = list_any (λ k. k == next_count made) listed
