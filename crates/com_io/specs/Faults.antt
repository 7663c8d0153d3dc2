-- Counts of faults, which never fall, and what they say of a call's answer.
use Rattle.std.specs.Prelude.{◌≡◌, ℕ, ◌+◌, ◌-◌, ◌^◌, ◌≤◌, min}

-- the count has risen, or stands at the last value of its type
abbrev pub Rose : ℕ → ℕ → Type 0
Rose before now = min (before + 1) (2 ^ 64 - 1) ≤ now

-- A fault is answered only where the count rose in the call, and a call that is done leaves the
-- count.
pub record HasCause (before now : ℕ) (done failed : Type 0) : Type 0 where
  pub later : before ≤ now
  pub rose : failed → Rose before now
  pub kept : done → now ≡ before
