-- The moment at which a message was recognised: MESSAGE DATE and MESSAGE TIME of the input CD.
use Rattle.std.specs.Prelude.{ℕ, ◌+◌, Bool, ◌&&◌, ◌==◌, nat_le, IsTrue, List, length, slice_range}
use Rattle.std.specs.Str.{all_ascii_digits}
use Rattle.com_text.specs.Digits.{number}

-- YYMMDD and HHMMSSTT, each in digits
pub record Moment : Type 0 where
  pub date : List ℕ
  pub time : List ℕ

-- a date with a time
abbrev pub moment : List ℕ → List ℕ → Moment
moment date time = record { date = date; time = time }

-- two digits of a date or a time, as a number
abbrev pub pair_at : List ℕ → ℕ → ℕ
pair_at digits at = number (slice_range digits at (at + 2))

-- from one number to another
abbrev pub is_within : ℕ → ℕ → ℕ → Bool
is_within low high n = nat_le low n && nat_le n high

-- six and eight digits
abbrev pub has_form : Moment → Bool
has_form m =
    ((length m.date == 6 && length m.time == 8) && all_ascii_digits m.date)
    && all_ascii_digits m.time

-- the month is 01 to 12 and the day 01 to 31
abbrev pub is_date : List ℕ → Bool
is_date date = is_within 1 12 (pair_at date 2) && is_within 1 31 (pair_at date 4)

-- the hour is at most 23, the minute and the second at most 59
abbrev pub is_time : List ℕ → Bool
is_time time =
    (is_within 0 23 (pair_at time 0) && is_within 0 59 (pair_at time 2))
    && is_within 0 59 (pair_at time 4)

-- digits that are a date and a time
abbrev pub is_moment : Moment → Bool
is_moment m = has_form m && (is_date m.date && is_time m.time)

-- a date and a time
abbrev pub IsMoment : Moment → Type 0
IsMoment m = IsTrue (is_moment m)
