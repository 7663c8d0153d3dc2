-- The date and time of a second that is counted from 1970-01-01, in UTC.
use Rattle.std.specs.Prelude.{◌≡◌, ℕ, ◌/◌, ◌%◌, ◌≤◌, List, ◌++◌, pos}
use Rattle.com_text.specs.Digits.{in_digits}
use Rattle.com_msg.specs.Stamp.{Moment}
use Rattle.jiff_core.specs.Calendar.{IsCivilDate, days_from_civil}

-- the number of the last day that has a date: 9999-12-31
abbrev pub last_day : ℕ
last_day = 2932896

-- the second is of a day that has a date
abbrev pub HasDay : ℕ → Type 0
HasDay second = second / 86400 ≤ last_day

-- YYMMDD
abbrev pub date_digits : ℕ → ℕ → ℕ → List ℕ
date_digits year month day = in_digits (year % 100) 2 ++ (in_digits month 2 ++ in_digits day 2)

-- HHMMSSTT, of a second of a day and its hundredths
abbrev pub time_digits : ℕ → ℕ → List ℕ
time_digits second hundredth =
    in_digits (second / 3600) 2
    ++ (in_digits (second / 60 % 60) 2 ++ (in_digits (second % 60) 2 ++ in_digits hundredth 2))

-- The stamp of a second and its hundredths: the calendar's date of the second's day, and the time
-- of day that the second has.
pub record IsStampOf (second hundredth : ℕ) (stamp : Moment) : Type 0 where
  pub year : ℕ
  pub month : ℕ
  pub day : ℕ
  pub on_calendar : IsCivilDate (pos year) month day
  pub numbered : days_from_civil (pos year) month day ≡ pos (second / 86400)
  pub date : stamp.date ≡ date_digits year month day
  pub time : stamp.time ≡ time_digits (second % 86400) hundredth
