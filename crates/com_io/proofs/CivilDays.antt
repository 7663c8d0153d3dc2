-- Days counted from 1970-01-01, and the digits of a stamp.
use Rattle.std.proofs.Common.{◌≡◌, inl, ℕ, ◌+◌, ◌/◌, ◌%◌, ◌<◌, ◌≤◌, true, List, [], ◌++◌, refl, sym, ap, ◌∙◌, arith, ℤ, pos, negsuc, ◌<ℤ◌, ◌≤ℤ◌}
use Rattle.std.specs.Prelude.{unsigned_abs, IfOk, IfSome, Option, Result, Ok, Err}
use Rattle.std.specs.Result.{result_ok}
use Rattle.std.specs.Char.{is_ascii_digit}
use Rattle.std.specs.Str.{all_ascii_digits}
use Rattle.std.proofs.lemmas.Bool.{le-leb}
use Rattle.std.proofs.lemmas.Bool.Decides.{nat_tests}
use Rattle.std.proofs.lemmas.Int.{by_lt_z}
use Rattle.com_text.specs.Digits.{in_digits, number}
use Rattle.com_text.proofs.Numerals.{number-in_digits}
use Rattle.com_msg.specs.Stamp.{IsMoment, Moment, has_form, is_within, moment, pair_at}
use Rattle.jiff_core.specs.declared.civil.date.Date.{Date}
use Rattle.jiff_core.specs.Calendar.{days_from_civil}
use Rattle.jiff_core.specs.Date.{IsYmd, epoch_day}
use Rattle.jiff_core.proofs.CalendarLemmas.{days_in_month_bounds}
use Rattle.jiff_core.proofs.DateLemmas.{civil, days_from_civil-max, epoch_day-lt, epoch_day_injective}
use Rattle.jiff_core.proofs.SignedLemmas.{signed_arith}
use Rattle.jiff_core.proofs.StandardFacts.{known_days}
use Rattle.com_io.specs.Civil.{IsStampOf, date_digits, last_day, time_digits}

-- the last day is 9999-12-31
last_day_is : days_from_civil (pos 9999) 12 31 ≡ pos last_day
last_day_is = days_from_civil-max

-- the first of January 1970 has the number 0
pub first_day : (d : Date) → IsYmd (pos 1970) (pos 1) (pos 1) d → epoch_day d ≡ pos 0
first_day d h =
    let month : d.month ≡ 1 = cc in
    let day : d.day ≡ 1 = cc in
    rw (h.0, month, day) known_days.0

-- no date from 1970 on has a negative year
pub year_from : (d : Date) (n : ℕ) → epoch_day d ≡ pos n → pos 0 ≤ℤ d.year
year_from d n e =
    by_lt_z d.year (pos 1970) (λ before. absurd (omega (arith, signed_arith, earlier before))) (λ later. omega (arith, signed_arith))
  where
    first : Date
    first = record { year = pos 1970; month = 1; day = 1; year_in = (omega (arith, signed_arith), omega (arith, signed_arith)); month_in = (omega arith, omega arith); day_in = (omega arith, omega arith) }

    earlier : d.year <ℤ pos 1970 → epoch_day d <ℤ pos 0
    earlier before = rw known_days.0 at (epoch_day-lt d first (inl before))

nat_year : (year : ℤ) → pos 0 ≤ℤ year → pos (unsigned_abs year) ≡ year
nat_year (pos n) h = refl
nat_year (negsuc n) h = absurd (omega (arith, signed_arith))

digit : (n : ℕ) → is_ascii_digit (48 + n % 10) ≡ true
digit n = grind (arith, nat_tests)

-- two digits before others
two_more : (n : ℕ) (rest : List ℕ) → all_ascii_digits rest ≡ true → all_ascii_digits (in_digits n 2 ++ rest) ≡ true
two_more n rest h = rw (digit (n / 10), digit n, h) refl

two : (n : ℕ) → all_ascii_digits (in_digits n 2) ≡ true
two n = two_more n [] refl

two_digits : (n : ℕ) → n < 100 → number (in_digits n 2) ≡ n
two_digits n short = number-in_digits n 2 short

within : (low high n : ℕ) → n < 100 → low ≤ n → n ≤ high → is_within low high (number (in_digits n 2)) ≡ true
within low high n short l h = rw (two_digits n short, le-leb low n l, le-leb n high h) refl

-- the digits of a date and a time are a stamp's
pub digits_are_moment : (year month day second hundredth : ℕ) → 1 ≤ month → month ≤ 12 → 1 ≤ day → day ≤ 31 → second < 86400
    → hundredth ≤ 99 → IsMoment (moment (date_digits year month day) (time_digits second hundredth))
digits_are_moment year month day second hundredth m1 m2 d1 d2 s h =
    let date = date_digits year month day in
    let time = time_digits second hundredth in
    let date_form : all_ascii_digits date ≡ true = two_more (year % 100) (in_digits month 2 ++ in_digits day 2) (two_more month (in_digits day 2) (two day)) in
    let time_form : all_ascii_digits time ≡ true =
    two_more (second / 3600) (in_digits (second / 60 % 60) 2 ++ (in_digits (second % 60) 2 ++ in_digits hundredth 2))
    (two_more (second / 60 % 60) (in_digits (second % 60) 2 ++ in_digits hundredth 2) (two_more (second % 60) (in_digits hundredth 2) (two hundredth))) in
    let form : has_form (moment date time) ≡ true = rw (date_form, time_form) refl in
    let months : is_within 1 12 (pair_at date 2) ≡ true = within 1 12 month (omega arith) m1 m2 in
    let days : is_within 1 31 (pair_at date 4) ≡ true = within 1 31 day (omega arith) d1 d2 in
    let hours : is_within 0 23 (pair_at time 0) ≡ true = within 0 23 (second / 3600) (omega arith) (omega arith) (omega arith) in
    let minutes : is_within 0 59 (pair_at time 2) ≡ true = within 0 59 (second / 60 % 60) (omega arith) (omega arith) (omega arith) in
    let seconds : is_within 0 59 (pair_at time 4) ≡ true = within 0 59 (second % 60) (omega arith) (omega arith) (omega arith) in
    rw (form, months, days, hours, minutes, seconds) refl

-- what the digits of a date and a second of its day are the stamp of
pub stamp_is : (d : Date) (second hundredth : ℕ) (m : Moment) → epoch_day d ≡ pos (second / 86400)
    → m ≡ moment (date_digits (unsigned_abs d.year) d.month d.day) (time_digits (second % 86400) hundredth) → IsStampOf second hundredth m
stamp_is d second hundredth m e is =
    let year : pos (unsigned_abs d.year) ≡ d.year = nat_year d.year (year_from d (second / 86400) e) in
    record {
      year = unsigned_abs d.year;
      month = d.month;
      day = d.day;
      on_calendar = rw year (civil d);
      numbered = rw year e;
      date = ap (λ (s : Moment). s.date) is;
      time = ap (λ (s : Moment). s.time) is;
    }

-- that they are a stamp's
pub date_is_moment : (d : Date) (second hundredth : ℕ) (date time : List ℕ) → date ≡ date_digits (unsigned_abs d.year) d.month d.day
    → time ≡ time_digits (second % 86400) hundredth → hundredth ≤ 99 → IsMoment (moment date time)
date_is_moment d second hundredth date time e f h =
    rw (e, f) (digits_are_moment (unsigned_abs d.year) d.month d.day (second % 86400) hundredth d.month_in.0 d.month_in.1 d.day_in.0 (omega (arith, d.day_in.1, days_in_month_bounds d.year d.month)) (omega arith) h)

-- A second and its hundredths have one stamp
pub one_stamp : (second hundredth : ℕ) (a b : Moment) → IsStampOf second hundredth a → IsStampOf second hundredth b → a ≡ b
one_stamp second hundredth a b h k =
    let same = epoch_day_injective (date_of h) (date_of k) (h.numbered ∙ sym k.numbered) in
    let year : h.year ≡ k.year = cc in
    let date : a.date ≡ b.date = rw (h.date, k.date, year, same.1, same.2) refl in
    let time : a.time ≡ b.time = h.time ∙ sym k.time in
    rw (date, time) refl
  where
    date_of : {m : Moment} → IsStampOf second hundredth m → Date
    date_of s = record { year = pos s.year; month = s.month; day = s.day; year_in = s.on_calendar.0; month_in = s.on_calendar.1; day_in = s.on_calendar.2 }

-- what is known of an Ok value, of the value that is left without its error
pub value_of : {X E : Type 0} (r : Result X E) (o : Option X) (P Q : X → Type 0) → o ≡ result_ok r → IfOk r P → ((x : X) → P x → Q x) → IfSome o Q
value_of (Ok x) o P Q e h f = rw e (f x h)
value_of (Err error) o P Q e h f = rw e tt
