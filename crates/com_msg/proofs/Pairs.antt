-- The digits of dates and times.
use Rattle.std.proofs.Common.{◌≡◌, ℕ, zero, suc, ◌+◌, ◌-◌, ◌≤◌, ◌&&◌, ◌==◌, true, List, [], ◌∷◌, length, take, drop, refl, arith, length-drop}
use Rattle.std.proofs.Math.ListN.{length-take}
use Rattle.std.specs.Char.{is_ascii_digit}
use Rattle.std.specs.List.{slice_range}
use Rattle.std.specs.Str.{all_ascii_digits}
use Rattle.std.proofs.lemmas.Bool.{and_parts}
use Rattle.com_text.specs.Digits.{IsNumber}
use Rattle.com_msg.specs.Stamp.{Moment, IsMoment, has_form}

digits-take : (n : ℕ) (xs : List ℕ) → all_ascii_digits xs ≡ true → all_ascii_digits (take n xs) ≡ true
digits-take zero xs h = refl
digits-take (suc n) [] h = refl
digits-take (suc n) (x ∷ xs) h =
    let (here, rest) = and_parts (is_ascii_digit x) (all_ascii_digits xs) h in
    rw (here, digits-take n xs rest)

digits-drop : (n : ℕ) (xs : List ℕ) → all_ascii_digits xs ≡ true → all_ascii_digits (drop n xs) ≡ true
digits-drop zero xs h = h
digits-drop (suc n) [] h = refl
digits-drop (suc n) (x ∷ xs) h =
    let (here, rest) = and_parts (is_ascii_digit x) (all_ascii_digits xs) h in
    digits-drop n xs rest

-- the two digits at a place write a number
pub pair-number : (xs : List ℕ) (at : ℕ) → at + 2 ≤ length xs → all_ascii_digits xs ≡ true → IsNumber (slice_range xs at (at + 2))
pair-number xs at within digits =
    let two : length (slice_range xs at (at + 2)) ≡ 2 = simp (length-take, length-drop) (omega arith) in
    record {
      some = omega arith;
      short = omega arith;
      digits = digits-take (at + 2 - at) (drop at xs) (digits-drop at xs digits);
    }

pub date_digits : (m : Moment) → IsMoment m → all_ascii_digits m.date ≡ true
date_digits m h =
    let form = (and_parts (has_form m) _ h).0 in
    let digits = (and_parts ((length m.date == 6 && length m.time == 8) && all_ascii_digits m.date) _ form).0 in
    (and_parts (length m.date == 6 && length m.time == 8) _ digits).1

pub time_digits : (m : Moment) → IsMoment m → all_ascii_digits m.time ≡ true
time_digits m h =
    let form = (and_parts (has_form m) _ h).0 in
    (and_parts ((length m.date == 6 && length m.time == 8) && all_ascii_digits m.date) _ form).1
