-- Pictures unit by unit, with counts up to one past the largest.
use Rattle.std.proofs.Common.{◌≡◌, ◌<◌, ℕ, zero, suc, ◌+◌, ◌-◌, ◌*◌, Bool, true, false, ◌&&◌, nat_lt, List, [], ◌∷◌, length, take, drop, get_or, Option, Some, None, refl, sym, ap, ◌∙◌, arith, drop-cons}
use Rattle.std.proofs.lemmas.Grind.{common_steps}
use Rattle.std.proofs.lemmas.Bool.Decides.{nat_tests}
use Rattle.com_text.specs.Name.{is_digit}
use Rattle.std.specs.Prelude.{min, option_map, take_while, ◌==◌}
use Rattle.std.specs.List.{list_all, prefix_len}
use Rattle.std.proofs.lemmas.List.Sums.{take_while-cons}
use Rattle.std.proofs.Math.Bool.{cond}
use Rattle.std.specs.Str.Parse.{digits_value_after}
use Rattle.std.specs.Char.{digit_value}
use Rattle.cob_data.specs.Pictures.{characters, unit_by}

-- a number followed no further than a limit has the same end below the limit
pub followed : (limit n : ℕ) (digits : List ℕ) → min (digits_value_after 10 (min n limit) digits) limit ≡ min (digits_value_after 10 n digits) limit
followed limit n [] = omega arith
followed limit n (digit ∷ digits) =
    let here : min (min n limit * 10 + digit_value digit) limit ≡ min (n * 10 + digit_value digit) limit = omega arith in
    sym (followed limit (min n limit * 10 + digit_value digit) digits)
    ∙ ap (λ m. min (digits_value_after 10 m digits) limit) here
    ∙ followed limit (n * 10 + digit_value digit) digits

-- the bytes of a count are passed over
pub passed : (unit n : ℕ) (bytes : List ℕ) → characters unit n bytes ≡ characters unit 0 (drop n bytes)
passed unit zero bytes = refl
passed unit (suc n) [] = refl
passed unit (suc n) (byte ∷ bytes) = passed unit n bytes

-- what is left, with what was counted before it, up to a limit
abbrev pub with_before : ℕ → ℕ → Option ℕ → Option ℕ
with_before limit total left = option_map (λ n. min (total + n) limit) left

summed : (limit total count : ℕ) (left : Option ℕ) → with_before limit (min (total + min count limit) limit) left ≡ with_before limit total (option_map (λ n. count + n) left)
summed limit total count None = refl
summed limit total count (Some n) = ap Some (omega arith)

-- a unit with its count is taken
pub unit_taken : (limit total unit byte : ℕ) (behind : List ℕ) → (byte == unit) ≡ true
    → with_before limit (min (total + min (unit_by behind).0 limit) limit) (characters unit 0 (drop (unit_by behind).1 behind)) ≡ with_before limit total (characters unit 0 (byte ∷ behind))
unit_taken limit total unit byte behind h =
    rw h (rw (sym (passed unit (unit_by behind).1 behind)) (summed limit total (unit_by behind).0 (characters unit (unit_by behind).1 behind)))

pub other_byte : (limit total unit byte : ℕ) (behind : List ℕ) → (byte == unit) ≡ false → with_before limit total (characters unit 0 (byte ∷ behind)) ≡ None
other_byte limit total unit byte behind h = rw h refl

pub from_nothing : (limit : ℕ) (left : Option ℕ) → with_before limit 0 left ≡ option_map (λ n. min n limit) left
from_nothing limit None = refl
from_nothing limit (Some n) = ap Some (omega arith)

-- THE BYTES THAT PASS A TEST, FROM THE FRONT

pub taken : (k : ℕ) (bytes : List ℕ) → take (length (take k bytes)) bytes ≡ take k bytes
taken zero bytes = refl
taken (suc k) [] = refl
taken (suc k) (byte ∷ bytes) = ap (λ xs. byte ∷ xs) (taken k bytes)

pub front_taken : (test : ℕ → Bool) (bytes : List ℕ) → take (length (take_while test bytes)) bytes ≡ take_while test bytes
front_taken test bytes = taken (prefix_len test bytes) bytes

pass_by : (test : ℕ → Bool) (b : Bool) (byte : ℕ) (bytes : List ℕ) → test byte ≡ b → list_all test (take_while test bytes) ≡ true → list_all test (cond b (byte ∷ take_while test bytes) []) ≡ true
pass_by test true byte bytes h k = rw h k
pass_by test false byte bytes h k = refl

pub all_pass : (test : ℕ → Bool) (bytes : List ℕ) → list_all test (take_while test bytes) ≡ true
all_pass test [] = refl
all_pass test (byte ∷ bytes) = rw (take_while-cons test byte bytes) (pass_by test (test byte) byte bytes refl (all_pass test bytes))

pub front_digits : (n : ℕ) (bytes front : List ℕ) → front ≡ take n bytes → n ≡ length (take_while is_digit bytes) → list_all is_digit front ≡ true
front_digits n bytes front at_front size = rw at_front (rw size (rw (front_taken is_digit bytes) (all_pass is_digit bytes)))

-- ONE TURN OF A LOOP

same_number : (n : ℕ) → (n == n) ≡ true
same_number n = grind (arith, common_steps, nat_tests)

pub unit_next : (limit total next count counted unit byte : ℕ) (rest behind back : List ℕ) (whole : Option ℕ) → rest ≡ byte ∷ behind → byte ≡ unit → count ≡ min (unit_by behind).0 limit → counted ≡ (unit_by behind).1
    → next ≡ min (total + count) limit → back ≡ drop counted behind → with_before limit total (characters unit 0 rest) ≡ whole → with_before limit next (characters unit 0 back) ≡ whole
unit_next limit total next count counted unit byte rest behind back whole front is_unit counts bytes sum at_back left =
    let test : (byte == unit) ≡ true = rw is_unit (same_number unit) in
    let step = unit_taken limit total unit byte behind test in
    rw sum (rw counts (rw at_back (rw bytes (step ∙ ap (λ xs. with_before limit total (characters unit 0 xs)) (sym front) ∙ left))))

digit_by_tests : (d : ℕ) → nat_lt d 48 ≡ false → nat_lt d 58 ≡ true → digit_value d ≡ d - 48
digit_by_tests d low high = rw low (rw high refl)

digit_is : (d : ℕ) → is_digit d ≡ true → digit_value d ≡ d - 48
digit_is d h =
    let low : nat_lt d 48 ≡ false = grind (arith, common_steps, nat_tests) in
    let high : nat_lt d 58 ≡ true = grind (arith, common_steps, nat_tests) in
    digit_by_tests d low high

first_of : (a b : Bool) → (a && b) ≡ true → a ≡ true
first_of true b h = refl
first_of false b h = h

others_of : (a b : Bool) → (a && b) ≡ true → b ≡ true
others_of true b h = h
others_of false b h = cc

digit_at : (digits : List ℕ) (i : ℕ) → i < length digits → list_all is_digit digits ≡ true → is_digit (get_or digits i 0) ≡ true
digit_at [] i within h = absurd (omega (arith, within))
digit_at (d ∷ ds) zero within h = first_of (is_digit d) (list_all is_digit ds) h
digit_at (d ∷ ds) (suc i) within h = digit_at ds i (omega (arith, within)) (others_of (is_digit d) (list_all is_digit ds) h)

pub digit_next : (limit n value next whole : ℕ) (digits : List ℕ) (i : ℕ) → i < length digits → list_all is_digit digits ≡ true → value ≡ get_or digits i 0 - 48 → next ≡ min (10 * n + value) limit
    → min (digits_value_after 10 n (drop i digits)) limit ≡ whole → min (digits_value_after 10 next (drop (i + 1) digits)) limit ≡ whole
digit_next limit n value next whole digits i within all_digits at_place sum left =
    let later : i + 1 ≡ suc i = omega arith in
    let digit : value ≡ digit_value (get_or digits i 0) = at_place ∙ sym (digit_is (get_or digits i 0) (digit_at digits i within all_digits)) in
    let sums : 10 * n + value ≡ n * 10 + digit_value (get_or digits i 0) = omega (arith, digit) in
    let here : next ≡ min (n * 10 + digit_value (get_or digits i 0)) limit = sum ∙ ap (λ m. min m limit) sums in
    rw later (rw here (followed limit (n * 10 + digit_value (get_or digits i 0)) (drop (suc i) digits)
    ∙ ap (λ ds. min (digits_value_after 10 n ds) limit) (sym (drop-cons digits i 0 within)) ∙ left))
