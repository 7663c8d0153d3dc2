-- Digits and the numbers that they write.
use Rattle.std.proofs.Common.{◌≡◌, ℕ, zero, suc, ◌+◌, ◌-◌, ◌*◌, ◌/◌, ◌%◌, ◌^◌, ◌<◌, ◌≤◌, true, List, length, get_or, take, refl, sym, ap, ◌∙◌, arith}
use Rattle.std.specs.Str.{all_ascii_digits}
use Rattle.std.specs.Str.Parse.{AllDigits}
use Rattle.std.specs.Char.{digit_value}
use Rattle.std.proofs.lemmas.Int.Digits.{digits_value_more, digits_value_push, digits_push}
use Rattle.std.proofs.lemmas.List.{length-take-le, length_push}
use Rattle.std.proofs.lemmas.Bool.Decides.{nat_tests}
use Rattle.std.proofs.Math.Nat.{pow-suc}
use Rattle.std.proofs.lemmas.Str.{digit_value_digit}
use Rattle.std.proofs.lemmas.Str.Parse.{IsNumeralModel, numerals_by_value, tells_all_ascii_digits, digits_value_short, digit_from_value}
use Rattle.com_text.specs.Digits.{in_digits, IsNumber, number}

-- the words of this crate for digits and their number are std's
pub own_digits : IsNumeralModel (λ bytes. all_ascii_digits bytes ≡ true) number
own_digits = numerals_by_value _ tells_all_ascii_digits

-- so many digits write a number below that power of ten
pub number-lt : (bytes : List ℕ) (width : ℕ) → all_ascii_digits bytes ≡ true → length bytes ≤ width → number bytes < 10 ^ width
number-lt bytes width h short = digits_value_short own_digits bytes width h short

-- one more digit
pub number_more : (bytes : List ℕ) (i : ℕ) → i < length bytes → digit_value (get_or bytes i 0) < 10
    → number (take (i + 1) bytes) ≡ number (take i bytes) * 10 + (get_or bytes i 0 - 48)
number_more bytes i lt digit =
    omega (arith, digits_value_more 10 bytes i lt, digit_value_digit (get_or bytes i 0) (digit_from_value _ digit))

-- where 18 bytes at most stand, the number so far has room for one more digit
pub number_room : (bytes : List ℕ) (i : ℕ) → i < length bytes → length bytes ≤ 18 → AllDigits 10 (take i bytes) → number (take i bytes) < 10 ^ 17
number_room bytes i lt short h =
    let le : length (take i bytes) ≤ 17 = omega (arith, length-take-le i bytes (omega arith)) in
    number-lt (take i bytes) 17 (own_digits.from _ h) le

-- a number's digits, with leading zeros: how many they are, that they are digits, and which number
-- they write
pub length-in_digits : (n width : ℕ) → length (in_digits n width) ≡ width
length-in_digits n zero = refl
length-in_digits n (suc width) =
    length_push (in_digits (n / 10) width) (48 + n % 10) ∙ (ap (λ k. k + 1) (length-in_digits (n / 10) width) ∙ omega arith)

digit-in_digits : (n : ℕ) → digit_value (48 + n % 10) ≡ n % 10
digit-in_digits n = grind (arith, nat_tests)

pub AllDigits-in_digits : (n width : ℕ) → AllDigits 10 (in_digits n width)
AllDigits-in_digits n zero = tt
AllDigits-in_digits n (suc width) =
    digits_push 10 (in_digits (n / 10) width) (48 + n % 10) (AllDigits-in_digits (n / 10) width) (omega (arith, digit-in_digits n))

pub number-in_digits : (n width : ℕ) → n < 10 ^ width → number (in_digits n width) ≡ n
number-in_digits n zero lt = omega arith
number-in_digits n (suc width) lt =
    let fits : n / 10 < 10 ^ width = omega (arith, pow-suc 10 width) in
    omega (arith, digits_value_push 10 (in_digits (n / 10) width) (48 + n % 10), digit-in_digits n, number-in_digits (n / 10) width fits)

-- two numbers with the same digits are one number
pub in_digits_injective : (m n width : ℕ) → m < 10 ^ width → n < 10 ^ width → in_digits m width ≡ in_digits n width → m ≡ n
in_digits_injective m n width l k e = sym (number-in_digits m width l) ∙ (ap number e ∙ number-in_digits n width k)

-- up to 18 digits of a number are a number that can be read
pub IsNumber-in_digits : (n width : ℕ) → 1 ≤ width → width ≤ 18 → IsNumber (in_digits n width)
IsNumber-in_digits n width some short = record {
  some = omega (arith, length-in_digits n width);
  short = omega (arith, length-in_digits n width);
  digits = own_digits.from _ (AllDigits-in_digits n width);
}
