-- Numbers in decimal digits.
use Rattle.std.specs.Prelude.{ℕ, zero, suc, ◌+◌, ◌/◌, ◌%◌, ◌≤◌, IsTrue, List, [], ◌∷◌, ◌++◌, length}
use Rattle.std.specs.Str.{all_ascii_digits}
use Rattle.std.specs.Str.Parse.{digits_value}
use Rattle.com_text.specs.declared.decimal.TheConstants.{MAX_DIGITS}

-- a number in `width` digits, with leading zeros
abbrev pub in_digits : ℕ → ℕ → List ℕ
in_digits n zero = []
in_digits n (suc width) = in_digits (n / 10) width ++ (48 + n % 10) ∷ []

-- digits, one or more, and as many as a number that is read may have
pub record IsNumber (bytes : List ℕ) : Type 0 where
  pub some : 1 ≤ length bytes
  pub short : length bytes ≤ MAX_DIGITS
  pub digits : IsTrue (all_ascii_digits bytes)

-- the number that digits write
abbrev pub number : List ℕ → ℕ
number bytes = digits_value 10 bytes
