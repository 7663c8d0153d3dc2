-- The characters of paths.
use Rattle.std.proofs.Common.{◌≡◌, ℕ, ◌<◌, ◌^◌, true, List, [], ◌∷◌, ◌++◌, refl, arith}
use Rattle.std.specs.Prelude.{decimal}
use Rattle.std.specs.Char.{is_ascii_digit}
use Rattle.std.specs.Str.{all_ascii_digits}
use Rattle.std.proofs.lemmas.Bool.{and_parts}
use Rattle.std.proofs.lemmas.Bool.Decides.{nat_tests}
use Rattle.std.proofs.lemmas.Fmt.{digits_decimal}
use Rattle.std.proofs.lemmas.List.Folds.{list_all-append}
use Rattle.com_text.specs.Text.{IsText, is_text_byte}
use Rattle.com_text.proofs.Numerals.{own_digits}

text_of_digits : (bytes : List ℕ) → all_ascii_digits bytes ≡ true → IsText bytes
text_of_digits [] h = refl
text_of_digits (byte ∷ bytes) h =
    let parts = and_parts (is_ascii_digit byte) (all_ascii_digits bytes) h in
    let here : is_text_byte byte ≡ true = grind (arith, nat_tests, parts.0) in
    rw (here, text_of_digits bytes parts.1) refl

pub IsText-decimal : (n : ℕ) → n < 2 ^ 64 → IsText (decimal n)
IsText-decimal n h = text_of_digits (decimal n) (digits_decimal own_digits n h)

pub IsText-append : (front back : List ℕ) → IsText front → IsText back → IsText (front ++ back)
IsText-append front back f b = rw (list_all-append is_text_byte front back, f, b) refl
