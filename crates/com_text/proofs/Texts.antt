-- What is a text: the parts of one, two of them joined, names, their fields, and digits.
use Rattle.std.proofs.Common.{◌≡◌, ℕ, zero, suc, ◌+◌, ◌-◌, ◌<◌, ◌/◌, ◌%◌, true, List, [], ◌∷◌, ◌++◌, length, take, drop, get_or, refl, arith, length-append, Ok, Err}
use Rattle.std.specs.Prelude.{Result, MatchResult, IsOk}
use Rattle.std.specs.Str.{IsUtf8}
use Rattle.std.proofs.lemmas.Str.{IsUtf8-from_ascii}
use Rattle.std.specs.List.{list_all}
use Rattle.std.specs.Str.{all_ascii_digits}
use Rattle.std.specs.Char.{is_ascii_digit}
use Rattle.std.proofs.lemmas.Bool.{and_parts}
use Rattle.std.proofs.lemmas.Bool.Decides.{nat_tests}
use Rattle.std.proofs.lemmas.List.Folds.{list_all-append}
use Rattle.com_text.specs.Text.{IsText, is_text, is_text_byte}
use Rattle.com_text.specs.Name.{IsName, is_name_byte, spaces, field_of}
use Rattle.com_text.specs.Digits.{in_digits}

pub IsText-append : (xs ys : List ℕ) → IsText xs → IsText ys → IsText (xs ++ ys)
IsText-append xs ys x y = rw (list_all-append is_text_byte xs ys, x) y

pub IsText-take : (n : ℕ) (xs : List ℕ) → IsText xs → IsText (take n xs)
IsText-take zero xs h = refl
IsText-take (suc n) [] h = refl
IsText-take (suc n) (x ∷ xs) h =
    let (here, rest) = and_parts (is_text_byte x) (is_text xs) h in
    rw (here, IsText-take n xs rest)

pub IsText-drop : (n : ℕ) (xs : List ℕ) → IsText xs → IsText (drop n xs)
IsText-drop zero xs h = h
IsText-drop (suc n) [] h = refl
IsText-drop (suc n) (x ∷ xs) h =
    let (here, rest) = and_parts (is_text_byte x) (is_text xs) h in
    IsText-drop n xs rest

pub IsText-spaces : (n : ℕ) → IsText (spaces n)
IsText-spaces zero = refl
IsText-spaces (suc n) = IsText-spaces n

name_byte_of_text : (byte : ℕ) → is_name_byte byte ≡ true → is_text_byte byte ≡ true
name_byte_of_text byte h = grind (arith, nat_tests)

text_of_name_bytes : (name : List ℕ) → list_all is_name_byte name ≡ true → IsText name
text_of_name_bytes [] h = refl
text_of_name_bytes (x ∷ xs) h =
    let (here, rest) = and_parts (is_name_byte x) (list_all is_name_byte xs) h in
    rw (name_byte_of_text x here, text_of_name_bytes xs rest)

name_bytes : (name : List ℕ) → IsName name → list_all is_name_byte name ≡ true
name_bytes name h = grind (arith, nat_tests)

pub IsText-name : (name : List ℕ) → IsName name → IsText name
IsText-name name h = text_of_name_bytes name (name_bytes name h)

pub IsText-field_of : (name : List ℕ) → IsName name → IsText (field_of name)
IsText-field_of name h = IsText-append name _ (IsText-name name h) (IsText-spaces (12 - length name))

digit_of_text : (byte : ℕ) → is_ascii_digit byte ≡ true → is_text_byte byte ≡ true
digit_of_text byte h = grind (arith, nat_tests)

pub IsText-digits : (bytes : List ℕ) → all_ascii_digits bytes ≡ true → IsText bytes
IsText-digits [] h = refl
IsText-digits (x ∷ xs) h =
    let (here, rest) = and_parts (is_ascii_digit x) (all_ascii_digits xs) h in
    rw (digit_of_text x here, IsText-digits xs rest)

last_digit : (n : ℕ) → is_text_byte (48 + n % 10) ≡ true
last_digit n = grind (arith, nat_tests)

pub IsText-in_digits : (n width : ℕ) → IsText (in_digits n width)
IsText-in_digits n zero = refl
IsText-in_digits n (suc width) =
    IsText-append (in_digits (n / 10) width) _ (IsText-in_digits (n / 10) width) (rw (last_digit n))

pub length-in_digits : (n width : ℕ) → length (in_digits n width) ≡ width
length-in_digits n zero = refl
length-in_digits n (suc width) = omega (arith, length-append (in_digits (n / 10) width) ((48 + n % 10) ∷ []), length-in_digits (n / 10) width)

byte-below : (byte : ℕ) → is_text_byte byte ≡ true → byte < 128
byte-below byte h = grind (arith, nat_tests)

text-below : (bytes : List ℕ) (i : ℕ) → IsText bytes → get_or bytes i 0 < 128
text-below [] i h = omega arith
text-below (x ∷ xs) zero h = byte-below x (and_parts (is_text_byte x) (is_text xs) h).0
text-below (x ∷ xs) (suc i) h = text-below xs i (and_parts (is_text_byte x) (is_text xs) h).1

IsUtf8-text : (bytes : List ℕ) → IsText bytes → IsUtf8 bytes
IsUtf8-text bytes h = IsUtf8-from_ascii bytes (λ i. text-below bytes i h)

-- reading a text as UTF-8 is answered Ok
pub read-text : {T E : Type 0} (P : T → Type 0) (Q : E → Type 0) (bytes : List ℕ) (read : Result T E) → IsText bytes → MatchResult read P (λ e. ¬ IsUtf8 bytes × Q e) → IsOk read
read-text P Q bytes (Ok s) h cases = refl
read-text P Q bytes (Err e) h cases = absurd (cases.0 (IsUtf8-text bytes h))
