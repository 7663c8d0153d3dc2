-- Numbers by their digits.
use Rattle.std.proofs.Common.{◌≡◌, ◌≤◌, ◌<◌, ◌^◌, ℕ, Bool, true, false, ◌&&◌, List, [], ◌∷◌, length, Option, Some, None, IsSome, IfSome, unwrap_or, refl, sym, ◌∙◌, arith}
use Rattle.std.specs.Prelude.{if◌then◌else◌, nat_le}
use Rattle.std.specs.List.{list_all}
use Rattle.std.specs.Str.{all_ascii_digits}
use Rattle.std.specs.Char.{is_ascii_digit}
use Rattle.std.proofs.lemmas.Grind.{common_steps}
use Rattle.std.proofs.lemmas.Bool.Decides.{nat_tests}
use Rattle.com_text.specs.Digits.{IsNumber, number}
use Rattle.com_text.specs.Name.{is_digit}
use Rattle.com_text.proofs.Numerals.{number-lt}
use Rattle.cob_lex.specs.Fronts.{is_number}
use Rattle.cob_data.specs.Numerals.{numeral}

pub both : (a b : Bool) → (a && b) ≡ true → (a ≡ true) × (b ≡ true)
both true true h = (refl, refl)
both true false h = (refl, h)
both false b h = (h, cc)

pub joined : (a b : Bool) → a ≡ true → b ≡ true → (a && b) ≡ true
joined true true h k = refl
joined true false h k = k
joined false b h k = h

same_digit : (c : ℕ) → is_digit c ≡ is_ascii_digit c
same_digit c = refl

pub all_digits : (digits : List ℕ) → list_all is_digit digits ≡ true → all_ascii_digits digits ≡ true
all_digits [] h = refl
all_digits (digit ∷ digits) h =
    let parts = both (is_digit digit) (list_all is_digit digits) h in
    joined (is_ascii_digit digit) (all_ascii_digits digits) (sym (same_digit digit) ∙ parts.0) (all_digits digits parts.1)

pub only_digits : (digits : List ℕ) → all_ascii_digits digits ≡ true → list_all is_digit digits ≡ true
only_digits [] h = refl
only_digits (digit ∷ digits) h =
    let parts = both (is_ascii_digit digit) (all_ascii_digits digits) h in
    joined (is_digit digit) (list_all is_digit digits) (same_digit digit ∙ parts.0) (only_digits digits parts.1)

short : (n : ℕ) → n ≤ 18 → nat_le n 18 ≡ true
short n h = grind (arith, common_steps, nat_tests)

is_short : (n : ℕ) → nat_le n 18 ≡ true → n ≤ 18
is_short n h = grind (arith, common_steps, nat_tests)

pub numeral_some : (digits : List ℕ) → IsNumber digits → numeral digits ≡ number digits
numeral_some digits h =
    let fits : is_number digits ≡ true = joined (list_all is_digit digits) (nat_le (length digits) 18) (only_digits digits h.digits) (short (length digits) h.short) in
    rw fits refl

numeral_by : (b : Bool) (digit : ℕ) (digits : List ℕ) → is_number (digit ∷ digits) ≡ b → (IsNumber (digit ∷ digits) → ⊥) → (if b then number (digit ∷ digits) else 0) ≡ 0
numeral_by true digit digits h none =
    let parts = both (list_all is_digit (digit ∷ digits)) (nat_le (length (digit ∷ digits)) 18) h in
    absurd (none (record { some = omega arith; short = is_short (length (digit ∷ digits)) parts.1; digits = all_digits (digit ∷ digits) parts.0 }))
numeral_by false digit digits h none = refl

pub numeral_none : (digits : List ℕ) → (IsNumber digits → ⊥) → numeral digits ≡ 0
numeral_none [] none = refl
numeral_none (digit ∷ digits) none = numeral_by (is_number (digit ∷ digits)) digit digits refl none

no_truth : false ≡ true → ⊥
no_truth h = cc

pub numeral_of : (digits : List ℕ) (found : Option ℕ) (r : ℕ) → (IsSome found → IsNumber digits) × (IsNumber digits → IsSome found) → IfSome found (λ n. n ≡ number digits) → r ≡ unwrap_or found 0 → r ≡ numeral digits
numeral_of digits (Some n) r some is_n taken = taken ∙ is_n ∙ sym (numeral_some digits (some.0 refl))
numeral_of digits None r some is_n taken = taken ∙ sym (numeral_none digits (λ k. no_truth (some.1 k)))

lt_by : (b : Bool) (digits : List ℕ) → is_number digits ≡ b → (if b then number digits else 0) < 10 ^ 18
lt_by true digits h =
    let parts = both (list_all is_digit digits) (nat_le (length digits) 18) h in
    number-lt digits 18 (all_digits digits parts.0) (is_short (length digits) parts.1)
lt_by false digits h = omega arith

pub numeral-lt : (digits : List ℕ) → numeral digits < 10 ^ 18
numeral-lt digits = lt_by (is_number digits) digits refl
