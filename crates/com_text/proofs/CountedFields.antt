-- Counted fields: where their colon stands, and that none is a prefix of another.
use Rattle.std.proofs.Common.{◌≡◌, ℕ, zero, suc, ◌+◌, ◌-◌, ◌<◌, ◌≤◌, ◌^◌, false, Some, List, ◌∷◌, ◌++◌, length, get_or, take, drop, refl, sym, ap, ◌∙◌, arith}
use Rattle.std.specs.Prelude.{decimal, slice_range}
use Rattle.std.specs.List.{position}
use Rattle.std.proofs.lemmas.Bool.{ne_eqb, eqb-true, lt-ltb}
use Rattle.std.proofs.lemmas.Fmt.{decimal_injective, digits_decimal, digits_value-decimal, first_decimal, length-decimal-le, decimal-digits_value, decimal_nonempty, decimal_digit}
use Rattle.std.proofs.Math.Seq.{take-append-add}
use Rattle.std.proofs.lemmas.List.Quantifiers.{position-Some}
use Rattle.std.proofs.lemmas.List.{drop_more, take-append-drop, length-take-le, length-drop, append_assoc, append_cancel_left, get_or-take, get_or_append_left, get_or_at, length-append, length-take, take_at, drop_at}
use Rattle.std.proofs.lemmas.List.Sums.{position_or_len_is}
use Rattle.std.proofs.lemmas.Str.Parse.{not_in_digits}
use Rattle.com_text.specs.Counted.{counted_field, is_colon, IsCountable, HasLeadingZero, StandsAt}
use Rattle.com_text.specs.Digits.{IsNumber, number}
use Rattle.com_text.proofs.Numerals.{own_digits, number-lt}

-- a count fits 64 bits
small : (n : ℕ) → n ≤ 999999 → n < 2 ^ 64
small n le = omega arith

-- no byte of a number's digits is a colon
no_colon : (n k : ℕ) → n ≤ 999999 → k < length (decimal n) → is_colon (get_or (decimal n) k 0) ≡ false
no_colon n k le lt =
    ne_eqb (get_or (decimal n) k 0) 58 (not_in_digits own_digits (decimal n) 58 (digits_decimal own_digits n (small n le)) (λ r. absurd (omega (arith, r))) k lt)

-- six digits at most
length-count : (n : ℕ) → n ≤ 999999 → length (decimal n) ≤ 6
length-count n le = length-decimal-le 6 n (omega arith) (omega arith) (small n le)

-- a count has no leading zero
no_leading_zero : (n : ℕ) → n ≤ 999999 → ¬ (HasLeadingZero (decimal n))
no_leading_zero zero le h = absurd (omega (arith, h.0, ap length (decimal_digit 0 (omega arith))))
no_leading_zero (suc n) le h = absurd (omega (arith, h.1, first_decimal (suc n) (omega arith) (small (suc n) le)))

-- the first colon of a list is after the part with none
position-first : (front rest : List ℕ) → ((k : ℕ) → k < length front → is_colon (get_or front k 0) ≡ false) → length front ≤ 6
    → position is_colon (take 7 (front ++ 58 ∷ rest)) ≡ Some (length front)
position-first front rest none short =
    let whole = front ++ 58 ∷ rest in
    let n = length front in
    let long : n < length (take 7 whole) = omega (arith, length-take 7 whole, length-append front (58 ∷ rest)) in
    let before = λ (k : ℕ) (lt : k < n).
    ap is_colon (get_or-take 7 whole k 0 (omega arith) ∙ get_or_append_left front (58 ∷ rest) 0 k lt) ∙ none k lt in
    let here = ap is_colon (get_or-take 7 whole n 0 (omega arith) ∙ get_or_at front 58 rest 0 n refl) in
    let place = position_or_len_is is_colon (take 7 whole) n 0 (omega arith) before (λ _. here) in
    rw (place, lt-ltb n (length (take 7 whole)) long) refl

-- a counted field, taken apart
counted-parts : (content rest : List ℕ) → counted_field content ++ rest ≡ decimal (length content) ++ 58 ∷ (content ++ rest)
counted-parts content rest = append_assoc (decimal (length content)) (58 ∷ content) rest

-- where bytes begin with a counted field, their first colon comes after its count
pub position-counted : (bytes content rest : List ℕ) → IsCountable content → bytes ≡ counted_field content ++ rest
    → position is_colon (take 7 bytes) ≡ Some (length (decimal (length content)))
position-counted bytes content rest few e =
    rw (e, counted-parts content rest) (position-first (decimal (length content)) (content ++ rest) (λ k lt. no_colon (length content) k few lt) (length-count (length content) few))

-- and before that colon stands the count
pub take-counted : (bytes content rest : List ℕ) → bytes ≡ counted_field content ++ rest
    → take (length (decimal (length content))) bytes ≡ decimal (length content)
take-counted bytes content rest e =
    rw (e, counted-parts content rest) (take_at (decimal (length content)) (58 ∷ (content ++ rest)) _ refl)

-- how long a counted field is, and that bytes which begin with one hold it whole
pub length-counted : (content : List ℕ) → length (counted_field content) ≡ length (decimal (length content)) + 1 + length content
length-counted content = omega (arith, length-append (decimal (length content)) (58 ∷ content))

pub length-le-counted : (bytes content rest : List ℕ) → bytes ≡ counted_field content ++ rest
    → length (decimal (length content)) + 1 + length content ≤ length bytes
length-le-counted bytes content rest e =
    omega (arith, ap length e, length-append (counted_field content) rest, length-counted content)

-- at least one and not two is one
one_byte : (xs : List ℕ) → 1 ≤ length xs → ¬ (2 ≤ length xs) → length xs ≡ 1
one_byte xs some few = grind arith

-- digits that are written as a count is are the digits of their number
pub digits-count : (digits : List ℕ) → IsNumber digits → length digits ≤ 6 → ¬ (HasLeadingZero digits)
    → (number digits ≤ 999999) × (digits ≡ decimal (number digits))
digits-count digits h short plain =
    let fits = number-lt digits 6 h.digits short in
    let alone = λ (zero_first : get_or digits 0 0 ≡ 48). one_byte digits h.some (λ more. plain (more, zero_first)) in
    (omega arith, sym (decimal-digits_value own_digits digits h.digits h.some alone (omega arith)))

-- a count's digits are read back
pub record IsCount (digits : List ℕ) (count : ℕ) : Type 0 where
  pub is_number : IsNumber digits
  pub short : length digits ≤ 6
  pub plain : ¬ (HasLeadingZero digits)
  pub number : number digits ≡ count

pub IsCount-decimal : (digits : List ℕ) (count : ℕ) → count ≤ 999999 → digits ≡ decimal count → IsCount digits count
IsCount-decimal digits count le e =
    let fits = small count le in
    rw e record {
      is_number = record { some = decimal_nonempty count fits; short = omega (arith, length-count count le); digits = digits_decimal own_digits count fits };
      short = length-count count le;
      plain = no_leading_zero count le;
      number = digits_value-decimal own_digits count fits;
    }

-- a counted field stands where digits, a colon and as many bytes as they say stand
pub StandsAt-read : (bytes : List ℕ) (colon count : ℕ) → position is_colon (take 7 bytes) ≡ Some colon → take colon bytes ≡ decimal count
    → count ≤ 999999 → count ≤ length bytes - (colon + 1) → StandsAt bytes (colon + 1) (colon + 1 + count)
StandsAt-read bytes colon count found digits few fits =
    let rest = drop (colon + 1) bytes in
    let past = colon + 1 + count in
    let at = position-Some is_colon (take 7 bytes) colon 0 found in
    let near : (colon < 7) × (colon < length bytes) = grind (arith, length-take 7 bytes) in
    let here : get_or bytes colon 0 ≡ 58 = sym (get_or-take 7 bytes colon 0 near.0) ∙ eqb-true _ 58 at.1 in
    let split : bytes ≡ decimal count ++ 58 ∷ rest =
    sym (take-append-drop colon bytes) ∙ rw (digits, drop_more bytes colon 0 near.1, here) refl in
    let width : length (decimal count) ≡ colon = ap length (sym digits) ∙ length-take-le colon bytes (omega arith) in
    let end : past ≡ length (decimal count) + suc count = omega arith in
    let content : slice_range bytes (colon + 1) past ≡ take count rest = ap (λ k. take k rest) (omega arith) in
    let long : length (slice_range bytes (colon + 1) past) ≡ count =
    ap length content ∙ length-take-le count rest (omega (arith, length-drop (colon + 1) bytes)) in
    let front : take past bytes ≡ decimal count ++ 58 ∷ take count rest =
    rw end (ap (take (length (decimal count) + suc count)) split ∙ take-append-add (decimal count) (58 ∷ rest) (suc count)) in
    record { order = omega arith; within = omega arith; countable = omega arith; field = front ∙ rw (long, content) refl }

-- equal lists have equal tails
same_tail : {x y : ℕ} {xs ys : List ℕ} → x ∷ xs ≡ y ∷ ys → xs ≡ ys
same_tail e = cc

-- no counted field is a prefix of another
pub counted_front : (a b x y : List ℕ) → IsCountable a → IsCountable b → counted_field a ++ x ≡ counted_field b ++ y → (a ≡ b) × (x ≡ y)
counted_front a b x y few_a few_b e =
    let na = length a in
    let nb = length b in
    let bytes = counted_field b ++ y in
    let place : Some (length (decimal na)) ≡ Some (length (decimal nb)) =
    sym (position-counted bytes a x few_a (sym e)) ∙ position-counted bytes b y few_b refl in
    let widths : length (decimal na) ≡ length (decimal nb) = cc in
    let digits : decimal na ≡ decimal nb =
    sym (take-counted bytes a x (sym e)) ∙ (ap (λ k. take k bytes) widths ∙ take-counted bytes b y refl) in
    let count : na ≡ nb = decimal_injective na nb (small na few_a) (small nb few_b) digits in
    let whole : decimal nb ++ 58 ∷ (a ++ x) ≡ decimal nb ++ 58 ∷ (b ++ y) =
    ap (λ n. decimal n ++ 58 ∷ (a ++ x)) (sym count) ∙ (sym (counted-parts a x) ∙ (e ∙ counted-parts b y)) in
    let behind : a ++ x ≡ b ++ y = same_tail (append_cancel_left (decimal nb) (58 ∷ (a ++ x)) (58 ∷ (b ++ y)) whole) in
    (sym (take_at a x nb count) ∙ (ap (take nb) behind ∙ take_at b y nb refl), sym (drop_at a x nb count) ∙ (ap (drop nb) behind ∙ drop_at b y nb refl))
