-- Numbers without a leading zero, as they are read and written.
use Rattle.std.proofs.Common.{◌≡◌, ℕ, zero, suc, ◌<◌, ◌≤◌, ◌^◌, true, ◌&&◌, None, Some, List, length, get_or, refl, sym, ap, ◌∙◌, inl, inr, nat_le, arith}
use Rattle.std.specs.Prelude.{decimal}
use Rattle.std.specs.Str.{bytes_eq}
use Rattle.std.proofs.lemmas.Bool.{and_from, and_parts, cases_lt, le-leb, leb-true}
use Rattle.std.proofs.lemmas.Fmt.{decimal_digit, decimal_nonempty, digits_decimal, digits_value-decimal, decimal-digits_value, first_decimal, length-decimal-le}
use Rattle.std.proofs.lemmas.Option.{cond_some}
use Rattle.com_text.specs.Counted.{HasLeadingZero}
use Rattle.com_text.specs.Digits.{IsNumber, number}
use Rattle.com_text.proofs.Numerals.{own_digits}
use Rattle.com_journal.specs.inner.Reading.{number_in}
use Rattle.com_journal.proofs.Options.{eq-bytes_eq, bytes_eq-true, None-of}

-- the word writes a number within bounds
pub record IsNumberIn (least most : ℕ) (word : List ℕ) (n : ℕ) : Type 0 where
  pub low : least ≤ n
  pub high : n ≤ most
  pub digits : word ≡ decimal n

fits : (most n : ℕ) → most < 10 ^ 18 → n ≤ most → n < 2 ^ 64
fits most n small le = omega arith

-- the number of a number's digits is the number
number_of_word : (least most : ℕ) (word : List ℕ) (n : ℕ) → most < 10 ^ 18 → IsNumberIn least most word n → number word ≡ n
number_of_word least most word n small h = rw h.digits (digits_value-decimal own_digits n (fits most n small h.high))

-- a word that writes such a number is read as it, and no other word
pub number_in-word : (least most : ℕ) (word : List ℕ) (n : ℕ) → most < 10 ^ 18 → IsNumberIn least most word n → number_in least most word ≡ Some n
unfolding number_in
number_in-word least most word n small h =
    let e = number_of_word least most word n small h in
    let passes : ((nat_le least n && nat_le n most) && bytes_eq word (decimal n)) ≡ true =
    and_from _ _ (and_from _ _ (le-leb least n h.low) (le-leb n most h.high)) (eq-bytes_eq _ _ h.digits) in
    rw (e, passes) refl

pub IsNumberIn-number_in : (least most : ℕ) (word : List ℕ) (n : ℕ) → number_in least most word ≡ Some n → IsNumberIn least most word n
unfolding number_in
IsNumberIn-number_in least most word n h =
    let m = number word in
    let p = cond_some ((nat_le least m && nat_le m most) && bytes_eq word (decimal m)) m n h in
    let bounds_digits = and_parts (nat_le least m && nat_le m most) (bytes_eq word (decimal m)) p.0 in
    let bounds = and_parts (nat_le least m) (nat_le m most) bounds_digits.0 in
    rw (← p.1) record {
      low = leb-true least m bounds.0;
      high = leb-true m most bounds.1;
      digits = bytes_eq-true word (decimal m) bounds_digits.1;
    }

-- no number has a leading zero
no_leading_zero : (n : ℕ) → n < 2 ^ 64 → ¬ (HasLeadingZero (decimal n))
no_leading_zero zero small h = absurd (omega (arith, h.0, ap length (decimal_digit 0 (omega arith))))
no_leading_zero (suc n) small h = absurd (omega (arith, h.1, first_decimal (suc n) (omega arith) small))

-- the digits of such a number are a number without a leading zero
pub record IsNumeral (word : List ℕ) : Type 0 where
  pub is_number : IsNumber word
  pub plain : ¬ (HasLeadingZero word)

pub IsNumeral-number_in : (least most : ℕ) (word : List ℕ) (n : ℕ) → most < 10 ^ 18 → number_in least most word ≡ Some n → IsNumeral word
IsNumeral-number_in least most word n small h =
    let found = IsNumberIn-number_in least most word n h in
    let room = fits most n small found.high in
    rw found.digits record {
      is_number = record { some = decimal_nonempty n room; short = length-decimal-le 18 n (omega arith) (omega (arith, found.high)) room; digits = digits_decimal own_digits n room };
      plain = no_leading_zero n room;
    }

-- digits without a leading zero are the number that they write
pub number_in-number : (least most : ℕ) (word : List ℕ) (n : ℕ) → most < 10 ^ 18 → IsNumber word → ¬ (HasLeadingZero word) → n ≡ number word → least ≤ n → n ≤ most
    → number_in least most word ≡ Some n
number_in-number least most word n small h plain e low high =
    let alone : get_or word 0 0 ≡ 48 → length word ≡ 1 = λ zero_first. elim (cases_lt 1 (length word)) [
      | inl more ↦ absurd (plain (more, zero_first))
      | inr one ↦ omega (arith, h.some)
    ] in
    let room : number word < 2 ^ 64 = omega (arith, small, e, high) in
    let digits = sym (decimal-digits_value own_digits word h.digits h.some alone room) in
    number_in-word least most word n small record { low = low; high = high; digits = digits ∙ ap decimal (sym e) }

-- a number that is not within the bounds is not read
pub number_in-out : (least most : ℕ) (word : List ℕ) → (least ≤ number word → number word ≤ most → ⊥) → None ≡ number_in least most word
unfolding number_in
number_in-out least most word out = None-of _ (λ n h.
    let m = number word in
    let p = cond_some ((nat_le least m && nat_le m most) && bytes_eq word (decimal m)) m n h in
    let bounds = and_parts (nat_le least m) (nat_le m most) (and_parts (nat_le least m && nat_le m most) (bytes_eq word (decimal m)) p.0).0 in
    out (leb-true least m bounds.0) (leb-true m most bounds.1))
