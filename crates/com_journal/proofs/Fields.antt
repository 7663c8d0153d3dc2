-- The fields of a line: each is read just where it stands.
use Rattle.std.proofs.Common.{◌≡◌, ℕ, ◌<◌, ◌≤◌, ◌^◌, Bool, true, false, not, Some, List, ◌∷◌, ◌++◌, length, get_or, take, drop, refl, sym, ap, ◌∙◌, subst, inl, inr, option_map, nat_lt, nat_le, nat_eq, arith, append_assoc}
use Rattle.std.specs.Prelude.{◌==◌, decimal, slice_range}
use Rattle.std.specs.List.{list_all, position, position_or_len, after_first, starts_with}
use Rattle.std.specs.Option.{unwrap_or}
use Rattle.std.proofs.lemmas.Bool.{cases_Bool, le-leb, leb-true, ne_eqb}
use Rattle.std.proofs.lemmas.Bool.Decides.{Decides-eqb, nat_tests}
use Rattle.std.proofs.lemmas.Fmt.{digits_decimal, digits_value-decimal}
use Rattle.std.proofs.lemmas.List.{get_or_append_left, get_or_at, length-append, take_at, take-append-drop}
use Rattle.std.proofs.lemmas.List.Sums.{position_or_len_is, prefix_len-le-length, AllPass-from_list_all}
use Rattle.std.proofs.lemmas.Option.{cond_some}
use Rattle.std.proofs.lemmas.Slice.Eq.{starts_is}
use Rattle.std.proofs.lemmas.Str.Parse.{not_in_digits}
use Rattle.std.proofs.Math.Seq.{drop-append-add, drop-append_seam}
use Rattle.std.specs.Int.{IsInRange}
use Rattle.com_text.specs.Counted.{counted_field, is_colon, IsCountable, StandsAt}
use Rattle.com_text.specs.Digits.{number}
use Rattle.com_text.specs.Name.{IsName, is_name_byte}
use Rattle.com_text.proofs.Numerals.{own_digits}
use Rattle.com_journal.specs.inner.Reading.{behind, is_space, split_counted}
use Rattle.com_journal.proofs.Options.{option_map-Some, if-Some}

-- the place of the first byte of a sort, or of the end
pub place_or_end : (test : ℕ → Bool) (bytes : List ℕ) → unwrap_or (position test bytes) (length bytes) ≡ position_or_len test bytes
place_or_end test bytes =
    let within = prefix_len-le-length (λ byte. not (test byte)) bytes in
    elim (cases_Bool (nat_lt (position_or_len test bytes) (length bytes))) [
      | inl before ↦ rw before refl
      | inr none ↦ rw none (grind (arith, nat_tests))
    ]

-- no byte of a number's digits is one that is no digit
no_other_byte : (n byte k : ℕ) → n < 2 ^ 64 → ¬ (IsInRange 48 57 byte) → k < length (decimal n) → (get_or (decimal n) k 0 == byte) ≡ false
no_other_byte n byte k fits other lt =
    ne_eqb (get_or (decimal n) k 0) byte (not_in_digits own_digits (decimal n) byte (digits_decimal own_digits n fits) other k lt)

-- the first colon comes after the count
place_of_colon : (count : ℕ) (rest : List ℕ) → count ≤ 999999 → position_or_len is_colon (decimal count ++ 58 ∷ rest) ≡ length (decimal count)
place_of_colon count rest few =
    let digits = decimal count in
    let whole = digits ++ 58 ∷ rest in
    let long : length digits < length whole = omega (arith, length-append digits (58 ∷ rest)) in
    let before = λ (k : ℕ) (lt : k < length digits).
    ap is_colon (get_or_append_left digits (58 ∷ rest) 0 k lt) ∙ no_other_byte count 58 k (omega (arith, few)) (λ r. omega (arith, r)) lt in
    let here = ap is_colon (get_or_at digits 58 rest 0 (length digits) refl) in
    position_or_len_is is_colon whole (length digits) 0 (omega arith) before (λ _. here)

-- after the first colon of a counted field stands its content
after_colon : (count : ℕ) (rest : List ℕ) → count ≤ 999999 → after_first is_colon (decimal count ++ 58 ∷ rest) ≡ rest
after_colon count rest few = rw (place_of_colon count rest few) (drop-append-add (decimal count) (58 ∷ rest) 1)

-- what follows these bytes at the front is read, and bytes with another front are not
pub behind-append : (front rest : List ℕ) → behind front (front ++ rest) ≡ Some rest
behind-append front rest =
    rw ((starts_is Decides-eqb (front ++ rest) front _ refl).1 rest refl, drop-append_seam front rest) refl

pub behind-Some : (front bytes rest : List ℕ) → behind front bytes ≡ Some rest → bytes ≡ front ++ rest
behind-Some front bytes rest h =
    let p = cond_some (starts_with nat_eq bytes front) (drop (length front) bytes) rest h in
    rw (← p.1) ((starts_is Decides-eqb bytes front _ refl).0 p.0)

-- a counted field at the front is read as its content and what comes after it, and nothing else is
pub split_counted-front : (bytes content rest : List ℕ) → IsCountable content → bytes ≡ counted_field content ++ rest → split_counted bytes ≡ Some (content, rest)
unfolding split_counted
split_counted-front bytes content rest few e =
    let count = length content in
    let digits = decimal count in
    let parts : bytes ≡ digits ++ 58 ∷ (content ++ rest) = e ∙ append_assoc digits (58 ∷ content) rest in
    let place : position_or_len is_colon bytes ≡ length digits = ap (position_or_len is_colon) parts ∙ place_of_colon count (content ++ rest) few in
    let fits : count < 2 ^ 64 = omega (arith, few) in
    let front : take (position_or_len is_colon bytes) bytes ≡ digits =
    ap (λ k. take k bytes) place ∙ (ap (take (length digits)) parts ∙ take_at digits (58 ∷ (content ++ rest)) (length digits) refl) in
    let is_count : number (take (position_or_len is_colon bytes) bytes) ≡ count = ap number front ∙ digits_value-decimal own_digits count fits in
    let after : after_first is_colon bytes ≡ content ++ rest = ap (after_first is_colon) parts ∙ after_colon count (content ++ rest) few in
    let text : take (number (take (position_or_len is_colon bytes) bytes)) (after_first is_colon bytes) ≡ content =
    ap (λ k. take k (after_first is_colon bytes)) is_count ∙ (ap (take count) after ∙ take_at content rest count refl) in
    let last : behind (counted_field content) bytes ≡ Some rest = ap (behind (counted_field content)) e ∙ behind-append (counted_field content) rest in
    rw (text, le-leb count 999999 few, last) refl

pub front-split_counted : (bytes content rest : List ℕ) → split_counted bytes ≡ Some (content, rest) → IsCountable content × (bytes ≡ counted_field content ++ rest)
unfolding split_counted
front-split_counted bytes content rest h =
    let found = take (number (take (position_or_len is_colon bytes) bytes)) (after_first is_colon bytes) in
    let (few, behind_it) = if-Some (nat_le (length found) 999999) (option_map (λ (after : List ℕ). (found, after)) (behind (counted_field found) bytes)) (content, rest) h in
    let (after, e, parts) = option_map-Some (λ (after : List ℕ). (found, after)) (behind (counted_field found) bytes) (content, rest) behind_it in
    let countable : IsCountable found = leb-true (length found) 999999 few in (
      subst (λ (p : List ℕ × List ℕ). IsCountable p.0) parts countable,
      behind-Some (counted_field found) bytes after e ∙ ap (λ (p : List ℕ × List ℕ). counted_field p.0 ++ p.1) parts,
    )

-- what stands at the beginning of the bytes is a counted field
pub split_counted-StandsAt : (bytes : List ℕ) (from past : ℕ) → StandsAt bytes from past → split_counted bytes ≡ Some (slice_range bytes from past, drop past bytes)
split_counted-StandsAt bytes from past h =
    split_counted-front bytes (slice_range bytes from past) (drop past bytes) h.countable
    (sym (take-append-drop past bytes) ∙ ap (λ front. front ++ drop past bytes) h.field)

-- no byte of the word is a space
abbrev pub HasNoSpace : List ℕ → Type 0
HasNoSpace word = (k : ℕ) → k < length word → is_space (get_or word k 0) ≡ false

pub HasNoSpace-decimal : (n : ℕ) → n < 2 ^ 64 → HasNoSpace (decimal n)
HasNoSpace-decimal n fits k lt = no_other_byte n 32 k fits (λ r. omega (arith, r)) lt

name_byte_no_space : (byte : ℕ) → is_name_byte byte ≡ true → is_space byte ≡ false
name_byte_no_space byte h = grind (arith, nat_tests)

name_bytes : (name : List ℕ) → IsName name → list_all is_name_byte name ≡ true
name_bytes name h = grind (arith, nat_tests)

pub HasNoSpace-name : (name : List ℕ) → IsName name → HasNoSpace name
HasNoSpace-name name h k lt = name_byte_no_space (get_or name k 0) (AllPass-from_list_all is_name_byte name (name_bytes name h) k 0 lt)
