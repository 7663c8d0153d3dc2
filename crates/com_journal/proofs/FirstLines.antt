-- The first line of bytes, and the lines of bytes one after another.
use Rattle.std.proofs.Common.{◌≡◌, ℕ, suc, ◌+◌, ◌-◌, ◌<◌, ◌≤◌, Bool, true, false, not, Some, List, [], ◌∷◌, ◌++◌, length, get_or, take, drop, refl, sym, ap, ◌∙◌, subst, inl, inr, arith, length-drop}
use Rattle.std.specs.List.{list_all, position, position_or_len}
use Rattle.std.proofs.lemmas.Bool.{and_parts, cases_Bool, eqb-true, lt-ltb}
use Rattle.std.proofs.lemmas.Bool.Decides.{nat_tests}
use Rattle.std.proofs.lemmas.List.{take_all, drop_all, drop_more, take-append-drop}
use Rattle.std.proofs.lemmas.List.Quantifiers.{position-Some}
use Rattle.std.proofs.Math.Numerals.{one-add}
use Rattle.com_journal.specs.Scripts.{is_line_feed, lines_of}
use Rattle.com_journal.specs.Faults.{IsUnbroken, IsFirstLine}
use Rattle.com_journal.proofs.Plain.{same_lines, not_ended}

-- no line feed stands before the first
more_front : (byte : ℕ) (bytes : List ℕ) → is_line_feed byte ≡ false → IsUnbroken (take (position_or_len is_line_feed bytes) bytes) → IsUnbroken (take (suc (position_or_len is_line_feed bytes)) (byte ∷ bytes))
more_front byte bytes other h = rw other h

unbroken_front : (bytes : List ℕ) → IsUnbroken (take (position_or_len is_line_feed bytes) bytes)
unbroken_front [] = refl
unbroken_front (byte ∷ bytes) = elim (cases_Bool (is_line_feed byte)) [
  | inl feed ↦ rw feed refl
  | inr other ↦ rw (other, one-add) (more_front byte bytes other (unbroken_front bytes))
]

-- the first line is the last
pub first_last : (bytes front rest : List ℕ) (n : ℕ) → n ≡ position_or_len is_line_feed bytes → front ≡ take n bytes → rest ≡ drop n bytes → length rest < 1 → (length bytes ≡ 0 → ⊥)
    → IsFirstLine bytes front false rest
first_last bytes front rest n at is_front is_rest none some =
    let short : length bytes ≤ n = omega (arith, ap length is_rest, length-drop n bytes) in
    let all : front ≡ bytes = is_front ∙ take_all n bytes short in
    let unbroken : IsUnbroken front = subst IsUnbroken (sym (is_front ∙ ap (λ k. take k bytes) at)) (unbroken_front bytes) in
    let long : 1 ≤ length bytes = omega (arith, some) in
    (unbroken, sym all, subst (λ (xs : List ℕ). 1 ≤ length xs) (sym all) long, is_rest ∙ drop_all n bytes short)

-- or a line feed ends it
pub first_more : (bytes front rest : List ℕ) (n : ℕ) → n ≡ position_or_len is_line_feed bytes → front ≡ take n bytes → rest ≡ drop n bytes → 1 ≤ length rest
    → IsFirstLine bytes front true (take (length rest - 1) (drop 1 rest))
first_more bytes front rest n at is_front is_rest feed =
    let within : n < length bytes = omega (arith, ap length is_rest, length-drop n bytes) in
    let place : position is_line_feed bytes ≡ Some n = rw (← at, lt-ltb n (length bytes) within) refl in
    let (_, is_feed, before) = position-Some is_line_feed bytes n 0 place in
    let here : get_or bytes n 0 ≡ 10 = eqb-true (get_or bytes n 0) 10 is_feed in
    let behind : rest ≡ 10 ∷ drop (n + 1) bytes = is_rest ∙ (drop_more bytes n 0 within ∙ rw here refl) in
    let left : take (length rest - 1) (drop 1 rest) ≡ drop (n + 1) bytes = take_all (length rest - 1) (drop 1 rest) (omega (arith, length-drop 1 rest)) ∙ ap (drop 1) behind in
    let unbroken : IsUnbroken front = subst IsUnbroken (sym (is_front ∙ ap (λ k. take k bytes) at)) (unbroken_front bytes) in
    let whole = ap (λ xs. xs ++ drop n bytes) (sym is_front) ∙ ap (λ xs. front ++ xs) (sym is_rest ∙ (behind ∙ ap (λ xs. 10 ∷ xs) (sym left))) in
    (unbroken, sym (take-append-drop n bytes) ∙ whole)

-- bytes have one first line
pub one_first_line : (bytes a b x y : List ℕ) (p q : Bool) → IsFirstLine bytes a p x → IsFirstLine bytes b q y → a ≡ b
one_first_line bytes a b x y true true h k = (same_lines a b x y h.0 k.0 (sym h.1 ∙ k.1)).0
one_first_line bytes a b x y false false h k = sym h.1 ∙ k.1
one_first_line bytes a b x y true false h k = absurd (not_ended b a x k.0 (sym k.1 ∙ h.1))
one_first_line bytes a b x y false true h k = absurd (not_ended a b y h.0 (sym h.1 ∙ k.1))

-- the lines of bytes are the first line and those of the rest
lines-ended : (line rest : List ℕ) → IsUnbroken line → lines_of (line ++ 10 ∷ rest) ≡ line ∷ lines_of rest
lines-ended [] rest h = refl
lines-ended (byte ∷ line) rest h =
    let parts = and_parts (not (is_line_feed byte)) (list_all (λ byte. not (is_line_feed byte)) line) h in
    let other : is_line_feed byte ≡ false = grind (arith, nat_tests) in
    rw (other, lines-ended line rest parts.1) refl

lines-last : (line : List ℕ) → IsUnbroken line → 1 ≤ length line → lines_of line ≡ line ∷ []
lines-last [] h some = absurd (omega (arith, some))
lines-last (byte ∷ []) h some =
    let parts = and_parts (not (is_line_feed byte)) true h in
    let other : is_line_feed byte ≡ false = grind (arith, nat_tests) in
    rw other refl
lines-last (byte ∷ next ∷ line) h some =
    let parts = and_parts (not (is_line_feed byte)) (list_all (λ byte. not (is_line_feed byte)) (next ∷ line)) h in
    let other : is_line_feed byte ≡ false = grind (arith, nat_tests) in
    rw (other, lines-last (next ∷ line) parts.1 (omega arith)) refl

pub lines-first : (bytes line rest : List ℕ) (is_ended : Bool) → IsFirstLine bytes line is_ended rest → lines_of bytes ≡ line ∷ lines_of rest
lines-first bytes line rest true h = rw h.1 (lines-ended line rest h.0)
lines-first bytes line rest false h = rw (h.1, h.3) (lines-last line h.0 h.2)
