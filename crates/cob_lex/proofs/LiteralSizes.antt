-- How many characters a literal has.
use Rattle.std.proofs.Common.{◌≡◌, ℕ, suc, ◌+◌, ◌<◌, ◌≤◌, true, false, ◌&&◌, cond, nat_le, List, [], ◌∷◌, length, take, Option, Some, ap, sym, ◌∙◌, arith}
use Rattle.std.proofs.lemmas.List.{length-take-le}
use Rattle.std.proofs.lemmas.Bool.Decides.{nat_tests}
use Rattle.cob_lex.specs.declared.front.Front.TheVariants as fronts
use Rattle.cob_lex.specs.declared.fault.SourceKind.TheVariants as faults
use Rattle.cob_lex.specs.declared.token.TokenKind.TheVariants as kinds
use Rattle.cob_lex.specs.Characters.{is_quote}
use Rattle.cob_lex.specs.Literals.{characters_of, is_literal}
use Rattle.cob_lex.specs.Fronts.{literal_front}

-- no more characters than bytes, and some where there are bytes
few : (xs : List ℕ) → length (characters_of xs) ≤ length xs
few [] = omega arith
few (x ∷ []) = omega arith
few (x ∷ y ∷ xs) =
    let two : suc (length (characters_of xs)) ≤ suc (suc (length xs)) = omega (arith, few xs) in
    let one : suc (length (characters_of (y ∷ xs))) ≤ suc (suc (length xs)) = omega (arith, few (y ∷ xs)) in
    elim (is_quote x && is_quote y) as (λ b. length (cond b (x ∷ characters_of xs) (x ∷ characters_of (y ∷ xs))) ≤ suc (suc (length xs)))
    [ true ↦ two | false ↦ one ]

some : (x : ℕ) (xs : List ℕ) → 1 ≤ length (characters_of (x ∷ xs))
some x [] = omega arith
some x (y ∷ xs) =
    let two : 1 ≤ suc (length (characters_of xs)) = omega arith in
    let one : 1 ≤ suc (length (characters_of (y ∷ xs))) = omega arith in
    elim (is_quote x && is_quote y) as (λ b. 1 ≤ length (cond b (x ∷ characters_of xs) (x ∷ characters_of (y ∷ xs)))) [ true ↦ two | false ↦ one ]

within : (n : ℕ) → 1 ≤ n → n ≤ 120 → (nat_le 1 n && nat_le n 120) ≡ true
within n low high = grind (arith, nat_tests)

-- a literal within a line has as many characters as it may
pub in_line : (xs : List ℕ) → 1 ≤ length xs → length xs ≤ 72 → is_literal xs ≡ true
in_line [] low high = absurd (omega arith)
in_line (x ∷ xs) low high = within (length (characters_of (x ∷ xs))) (some x xs) (omega (arith, few (x ∷ xs)))

pub literal_there : (rest : List ℕ) (n : ℕ) (closing : Option ℕ) → closing ≡ Some n → 1 ≤ n → n < length rest → length rest < 72 → fronts.Token kinds.Literal (n + 2) ≡ literal_front rest closing
literal_there rest n closing is low inside short =
    let size : length (take n rest) ≡ n = length-take-le n rest (omega arith) in
    let e : is_literal (take n rest) ≡ true = in_line (take n rest) (omega arith) (omega arith) in
    sym (ap (literal_front rest) is ∙ ap (λ b. cond b (fronts.Token kinds.Literal (n + 2)) (fronts.Fault faults.BadWord)) e)
