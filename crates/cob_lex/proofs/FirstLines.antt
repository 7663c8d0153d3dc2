-- The first line of bytes, by where its LF is.
use Rattle.std.proofs.Common.{◌≡◌, ℕ, suc, ◌+◌, ◌<◌, ◌≤◌, Bool, true, false, not, ◌==◌, cond, ltb, List, [], ◌∷◌, length, take, drop, Some, None, refl, ap, sym, subst, ◌∙◌, arith}
use Rattle.std.specs.List.{slice_split, onto_first, position_or_len}
use Rattle.std.proofs.lemmas.Bool.Decides.{nat_tests}
use Rattle.std.proofs.lemmas.List.{length-take-le}
use Rattle.std.proofs.lemmas.List.Splits.{slice_split_first}
use Rattle.std.proofs.Math.Seq.{drop-length}
use Rattle.cob_lex.specs.Characters.{is_line_feed, is_return, without_last}
use Rattle.cob_lex.specs.Lines.{IsFirstLine, place, placed}

abbrev parts_of : List ℕ → List (List ℕ)
parts_of bytes = slice_split is_line_feed bytes

abbrev line_feed_at : List ℕ → ℕ
line_feed_at bytes = position_or_len is_line_feed bytes

-- what stands between LFs has a first part
has_first : (xs : List ℕ) → (part : List ℕ) × (parts : List (List ℕ)) × (parts_of xs ≡ part ∷ parts)
has_first [] = ([], [], refl)
has_first (x ∷ xs) =
    let (part, parts, e) = has_first xs in
    elim (is_line_feed x) as (λ b. (part : List ℕ) × (parts : List (List ℕ)) × (cond b ([] ∷ parts_of xs) (onto_first x (parts_of xs)) ≡ part ∷ parts))
    [ true ↦ ([], parts_of xs, refl) | false ↦ (x ∷ part, parts, ap (onto_first x) e) ]

first_of_placed : (line start : ℕ) (part xs : List ℕ) → placed line start (part ∷ parts_of xs) ≡ (place line start, without_last is_return part) ∷ placed (line + 1) (start + length part + 1) (parts_of xs)
first_of_placed line start part xs = let (next, parts, e) = has_first xs in rw e refl

at_line_feed : (bytes : List ℕ) → line_feed_at bytes < length bytes → IsFirstLine bytes (without_last is_return (take (line_feed_at bytes) bytes)) (line_feed_at bytes + 1)
at_line_feed bytes lt line start =
    let n : ℕ = line_feed_at bytes in
    let le : n ≤ length bytes = omega arith in
    let before : length (take n bytes) ≡ n = length-take-le n bytes le in
    let ends : start + length (take n bytes) + 1 ≡ start + (n + 1) = omega arith in
    ap (placed line start) (slice_split_first is_line_feed bytes 0 lt)
    ∙ first_of_placed line start (take n bytes) (drop (n + 1) bytes)
    ∙ ap (λ s. (place line start, without_last is_return (take n bytes)) ∷ placed (line + 1) s (parts_of (drop (n + 1) bytes))) ends

some_place : (p len n : ℕ) → Some n ≡ cond (ltb p len) (Some p) None → (n ≡ p) × (p < len)
some_place p len n e = grind (arith, nat_tests)

no_place : (p len : ℕ) → None ≡ cond (ltb p len) (Some p) None → len ≤ p
no_place p len e = grind (arith, nat_tests)

-- a line that ends with LF
pub ended_first : (bytes : List ℕ) (n : ℕ) → Some n ≡ cond (ltb (line_feed_at bytes) (length bytes)) (Some (line_feed_at bytes)) None → IsFirstLine bytes (without_last is_return (take n bytes)) (n + 1)
ended_first bytes n found =
    let (is, lt) = some_place (line_feed_at bytes) (length bytes) n found in
    let P : ℕ → Type 0 = λ m. IsFirstLine bytes (without_last is_return (take m bytes)) (m + 1) in
    subst P (sym is) (at_line_feed bytes lt)

one_part : (b : Bool) (x : ℕ) (xs : List ℕ) (n : ℕ) → suc (length xs) ≤ cond (not b) (1 + n) 0 → (length xs ≤ n → parts_of xs ≡ xs ∷ []) → cond b ([] ∷ parts_of xs) (onto_first x (parts_of xs)) ≡ (x ∷ xs) ∷ []
one_part true x xs n h others = absurd (omega arith)
one_part false x xs n h others = ap (onto_first x) (others (omega arith))

whole_part : (xs : List ℕ) → length xs ≤ line_feed_at xs → parts_of xs ≡ xs ∷ []
whole_part [] h = refl
whole_part (x ∷ xs) h = one_part (is_line_feed x) x xs (line_feed_at xs) h (whole_part xs)

not_empty : (n : ℕ) → 1 ≤ n → (n == 0) ≡ false
not_empty n h = grind (arith, nat_tests)

-- a line that ends with the bytes
pub whole_first : (bytes : List ℕ) → 1 ≤ length bytes → None ≡ cond (ltb (line_feed_at bytes) (length bytes)) (Some (line_feed_at bytes)) None → IsFirstLine bytes bytes (length bytes)
whole_first [] some none line start = absurd (omega arith)
whole_first (x ∷ xs) some none line start =
    let bytes : List ℕ = x ∷ xs in
    ap (placed line start) (whole_part bytes (no_place (line_feed_at bytes) (length bytes) none))
    ∙ ap (λ b. cond b [] ((place line start, bytes) ∷ [])) (not_empty (length bytes) some)
    ∙ ap (λ rest. (place line start, bytes) ∷ placed (line + 1) (start + length bytes) (parts_of rest)) (sym (drop-length bytes))
