-- The longest run at the beginning of a list that passes a test.
use Rattle.std.proofs.Common.{◌≡◌, ℕ, ◌≤◌, Bool, not, cond, ltb, List, [], ◌∷◌, length, take, Option, Some, None, refl, ap, ◌∙◌, arith}
use Rattle.std.specs.List.{prefix_len, position_or_len, take_while}
use Rattle.std.specs.Option.{unwrap_or}
use Rattle.std.proofs.lemmas.Bool.Decides.{nat_tests}
use Rattle.std.proofs.lemmas.List.Sums.{prefix_len-le-length}

-- a place, or the end where there is none
place_or_end : (place end : ℕ) → place ≤ end → unwrap_or (cond (ltb place end) (Some place) None) end ≡ place
place_or_end place end h = grind (arith, nat_tests)

prefix_len-same : (p q : ℕ → Bool) → ((x : ℕ) → p x ≡ q x) → (xs : List ℕ) → prefix_len p xs ≡ prefix_len q xs
prefix_len-same p q same [] = refl
prefix_len-same p q same (x ∷ xs) = rw (same x, prefix_len-same p q same xs) refl

-- the bytes before the first one that ends a run are the run
pub run_by_place : (p ends : ℕ → Bool) (xs : List ℕ) (n : ℕ) (place : Option ℕ) → ((x : ℕ) → not (ends x) ≡ p x)
    → place ≡ cond (ltb (position_or_len ends xs) (length xs)) (Some (position_or_len ends xs)) None
    → n ≡ unwrap_or place (length xs) → take n xs ≡ take_while p xs
run_by_place p ends xs n place same found is =
    let where_it_ends : n ≡ prefix_len p xs = is ∙ ap (λ o. unwrap_or o (length xs)) found
    ∙ place_or_end (position_or_len ends xs) (length xs) (prefix_len-le-length (λ x. not (ends x)) xs)
    ∙ prefix_len-same (λ x. not (ends x)) p same xs in
    ap (λ m. take m xs) where_it_ends
