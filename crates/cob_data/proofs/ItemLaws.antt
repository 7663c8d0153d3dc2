-- Items one by one.
use Rattle.std.proofs.Common.{◌≡◌, ◌<◌, ℕ, suc, ◌+◌, true, List, [], ◌∷◌, length, drop, get_or, map, sum, nat_lt, sym, ap, ◌∙◌, arith, drop-cons}
use Rattle.std.specs.Prelude.{cond}
use Rattle.std.proofs.lemmas.List.Sums.{sum-map, sum_by-cons, take_while-cons}
use Rattle.std.proofs.lemmas.Grind.{common_steps}
use Rattle.std.proofs.lemmas.Bool.Decides.{nat_tests}
use Rattle.cob_lex.specs.declared.token.Token.{Token}
use Rattle.cob_data.specs.Levels.{below, own_size, rank}

is_lower : (n m : ℕ) → n < m → nat_lt n m ≡ true
is_lower n m h = grind (arith, common_steps, nat_tests)

one_below : (own : ℕ) (x : List Token) (xs : List (List Token)) → own < rank x → sum (map own_size (below own (x ∷ xs))) ≡ own_size x + sum (map own_size (below own xs))
one_below own x xs lower =
    ap (λ ys. sum (map own_size ys)) (take_while-cons (λ y. nat_lt own (rank y)) x xs)
    ∙ ap (λ b. sum (map own_size (cond b (x ∷ below own xs) []))) (is_lower own (rank x) lower)
    ∙ sum-map own_size (x ∷ below own xs) ∙ sum_by-cons own_size x (below own xs) ∙ ap (λ n. own_size x + n) (sym (sum-map own_size (below own xs)))

pub length_next : (own total size whole i : ℕ) (x : List Token) (others : List (List Token)) → i < length others → x ≡ get_or others i x → own < rank x → size ≡ own_size x
    → total + sum (map own_size (below own (drop i others))) ≡ whole → total + size + sum (map own_size (below own (drop (i + 1) others))) ≡ whole
length_next own total size whole i x others within at_place lower sizes left =
    let next : i + 1 ≡ suc i = omega arith in
    let here : drop i others ≡ x ∷ drop (suc i) others = drop-cons others i x within ∙ ap (λ y. y ∷ drop (suc i) others) (sym at_place) in
    let split : sum (map own_size (below own (drop i others))) ≡ own_size x + sum (map own_size (below own (drop (suc i) others))) = ap (λ ys. sum (map own_size (below own ys))) here ∙ one_below own x (drop (suc i) others) lower in
    rw next (omega (arith, split, sizes, left))
