-- A stack is kept with its top at the end.
use Rattle.std.proofs.Common.{◌≡◌, ℕ, suc, ◌-◌, ◌<◌, ◌≤◌, List, [], ◌∷◌, ◌++◌, reverse, length, take, drop, get_or, refl, sym, ap, ◌∙◌, subst, arith}
use Rattle.std.specs.Prelude.{slice_set}
use Rattle.std.proofs.lemmas.List.{set_split, set-get_or, drop_all, reverse-append, length-reverse}

-- a list with another last item
last_set : {X : Type 0} (xs : List X) (n : ℕ) (t : X) → n < length xs → length xs ≤ suc n → reverse (slice_set xs n t) ≡ t ∷ reverse (take n xs)
last_set xs n t lt past =
    ap reverse (set_split xs n t lt ∙ ap (λ l. take n xs ++ t ∷ l) (drop_all (suc n) xs past))
    ∙ reverse-append (take n xs) (t ∷ [])

-- another top
pub replaced : {X : Type 0} (xs ys : List X) (t : X) → reverse xs ≡ ys → 0 < length xs → reverse (slice_set xs (length xs - 1) t) ≡ t ∷ drop 1 ys
replaced xs ys t e some =
    let n = length xs - 1 in
    let lt : n < length xs = omega arith in
    let past : length xs ≤ suc n = omega arith in
    let same : ys ≡ get_or xs n t ∷ reverse (take n xs) = sym e ∙ ap reverse (sym (set-get_or xs n t)) ∙ last_set xs n (get_or xs n t) lt past in
    last_set xs n t lt past ∙ ap (λ l. t ∷ drop 1 l) (sym same)

pub top_set : {X : Type 0} (xs ys : List X) (t : X) (n : ℕ) → reverse xs ≡ ys → 0 < length ys → n ≡ length xs → reverse (slice_set xs (n - 1) t) ≡ t ∷ drop 1 ys
top_set xs ys t n e some h =
    let long : length ys ≡ length xs = ap length (sym e) ∙ length-reverse xs in
    ap (λ k. reverse (slice_set xs (k - 1) t)) h ∙ replaced xs ys t e (omega arith)
