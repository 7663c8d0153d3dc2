-- Texts that stood before, by those that are kept.
use Rattle.std.proofs.Common.{◌≡◌, ℕ, Bool, true, false, ◌||◌, Bor, List, [], ◌∷◌, ◌++◌, map, refl, ap, ◌∙◌}
use Rattle.std.specs.Prelude.{if◌then◌else◌}
use Rattle.std.specs.List.{list_any}
use Rattle.std.specs.Str.{bytes_eq}
use Rattle.std.proofs.lemmas.List.{map-append}
use Rattle.std.proofs.lemmas.List.Folds.{list_any-append}
use Rattle.std.proofs.lemmas.Slice.Eq.{bytes_eq-Decides}

-- the texts that references refer to
abbrev pub known : List (Bor (List ℕ)) → List (List ℕ)
known keys = map (λ k. k.now) keys

pub any_known : (text : List ℕ) (keys : List (Bor (List ℕ))) → list_any (λ k. bytes_eq text k.now) keys ≡ list_any (bytes_eq text) (known keys)
any_known text [] = refl
any_known text (k ∷ keys) = rw (any_known text keys)

-- the same texts are among both
abbrev pub SameTexts : List (List ℕ) → List (List ℕ) → Type 0
SameTexts xs ys = (text : List ℕ) → list_any (bytes_eq text) xs ≡ list_any (bytes_eq text) ys

either_way : (a b : Bool) → (a || (b || false)) ≡ (b || a)
either_way true true = refl
either_way true false = refl
either_way false true = refl
either_way false false = refl

or_true : (a b : Bool) → (a ≡ true → b ≡ true) → b ≡ (a || b)
or_true true b h = h refl
or_true false b h = refl

-- a text is put among others where it is none of them
pub put_by : (b : Bool) (text : Bor (List ℕ)) (keys : List (Bor (List ℕ))) → list_any (bytes_eq text.now) (known keys) ≡ b
    → SameTexts (known (if b then keys else keys ++ text ∷ [])) (text.now ∷ known keys)
put_by true text keys among = λ other. or_true (bytes_eq other text.now) (list_any (bytes_eq other) (known keys))
    (λ same. ap (λ t. list_any (bytes_eq t) (known keys)) ((bytes_eq-Decides other text.now).0 same) ∙ among)
put_by false text keys among = λ other.
    ap (list_any (bytes_eq other)) (map-append _ keys (text ∷ [])) ∙ list_any-append (bytes_eq other) (known keys) (text.now ∷ [])
    ∙ either_way (list_any (bytes_eq other) (known keys)) (bytes_eq other text.now)

pub more_texts : (text : List ℕ) (xs ys : List (List ℕ)) → SameTexts xs ys → SameTexts (text ∷ xs) (text ∷ ys)
more_texts text xs ys same = λ other. ap (λ b. bytes_eq other text || b) (same other)
