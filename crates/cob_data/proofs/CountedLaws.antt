-- The items that count into a length, one by one.
use Rattle.std.proofs.Common.{◌≡◌, ◌<◌, ℕ, ◌+◌, Bool, true, false, not, ◌&&◌, ◌||◌, List, [], ◌∷◌, length, get_or, drop, Option, None, refl, sym, ap, ◌∙◌, arith}
use Rattle.std.specs.Prelude.{if◌then◌else◌}
use Rattle.std.specs.List.{list_any}
use Rattle.std.proofs.lemmas.List.Sums.{sum-map, sum_by-cons}
use Rattle.cob_lex.specs.declared.token.Token.{Token}
use Rattle.cob_data.proofs.Fronts.{front_at}
use Rattle.cob_data.specs.Entries.{picture_in}
use Rattle.cob_data.specs.Faults.{counting_items, cover_behind, first_item, is_bad, is_covered, put_unless, record_size}
use Rattle.cob_data.specs.Levels.{own_size}

size_by : (b : Bool) (x : List Token) (xs : List (List Token)) → record_size (put_unless b x xs) ≡ (if b then 0 else own_size x) + record_size xs
size_by true x xs = omega arith
size_by false x xs = sum-map own_size (x ∷ xs) ∙ sum_by-cons own_size x xs ∙ ap (λ n. own_size x + n) (sym (sum-map own_size xs))

bad_by : (b : Bool) (x : List Token) (xs : List (List Token))
    → list_any (λ item. is_bad (picture_in item)) (put_unless b x xs) ≡ (not b && is_bad (picture_in x)) || list_any (λ item. is_bad (picture_in item)) xs
bad_by true x xs = refl
bad_by false x xs = refl

pub size_next : (cover : Option ℕ) (total size whole i : ℕ) (x : List Token) (items : List (List Token)) → i < length items → x ≡ get_or items i x
    → size ≡ (if is_covered cover x then 0 else own_size x) → total + record_size (counting_items cover (drop i items)) ≡ whole
    → total + size + record_size (counting_items (cover_behind cover x) (drop (i + 1) items)) ≡ whole
size_next cover total size whole i x items within at_place sizes left =
    let rest = counting_items (cover_behind cover x) (drop (i + 1) items) in
    let split : record_size (counting_items cover (drop i items)) ≡ size + record_size rest =
    ap (λ ys. record_size (counting_items cover ys)) (front_at items i x within at_place) ∙ size_by (is_covered cover x) x rest ∙ ap (λ n. n + record_size rest) (sym sizes) in
    omega (arith, split, left)

bad_parts : (b other : Bool) → b ≡ false → (b || other) ≡ other
bad_parts true other h = cc
bad_parts false other h = refl

bad_now : (b other : Bool) → b ≡ true → (b || other) ≡ true
bad_now true other h = refl
bad_now false other h = cc

abbrev any_bad : List (List Token) → Bool
any_bad items = list_any (λ item. is_bad (picture_in item)) items

bad_front : (cover : Option ℕ) (i : ℕ) (x : List Token) (items : List (List Token)) → i < length items → x ≡ get_or items i x
    → any_bad (counting_items cover (drop i items)) ≡ (not (is_covered cover x) && is_bad (picture_in x)) || any_bad (counting_items (cover_behind cover x) (drop (i + 1) items))
bad_front cover i x items within at_place =
    ap (λ ys. any_bad (counting_items cover ys)) (front_at items i x within at_place) ∙ bad_by (is_covered cover x) x (counting_items (cover_behind cover x) (drop (i + 1) items))

pub not_bad_next : (cover : Option ℕ) (whole : Bool) (i : ℕ) (x : List Token) (items : List (List Token)) → i < length items → x ≡ get_or items i x
    → (not (is_covered cover x) && is_bad (picture_in x)) ≡ false → any_bad (counting_items cover (drop i items)) ≡ whole → any_bad (counting_items (cover_behind cover x) (drop (i + 1) items)) ≡ whole
not_bad_next cover whole i x items within at_place good left =
    sym (bad_parts (not (is_covered cover x) && is_bad (picture_in x)) _ good) ∙ sym (bad_front cover i x items within at_place) ∙ left

pub bad_next : (cover : Option ℕ) (whole : Bool) (i : ℕ) (x : List Token) (items : List (List Token)) → i < length items → x ≡ get_or items i x
    → (not (is_covered cover x) && is_bad (picture_in x)) ≡ true → any_bad (counting_items cover (drop i items)) ≡ whole → true ≡ whole
bad_next cover whole i x items within at_place bad left =
    sym (bad_now (not (is_covered cover x) && is_bad (picture_in x)) _ bad) ∙ sym (bad_front cover i x items within at_place) ∙ left

pub first_counted : (items : List (List Token)) → first_item (counting_items None items) ≡ first_item items
first_counted [] = refl
first_counted (x ∷ xs) = refl
