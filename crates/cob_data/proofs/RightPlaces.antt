-- The items of a record without faults have 1 to 2,000 characters, and are within the record.
use Rattle.std.proofs.Common.{◌≡◌, ◌≤◌, ◌<◌, ℕ, ◌+◌, Bool, true, false, ◌&&◌, nat_le, nat_lt, List, [], ◌∷◌, Option, Some, None, refl, sym, ap, ◌∙◌, arith}
use Rattle.std.specs.Prelude.{cond, if◌then◌else◌, is_none, unwrap_or}
use Rattle.std.specs.List.{AllByRecursion}
use Rattle.std.proofs.lemmas.List.Sums.{sum-map, sum_by-cons, take_while-cons}
use Rattle.std.proofs.lemmas.Grind.{common_steps}
use Rattle.std.proofs.lemmas.Bool.Decides.{nat_tests}
use Rattle.cob_lex.specs.declared.token.Token.{Token}
use Rattle.cob_data.specs.declared.tree.ItemPlace.{ItemPlace}
use Rattle.cob_data.specs.declared.tree.ItemSort.{ItemSort}
use Rattle.cob_data.specs.declared.tree.ItemSort.TheVariants.{Alphanumeric, Numeric}
use Rattle.cob_data.specs.Divisions.{item_of, items_from, place_at}
use Rattle.cob_data.specs.Entries.{picture_in}
use Rattle.cob_data.specs.Faults.{is_bad, record_size}
use Rattle.cob_data.specs.Levels.{below, is_group, length_of, own_size, rank, size_by, sort_by, sort_of_item}
use Rattle.cob_data.specs.Pictures.{begins_with, most, size_of, sort_of, within, characters, unit_of}
use Rattle.cob_data.proofs.EntryShapes.{IsItemEntry}
use Rattle.cob_data.proofs.RightItems.{AreRight, IsRight, rank_next}
use Rattle.cob_data.proofs.RightRecords.{IsItemOf}
use Rattle.cob_data.proofs.Tests.{each_of_both}

-- PICTURES

-- a size that an item of the sort may have
record IsSizedAs (sort : ItemSort) (size : ℕ) : Type 0 where
  some : 1 ≤ size
  few : size ≤ most sort

tests_by : (a b : Bool) (k m n : ℕ) → nat_le 1 k ≡ a → nat_le k m ≡ b → (if a && b then Some k else None) ≡ Some n → (1 ≤ n) × (n ≤ m)
tests_by true true k m n e f h = let same : k ≡ n = cc in (grind (arith, common_steps, nat_tests), grind (arith, common_steps, nat_tests))
tests_by true false k m n e f h = let no : ⊥ = cc in absurd no
tests_by false b k m n e f h = let no : ⊥ = cc in absurd no

within_sort : (sort : ItemSort) (o : Option ℕ) (n : ℕ) → within sort o ≡ Some n → IsSizedAs sort n
within_sort sort None n h = let no : ⊥ = cc in absurd no
within_sort sort (Some k) n h = let t = tests_by (nat_le 1 k) (nat_le k (most sort)) k (most sort) n refl refl h in record { some = t.0; few = t.1 }

size_by_text : (o : Option ℕ) (text : List ℕ) → size_of text ≡ o → is_none o ≡ false → IsSizedAs (sort_of text) (unwrap_or o 0)
size_by_text None text e h = let no : ⊥ = cc in absurd no
size_by_text (Some n) text e h = within_sort (sort_of text) (characters (unit_of (sort_of text)) 0 text) n e

by_picture : (o : Option Token) → is_bad o ≡ false → is_group (sort_by o) ≡ false → IsSizedAs (sort_by o) (size_by o)
by_picture None good h = let no : ⊥ = cc in absurd no
by_picture (Some p) good h = size_by_text (size_of p.text) p.text refl good

elementary_size : (item : List Token) → is_bad (picture_in item) ≡ false → is_group (sort_of_item item) ≡ false → IsSizedAs (sort_of_item item) (own_size item)
elementary_size item good h = by_picture (picture_in item) good h

-- a group has no characters of its own
none_of_group : (text : List ℕ) (b : Bool) → is_group (if b then Numeric else Alphanumeric) ≡ false
none_of_group text true = refl
none_of_group text false = refl

group_by : (o : Option Token) → is_group (sort_by o) ≡ true → size_by o ≡ 0
group_by None h = refl
group_by (Some p) h = by (sort_of p.text) h (none_by p.text)
  where
    none_by : (text : List ℕ) → is_group (sort_of text) ≡ false
    none_by text = none_of_group text (begins_with 57 text)

    by : (s : ItemSort) → is_group s ≡ true → is_group s ≡ false → unwrap_or (size_of p.text) 0 ≡ 0
    by s h k = let no : ⊥ = cc in absurd no

pub group_size : (item : List Token) → is_group (sort_of_item item) ≡ true → own_size item ≡ 0
group_size item h = group_by (picture_in item) h

-- SUMS

pub one_more : (item : List Token) (items : List (List Token)) → record_size (item ∷ items) ≡ own_size item + record_size items
one_more item items = sum-map own_size (item ∷ items) ∙ sum_by-cons own_size item items ∙ ap (λ n. own_size item + n) (sym (sum-map own_size items))

below_next : (own : ℕ) (x : List Token) (xs : List (List Token)) → below own (x ∷ xs) ≡ cond (nat_lt own (rank x)) (x ∷ below own xs) []
below_next own x xs = take_while-cons (λ y. nat_lt own (rank y)) x xs

-- the items below one have no more characters than all items after it
below_by : (b : Bool) (own : ℕ) (x : List Token) (xs : List (List Token)) → record_size (below own xs) ≤ record_size xs → record_size (cond b (x ∷ below own xs) []) ≤ record_size (x ∷ xs)
below_by true own x xs h = omega (arith, one_more x (below own xs), one_more x xs, h)
below_by false own x xs h = omega arith

below_within : (own : ℕ) (items : List (List Token)) → record_size (below own items) ≤ record_size items
below_within own [] = omega arith
below_within own (x ∷ xs) = rw (below_next own x xs) (below_by (nat_lt own (rank x)) own x xs (below_within own xs))

-- the lower its rank, the more is below it
lower_by : (a b : Bool) (low high : ℕ) (x : List Token) (xs : List (List Token)) → (b ≡ true → a ≡ true) → record_size (below high xs) ≤ record_size (below low xs) → record_size (cond b (x ∷ below high xs) []) ≤ record_size (cond a (x ∷ below low xs) [])
lower_by true true low high x xs h k = omega (arith, one_more x (below high xs), one_more x (below low xs), k)
lower_by true false low high x xs h k = omega arith
lower_by false false low high x xs h k = omega arith
lower_by false true low high x xs h k = let no : false ≡ true = h refl in let wrong : ⊥ = cc in absurd wrong

passes_lower : (low high r : ℕ) → low ≤ high → nat_lt high r ≡ true → nat_lt low r ≡ true
passes_lower low high r le h = grind (arith, common_steps, nat_tests)

lower_more : (low high : ℕ) (items : List (List Token)) → low ≤ high → record_size (below high items) ≤ record_size (below low items)
lower_more low high [] le = omega arith
lower_more low high (x ∷ xs) le = rw (below_next low x xs, below_next high x xs) (lower_by (nat_lt low (rank x)) (nat_lt high (rank x)) low high x xs (passes_lower low high (rank x) le) (lower_more low high xs le))

-- LENGTHS

is_less : (a b : ℕ) → a < b → nat_lt a b ≡ true
is_less a b h = grind (arith, common_steps, nat_tests)

is_not_less : (a b : ℕ) → b ≤ a → nat_lt a b ≡ false
is_not_less a b h = grind (arith, common_steps, nat_tests)

-- nothing is below an elementary item
none_below : (own : ℕ) (items : List (List Token)) → rank_next items ≤ own → below own items ≡ []
none_below own [] h = refl
none_below own (x ∷ xs) h = below_next own x xs ∙ ap (λ b. cond b (x ∷ below own xs) []) (is_not_less own (rank x) h)

pub elementary_length : (over_cd : Bool) (item : List Token) (others : List (List Token)) → IsRight over_cd (rank_next others) item → is_group (sort_of_item item) ≡ false → length_of item others ≡ own_size item
elementary_length over_cd item others r h = let none = ap record_size (none_below (rank item) others (r.elementary h)) in let nothing : record_size [] ≡ 0 = refl in omega (arith, none, nothing)

module _ (over_cd : Bool) (Q : Token → Type 0) where
  length_by : (g : Bool) (item : List Token) (others : List (List Token)) → is_group (sort_of_item item) ≡ g → IsRight over_cd (rank_next others) item → is_bad (picture_in item) ≡ false
      → ((x : List Token) (xs : List (List Token)) → others ≡ x ∷ xs → 1 ≤ length_of x xs) → 1 ≤ length_of item others
  length_by false item others e r good next = omega (arith, (elementary_size item good e).some)
  length_by true item [] e r good next = absurd (omega (arith, r.group e))
  length_by true item (x ∷ xs) e r good next =
      let lower : rank item < rank x = r.group e in
      let here = ap record_size (below_next (rank item) x xs ∙ ap (λ b. cond b (x ∷ below (rank item) xs) []) (is_less (rank item) (rank x) lower)) in
      omega (arith, here, one_more x (below (rank item) xs), lower_more (rank item) (rank x) xs (omega (arith, lower)), next x xs refl)

  pub some_length : (item : List Token) (others : List (List Token)) → AreRight over_cd (item ∷ others) → AllByRecursion (IsItemOf Q) (item ∷ others) → 1 ≤ length_of item others
  some_length item [] r p = length_by (is_group (sort_of_item item)) item [] refl r.0 p.0.picture (λ x xs e. let no : ⊥ = cc in absurd no)
  some_length item (x ∷ xs) r p = length_by (is_group (sort_of_item item)) item (x ∷ xs) refl r.0 p.0.picture (same (some_length x xs r.1 p.1))
    where
      same : 1 ≤ length_of x xs → (y : List Token) (ys : List (List Token)) → x ∷ xs ≡ y ∷ ys → 1 ≤ length_of y ys
      same h y ys e = let one : x ≡ y = cc in let two : xs ≡ ys = cc in rw (sym one, sym two) h

-- PLACES

-- an item of 1 to 2,000 characters, a numeric one of at most 18, within an area of so many characters
pub record IsPlace (area size : ℕ) (place : ItemPlace) : Type 0 where
  pub some : 1 ≤ place.length
  pub few : place.length ≤ 2000
  pub few_digits : place.sort ≡ Numeric → place.length ≤ 18
  pub in_area : place.area ≡ area
  pub within : place.start + place.length ≤ size

no_group : (s : ItemSort) → s ≡ Numeric → is_group s ≡ false
no_group s h = ap is_group h

digits_by : (s : ItemSort) (n : ℕ) → s ≡ Numeric → n ≤ most s → n ≤ 18
digits_by s n h le = rw h at le

numeric_length : (over_cd : Bool) (item : List Token) (others : List (List Token)) → IsRight over_cd (rank_next others) item → is_bad (picture_in item) ≡ false → sort_of_item item ≡ Numeric → length_of item others ≤ 18
numeric_length over_cd item others r good h =
    let elementary = no_group (sort_of_item item) h in
    let size = elementary_size item good elementary in
    omega (arith, elementary_length over_cd item others r elementary, digits_by (sort_of_item item) (own_size item) h size.few)

-- an item as it is written is at its place
one_item : (item : List Token) (place : ItemPlace) (P : ItemPlace → Type 0) → IsItemEntry item → P place → AllByRecursion (λ i. P i.place) (item_of item place)
one_item item place P e h = rw e.whole (h, tt)

module _ (over_cd : Bool) (Q : Token → Type 0) (area size : ℕ) (few : size ≤ 2000) where
  one_place : (start : ℕ) (item : List Token) (others : List (List Token)) → AreRight over_cd (item ∷ others) → AllByRecursion (IsItemOf Q) (item ∷ others) → start + record_size (item ∷ others) ≤ size → IsPlace area size (place_at area start item others)
  one_place start item others r p fits =
      let inside : start + length_of item others ≤ size = omega (arith, one_more item others, below_within (rank item) others, fits) in
      record {
        some = some_length over_cd Q item others r p;
        few = omega (arith, inside, few);
        few_digits = λ h. numeric_length over_cd item others r.0 p.0.picture h;
        in_area = refl;
        within = inside;
      }

  pub places_from : (start : ℕ) (items : List (List Token)) → AreRight over_cd items → AllByRecursion (IsItemOf Q) items → start + record_size items ≤ size → AllByRecursion (λ i. IsPlace area size i.place) (items_from area start items)
  places_from start [] r p fits = tt
  places_from start (item ∷ others) r p fits =
      each_of_both (λ i. IsPlace area size i.place) (item_of item (place_at area start item others)) (items_from area (start + own_size item) others)
      (one_item item (place_at area start item others) (IsPlace area size) p.0.shape (one_place start item others r p fits))
      (places_from (start + own_size item) others r.1 p.1 (omega (arith, one_more item others, fits)))
