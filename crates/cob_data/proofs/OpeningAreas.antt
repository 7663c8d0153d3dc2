-- Each area of Working-Storage begins as a text that is as long as its record.
use Rattle.std.proofs.Common.{◌≡◌, ◌≤◌, ℕ, zero, suc, ◌+◌, ◌-◌, Bool, true, false, not, ◌||◌, nat_le, List, [], ◌∷◌, ◌++◌, length, Option, Some, None, codes, refl, sym, ap, ◌∙◌, arith, length-append, append_assoc}
use Rattle.std.specs.Prelude.{IfSome, find, if◌then◌else◌, is_none, option_map, unwrap_or}
use Rattle.std.specs.List.{AllByRecursion, list_all}
use Rattle.std.proofs.lemmas.List.{length-replicate}
use Rattle.std.proofs.lemmas.Grind.{common_steps}
use Rattle.std.proofs.lemmas.Bool.Decides.{nat_tests}
use Rattle.com_text.specs.Name.{spaces}
use Rattle.com_text.specs.Text.{IsText}
use Rattle.com_text.proofs.Texts.{IsText-append, IsText-spaces}
use Rattle.com_cd.specs.InputArea.{zeros}
use Rattle.cob_lex.specs.declared.fault.SourceKind.{SourceKind}
use Rattle.cob_lex.specs.declared.fault.SourceKind.TheVariants as faults
use Rattle.cob_lex.specs.declared.token.Token.{Token}
use Rattle.cob_lex.specs.declared.token.TokenKind.{TokenKind}
use Rattle.cob_lex.specs.declared.token.TokenKind.TheVariants as tokens
use Rattle.cob_forms.specs.Sorts.{is, name, of_kind, reserved}
use Rattle.cob_forms.specs.Written.{between_marks, number_of}
use Rattle.cob_forms.proofs.Only.{apart}
use Rattle.cob_data.specs.declared.tree.Item.{Item}
use Rattle.cob_data.specs.declared.tree.ItemPlace.{ItemPlace}
use Rattle.cob_data.specs.declared.tree.ItemSort.{ItemSort}
use Rattle.cob_data.specs.declared.tree.ItemSort.TheVariants.{Alphanumeric, Numeric, Group}
use Rattle.cob_data.specs.declared.tree.Value.{Value}
use Rattle.cob_data.specs.declared.tree.Value.TheVariants as values
use Rattle.cob_data.specs.Clauses.{is_name_or_filler}
use Rattle.cob_data.specs.Divisions.{item_of, items_by_area, items_from, name_if, picture_of, place_at, value_by, value_of, word_value}
use Rattle.cob_data.specs.Entries.{behind, picture_in, value_in}
use Rattle.cob_data.specs.Faults.{is_bad, kind_at, record_size, sized_value, up_to, value_faults, value_kind, wrong_value}
use Rattle.cob_data.specs.Layout.{begins_record, fill, filled, opening_by, opening_of}
use Rattle.cob_data.specs.Levels.{is_group, is_record, length_of, own_size, size_by, sort_by, sort_of_item}
use Rattle.cob_data.specs.Pictures.{size_of, sort_of}
use Rattle.cob_data.proofs.NumeralLaws.{both}
use Rattle.cob_data.proofs.EntryShapes.{IsItemEntry}
use Rattle.cob_data.proofs.RightItems.{AreRight, IsRight, rank_next}
use Rattle.cob_data.proofs.RightRecords.{IsItemOf, IsRecord}
use Rattle.cob_data.proofs.RightPlaces.{elementary_length, group_size, one_more}
use Rattle.cob_data.proofs.LiteralTexts.{between_text, characters_text}
use Rattle.cob_data.proofs.Tests.{not_true}

-- TEXTS OF VALUES

-- the characters of a value are a text
abbrev IsTextOf : Value → Type 0
IsTextOf (values.Literal l) = IsText l.characters
IsTextOf (values.Number k) = IsText k.digits
IsTextOf (values.Spaces p) = Unit {0}
IsTextOf (values.Zeros p) = Unit {0}

word_text : (b : Bool) (t : Token) (v w : Value) → IsTextOf v → IsTextOf w → IsTextOf (if b then v else w)
word_text true t v w h k = h
word_text false t v w h k = k

is_word_text : (t : Token) → IsTextOf (word_value t)
is_word_text t = word_text (is (reserved (codes "SPACE")) t || is (reserved (codes "SPACES")) t) t _ _ tt tt

text_by : (kind : TokenKind) (t : Token) → IsText t.text → IsTextOf (value_by kind t)
text_by tokens.Literal t h = characters_text (between_marks t.text) (between_text t.text h)
text_by tokens.Number t h = h
text_by tokens.Word t h = is_word_text t
text_by tokens.Picture t h = is_word_text t
text_by tokens.Period t h = is_word_text t
text_by tokens.Open t h = is_word_text t
text_by tokens.Close t h = is_word_text t
text_by tokens.Equal t h = is_word_text t
text_by tokens.Greater t h = is_word_text t
text_by tokens.Less t h = is_word_text t

-- THE CHARACTERS WITH WHICH AN ITEM BEGINS

-- a text of so many characters
pub record IsTextFor (size : ℕ) (characters : List ℕ) : Type 0 where
  pub size_is : length characters ≡ size
  pub text : IsText characters

IsText-zeros : (n : ℕ) → IsText (zeros n)
IsText-zeros zero = refl
IsText-zeros (suc n) = IsText-zeros n

spaces_for : (n : ℕ) → IsTextFor n (spaces n)
spaces_for n = record { size_is = length-replicate {A = ℕ} n 32; text = IsText-spaces n }

zeros_for : (n : ℕ) → IsTextFor n (zeros n)
zeros_for n = record { size_is = length-replicate {A = ℕ} n 48; text = IsText-zeros n }

fits : (n limit : ℕ) → up_to limit n ≡ None → n ≤ limit
fits n limit h = by (nat_le n limit) refl h
  where
    by : (b : Bool) → nat_le n limit ≡ b → (if b then None else Some faults.WrongLength) ≡ None → n ≤ limit
    by true e h = grind (arith, common_steps, nat_tests)
    by false e h = let no : ⊥ = cc in absurd no

literal_for : (n : ℕ) (characters : List ℕ) → length characters ≤ n → IsText characters → IsTextFor n (characters ++ spaces (n - length characters))
literal_for n characters le h = record {
  size_is = omega (arith, length-append characters (spaces (n - length characters)), length-replicate {A = ℕ} (n - length characters) 32, le);
  text = IsText-append characters (spaces (n - length characters)) h (IsText-spaces (n - length characters));
}

number_for : (n : ℕ) (digits : List ℕ) → length digits ≤ n → IsText digits → IsTextFor n (zeros (n - length digits) ++ digits)
number_for n digits le h = record {
  size_is = omega (arith, length-append (zeros (n - length digits)) digits, length-replicate {A = ℕ} (n - length digits) 48, le);
  text = IsText-append (zeros (n - length digits)) digits (IsText-zeros (n - length digits)) h;
}

value_for : (sort : ItemSort) (n : ℕ) (v : Value) → value_kind sort n v ≡ None → IsTextOf v → IsTextFor n (opening_by sort (Some v) n)
value_for Alphanumeric n (values.Literal l) h t = literal_for n l.characters (fits (length l.characters) n h) t
value_for Numeric n (values.Number k) h t = number_for n k.digits (fits (length k.digits) n h) t
value_for Alphanumeric n (values.Spaces p) h t = spaces_for n
value_for Alphanumeric n (values.Zeros p) h t = zeros_for n
value_for Numeric n (values.Zeros p) h t = zeros_for n
value_for Alphanumeric n (values.Number k) h t = let no : ⊥ = cc in absurd no
value_for Numeric n (values.Literal l) h t = let no : ⊥ = cc in absurd no
value_for Numeric n (values.Spaces p) h t = let no : ⊥ = cc in absurd no
value_for Group n (values.Literal l) h t = let no : ⊥ = cc in absurd no
value_for Group n (values.Number k) h t = let no : ⊥ = cc in absurd no
value_for Group n (values.Spaces p) h t = let no : ⊥ = cc in absurd no
value_for Group n (values.Zeros p) h t = let no : ⊥ = cc in absurd no

none_for : (sort : ItemSort) (n : ℕ) → is_group sort ≡ false → IsTextFor n (opening_by sort None n)
none_for Alphanumeric n h = spaces_for n
none_for Numeric n h = zeros_for n
none_for Group n h = let no : ⊥ = cc in absurd no

no_kind : (o : Option SourceKind) (t : Token) → kind_at o t ≡ [] → o ≡ None
no_kind None t h = refl
no_kind (Some kind) t h = let no : ⊥ = cc in absurd no

sized_for : (o : Option ℕ) (sort : ItemSort) (v : Value) → is_none o ≡ false → sized_value o sort v ≡ None → IsTextOf v → IsTextFor (unwrap_or o 0) (opening_by sort (Some v) (unwrap_or o 0))
sized_for None sort v good h t = let no : ⊥ = cc in absurd no
sized_for (Some n) sort v good h t = value_for sort n v h t

-- an elementary item begins with as many characters as its picture has
opened_by : (o v : Option Token) → is_bad o ≡ false → is_group (sort_by o) ≡ false → value_faults false o v ≡ [] → IfSome v (λ t. IsText t.text) → IsTextFor (size_by o) (opening_by (sort_by o) (option_map value_of v) (size_by o))
opened_by None v good h none t = let no : ⊥ = cc in absurd no
opened_by (Some p) None good h none t = none_for (sort_of p.text) (unwrap_or (size_of p.text) 0) h
opened_by (Some p) (Some v) good h none t =
    sized_for (size_of p.text) (sort_of p.text) (value_of v) good (no_kind (wrong_value false (Some p) (value_of v)) v none) (text_by v.kind v t)

-- ITEMS

abbrev IsTextToken : Token → Type 0
IsTextToken t = IsText t.text

abbrev value_word : Token → Bool
value_word t = is (reserved (codes "VALUE")) t

named_no_value : (t : Token) → is_name_or_filler t ≡ true → value_word t ≡ false
named_no_value t h = by (is name t) (is (reserved (codes "FILLER")) t) refl refl h
  where
    by : (a b : Bool) → is name t ≡ a → is (reserved (codes "FILLER")) t ≡ b → (a || b) ≡ true → value_word t ≡ false
    by true b e f h = apart name (reserved (codes "VALUE")) t e refl
    by false true e f h = apart (reserved (codes "FILLER")) (reserved (codes "VALUE")) t f refl
    by false false e f h = let no : ⊥ = cc in absurd no

passed : (t : Token) (ts : List Token) → value_word t ≡ false → behind value_word (t ∷ ts) ≡ behind value_word ts
passed t ts h = rw h refl

-- the value comes after the level and the name
value_behind : (level named : Token) (others : List Token) → is (of_kind tokens.Number) level ≡ true → is_name_or_filler named ≡ true → value_in (level ∷ named ∷ others) ≡ value_in others
value_behind level named others h k =
    ap (find (λ t. not (is (reserved (codes "IS")) t))) (passed level (named ∷ others) (apart (of_kind tokens.Number) (reserved (codes "VALUE")) level h refl) ∙ passed named others (named_no_value named k))

group_opening : (sort : ItemSort) (v : Option Value) (n size : ℕ) → is_group sort ≡ true → size ≡ 0 → IsTextFor size (opening_by sort v n)
group_opening Group v n size h e = record { size_is = sym e; text = refl }
group_opening Alphanumeric v n size h e = let no : ⊥ = cc in absurd no
group_opening Numeric v n size h e = let no : ⊥ = cc in absurd no

opening_at : (g : Bool) (item : List Token) (others : List (List Token)) → is_group (sort_of_item item) ≡ g → IsRight false (rank_next others) item → IsItemOf IsTextToken item
    → IsTextFor (own_size item) (opening_by (sort_of_item item) (option_map value_of (value_in item)) (length_of item others))
opening_at true item others e r p = group_opening (sort_of_item item) (option_map value_of (value_in item)) (length_of item others) (own_size item) e (group_size item e)
opening_at false item others e r p = rw (elementary_length false item others r e) (opened_by (picture_in item) (value_in item) p.picture e r.value p.value)

-- an item as it is written
abbrev written : (item : List Token) → IsItemEntry item → ItemPlace → Item
written item e place = record {
  level = number_of e.level;
  name = name_if e.named;
  picture = option_map picture_of (picture_in e.others);
  value = option_map value_of (value_in e.others);
  place = place;
}

is_written : (item : List Token) (e : IsItemEntry item) (place : ItemPlace) → item_of item place ≡ written item e place ∷ []
is_written item e place = ap (λ us. item_of us place) e.whole

begins_as : (item : List Token) (e : IsItemEntry item) (place : ItemPlace) → begins_record (written item e place) ≡ is_record item
begins_as item e place = sym (ap is_record e.whole)

value_as : (item : List Token) (e : IsItemEntry item) → value_in e.others ≡ value_in item
value_as item e = sym (ap value_in e.whole ∙ value_behind e.level e.named e.others e.number e.name)

written_opening : (area start : ℕ) (item : List Token) (others : List (List Token)) (p : IsItemOf IsTextToken item) → IsRight false (rank_next others) item
    → IsTextFor (own_size item) (opening_of (written item p.shape (place_at area start item others)))
written_opening area start item others p r =
    rw (value_as item p.shape) (opening_at (is_group (sort_of_item item)) item others refl r p)

-- FILLED AREAS

-- so many characters before the first record, and these areas
record IsFilled (size : ℕ) (areas : List (List ℕ)) (s : List ℕ × List (List ℕ)) : Type 0 where
  before : IsTextFor size s.0
  same : s.1 ≡ areas

-- an area for each record, as long as the record
abbrev pub AreAreasOf : List (List (List Token)) → List (List ℕ) → Type 0
AreAreasOf [] [] = Unit {0}
AreAreasOf [] (x ∷ xs) = ⊥
AreAreasOf (record_items ∷ records) [] = ⊥
AreAreasOf (record_items ∷ records) (x ∷ xs) = IsTextFor (record_size record_items) x × AreAreasOf records xs

both_for : (n m : ℕ) (xs ys : List ℕ) → IsTextFor n xs → IsTextFor m ys → IsTextFor (n + m) (xs ++ ys)
both_for n m xs ys a b = record { size_is = omega (arith, length-append xs ys, a.size_is, b.size_is); text = IsText-append xs ys a.text b.text }

filled_on : (item : Item) (n m : ℕ) (areas : List (List ℕ)) (s : List ℕ × List (List ℕ)) → begins_record item ≡ false → IsTextFor n (opening_of item) → IsFilled m areas s → IsFilled (n + m) areas (filled (begins_record item) (opening_of item) s)
filled_on item n m areas s e o f = rw e (record { before = both_for n m (opening_of item) s.0 o f.before; same = f.same })

-- one item before others
fill_one : (item : List Token) (e : IsItemEntry item) (place : ItemPlace) (items : List Item) → fill (item_of item place ++ items) ≡ filled (begins_record (written item e place)) (opening_of (written item e place)) (fill items)
fill_one item e place items = ap (λ us. fill (us ++ items)) (is_written item e place)

below_filled : (area start : ℕ) (items : List (List Token)) (behind : List Item) (areas : List (List ℕ)) → AreRight false items → AllByRecursion (IsItemOf IsTextToken) items → list_all (λ item. not (is_record item)) items ≡ true
    → IsFilled 0 areas (fill behind) → IsFilled (record_size items) areas (fill (items_from area start items ++ behind))
below_filled area start [] behind areas r p b f = f
below_filled area start (item ∷ others) behind areas r p b f =
    let all = both (not (is_record item)) (list_all (λ item. not (is_record item)) others) b in
    let place = place_at area start item others in
    let rest = items_from area (start + own_size item) others ++ behind in
    let begins : begins_record (written item p.0.shape place) ≡ false = begins_as item p.0.shape place ∙ not_true (is_record item) all.0 in
    let next : IsFilled (record_size others) areas (fill rest) = below_filled area (start + own_size item) others behind areas r.1 p.1 all.1 f in
    let whole : fill (items_from area start (item ∷ others) ++ behind) ≡ filled (begins_record (written item p.0.shape place)) (opening_of (written item p.0.shape place)) (fill rest) =
    ap fill (append_assoc (item_of item place) (items_from area (start + own_size item) others) behind) ∙ fill_one item p.0.shape place rest in
    rw (whole, one_more item others) (filled_on (written item p.0.shape place) (own_size item) (record_size others) areas (fill rest) begins (written_opening area start item others p.0 r.0) next)

-- a record before others
record_filled : (area : ℕ) (first : List Token) (others : List (List Token)) (behind : List Item) (areas : List (List ℕ)) → AreRight false (first ∷ others) → AllByRecursion (IsItemOf IsTextToken) (first ∷ others) → is_record first ≡ true → list_all (λ item. not (is_record item)) others ≡ true
    → IsFilled 0 areas (fill behind) → (x : List ℕ) × IsTextFor (record_size (first ∷ others)) x × IsFilled 0 (x ∷ areas) (fill (items_from area 0 (first ∷ others) ++ behind))
record_filled area first others behind areas r p b below f =
    let place = place_at area 0 first others in
    let one = written first p.0.shape place in
    let rest = items_from area (0 + own_size first) others ++ behind in
    let next : IsFilled (record_size others) areas (fill rest) = below_filled area (0 + own_size first) others behind areas r.1 p.1 below f in
    let begins : begins_record one ≡ true = begins_as first p.0.shape place ∙ b in
    let whole : fill (items_from area 0 (first ∷ others) ++ behind) ≡ filled true (opening_of one) (fill rest) =
    ap fill (append_assoc (item_of first place) (items_from area (0 + own_size first) others) behind) ∙ fill_one first p.0.shape place rest ∙ ap (λ c. filled c (opening_of one) (fill rest)) begins in
    let text : IsTextFor (own_size first + record_size others) (opening_of one ++ (fill rest).0) = both_for (own_size first) (record_size others) (opening_of one) (fill rest).0 (written_opening area 0 first others p.0 r.0) next.before in
    (opening_of one ++ (fill rest).0, rw (one_more first others) text, rw whole (record { before = record { size_is = refl; text = refl }; same = ap (λ us. (opening_of one ++ (fill rest).0) ∷ us) next.same }))

-- the items fill the areas of these records
record Filled (records : List (List (List Token))) (items : List Item) : Type 0 where
  areas : List (List ℕ)
  filled : IsFilled 0 areas (fill items)
  are : AreAreasOf records areas

one_filled : (area : ℕ) (items : List (List Token)) (records : List (List (List Token))) (behind : List Item) → IsRecord false (IsItemOf IsTextToken) items → Filled records behind → Filled (items ∷ records) (items_from area 0 items ++ behind)
one_filled area items records behind r f =
    by (record_filled area r.first r.others behind f.areas (rw r.whole at r.right) (rw r.whole at r.each) r.begins r.below f.filled)
  where
    by : (x : List ℕ) × IsTextFor (record_size (r.first ∷ r.others)) x × IsFilled 0 (x ∷ f.areas) (fill (items_from area 0 (r.first ∷ r.others) ++ behind)) → Filled (items ∷ records) (items_from area 0 items ++ behind)
    by t = record { areas = t.0 ∷ f.areas; filled = rw r.whole t.2; are = (rw r.whole t.1, f.are) }

all_filled : (area : ℕ) (records : List (List (List Token))) → AllByRecursion (IsRecord false (IsItemOf IsTextToken)) records → Filled records (items_by_area area records)
all_filled area [] r = record { areas = []; filled = record { before = record { size_is = refl; text = refl }; same = refl }; are = tt }
all_filled area (items ∷ records) r = one_filled area items records (items_by_area (area + 1) records) r.0 (all_filled (area + 1) records r.1)

-- the areas of Working-Storage
pub storage_areas : (records : List (List (List Token))) → AllByRecursion (IsRecord false (IsItemOf (λ t. IsText t.text))) records → AreAreasOf records (fill (items_by_area 0 records)).1
storage_areas records r = let f = all_filled 0 records r in rw (f.filled.same) f.are
