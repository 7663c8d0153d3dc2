-- The records of items without faults: all items of a record count into its size, and the size is
-- within the limits.
use Rattle.std.proofs.Common.{◌≡◌, ◌≤◌, ℕ, suc, Bool, true, false, not, ◌||◌, ◌==◌, nat_le, nat_lt, List, [], ◌∷◌, length, take, Option, Some, None, refl, sym, ap, ◌∙◌, arith}
use Rattle.std.specs.Prelude.{IfSome, cond, if◌then◌else◌}
use Rattle.std.specs.List.{AllByRecursion, list_all, list_any}
use Rattle.std.proofs.Math.Seq.{take-length}
use Rattle.std.proofs.lemmas.List.Sums.{take_while-cons}
use Rattle.std.proofs.lemmas.Grind.{common_steps}
use Rattle.std.proofs.lemmas.Bool.Decides.{nat_tests}
use Rattle.cob_lex.specs.declared.fault.SourceKind.TheVariants as faults
use Rattle.cob_lex.specs.declared.token.Token.{Token}
use Rattle.cob_data.specs.Entries.{picture_in, value_in}
use Rattle.cob_data.specs.Faults.{counting_items, cover_behind, extent, is_bad, is_covered, is_record_right, put_unless, rank_if_elementary, record_faults, record_size, records_faults, size_faults, unless}
use Rattle.cob_data.specs.Levels.{below, is_group, is_record, joined, rank, records_of, sort_of_item, split}
use Rattle.cob_data.proofs.NoFaults.{behind_none, front_none}
use Rattle.cob_data.proofs.NumeralLaws.{both}
use Rattle.cob_data.proofs.EntryShapes.{IsItemEntry}
use Rattle.cob_data.proofs.RightItems.{AreRight, IsRight, is_right, rank_next}
use Rattle.cob_data.proofs.Tests.{not_true}

-- RECORDS

-- A record: an item of rank 1, and items of higher ranks, all of them right.
pub record IsRecord (over_cd : Bool) (P : List Token → Type 0) (items : List (List Token)) : Type 0 where
  pub first : List Token
  pub others : List (List Token)
  pub whole : items ≡ first ∷ others
  pub begins : is_record first ≡ true
  pub below : list_all (λ item. not (is_record item)) others ≡ true
  pub right : AreRight over_cd items
  pub each : AllByRecursion P items

-- what comes before the first record
record IsBefore (over_cd : Bool) (P : List Token → Type 0) (items : List (List Token)) : Type 0 where
  below : list_all (λ item. not (is_record item)) items ≡ true
  right : AreRight over_cd items
  each : AllByRecursion P items

one_is : (n : ℕ) → (n == 1) ≡ true → n ≡ 1
one_is n h = grind (arith, common_steps, nat_tests)

module _ (over_cd : Bool) (P : List Token → Type 0) where
  abbrev IsSplit : List (List Token) × List (List (List Token)) → Type 0
  IsSplit s = IsBefore over_cd P s.0 × AllByRecursion (IsRecord over_cd P) s.1

  -- the last item of a record stays right if the next record is left out
  last_right : (next : ℕ) (item : List Token) → next ≡ 1 → IsRight over_cd next item → IsRight over_cd 0 item
  last_right next item e r = record { some = r.some; elementary = λ k. omega arith; group = λ k. absurd (omega (arith, r.group k, r.some, e)); value = r.value }

  -- so an item stays right if the records after it are left out
  here_right : (item : List Token) (items : List (List Token)) → IsRight over_cd (rank_next items) item → IsRight over_cd (rank_next (split items).0) item
  here_right item [] r = r
  here_right item (x ∷ xs) r = by (is_record x) refl
    where
      by : (b : Bool) → is_record x ≡ b → IsRight over_cd (rank_next (joined b x (split xs)).0) item
      by true e = last_right (rank x) item (one_is (rank x) e) r
      by false e = r

  split_by : (b : Bool) (item : List Token) (s : List (List Token) × List (List (List Token))) → is_record item ≡ b → IsRight over_cd (rank_next s.0) item → P item → IsSplit s → IsSplit (joined b item s)
  split_by true item s e r p k =
      let one : IsRecord over_cd P (item ∷ s.0) = record { first = item; others = s.0; whole = refl; begins = e; below = k.0.below; right = (r, k.0.right); each = (p, k.0.each) } in
      (record { below = refl; right = tt; each = tt }, (one, k.1))
  split_by false item s e r p k = (record { below = rw e k.0.below; right = (r, k.0.right); each = (p, k.0.each) }, k.1)

  is_split : (items : List (List Token)) → AreRight over_cd items → AllByRecursion P items → IsSplit (split items)
  is_split [] r p = (record { below = refl; right = tt; each = tt }, tt)
  is_split (item ∷ items) r p = split_by (is_record item) item (split items) refl (here_right item items r.0) p.0 (is_split items r.1 p.1)

  pub are_records : (items : List (List Token)) → AreRight over_cd items → AllByRecursion P items → AllByRecursion (IsRecord over_cd P) (records_of items)
  are_records items r p = (is_split items r p).1

-- WHAT COUNTS INTO A RECORD

covered_by : (g : Bool) (item : List Token) (items : List (List Token)) → is_group (sort_of_item item) ≡ g → (g ≡ false → rank_next items ≤ rank item) → (x : List Token) (xs : List (List Token)) → items ≡ x ∷ xs
    → is_covered (if g then None else Some (rank item)) x ≡ false
covered_by true item items e h x xs w = refl
covered_by false item items e h x xs w =
    let le : rank x ≤ rank item = rw w at (h refl) in
    grind (arith, common_steps, nat_tests)

counting_by : (b : Bool) (item : List Token) (items : List (List Token)) → b ≡ false → put_unless b item items ≡ item ∷ items
counting_by true item items h = let no : ⊥ = cc in absurd no
counting_by false item items h = refl

behind_by : (b : Bool) (cover : Option ℕ) (item : List Token) → b ≡ false → (if b then cover else rank_if_elementary item) ≡ rank_if_elementary item
behind_by true cover item h = let no : ⊥ = cc in absurd no
behind_by false cover item h = refl

all_count : (over_cd : Bool) (cover : Option ℕ) (items : List (List Token)) → AreRight over_cd items → ((x : List Token) (xs : List (List Token)) → items ≡ x ∷ xs → is_covered cover x ≡ false) → counting_items cover items ≡ items
all_count over_cd cover [] r h = refl
all_count over_cd cover (item ∷ items) r h =
    let open_here : is_covered cover item ≡ false = h item items refl in
    counting_by (is_covered cover item) item (counting_items (cover_behind cover item) items) open_here
    ∙ ap (λ c. item ∷ counting_items c items) (behind_by (is_covered cover item) cover item open_here)
    ∙ ap (λ us. item ∷ us) (all_count over_cd (rank_if_elementary item) items r.1 (covered_by (is_group (sort_of_item item)) item items refl r.0.elementary))

higher : (one n : ℕ) → one ≡ 1 → 1 ≤ n → (n == 1) ≡ false → nat_lt one n ≡ true
higher one n e le h = grind (arith, common_steps, nat_tests)

-- all items after the first are below it
all_below : (over_cd : Bool) (own : ℕ) (items : List (List Token)) → own ≡ 1 → AreRight over_cd items → list_all (λ item. not (is_record item)) items ≡ true → below own items ≡ items
all_below over_cd own [] e r h = refl
all_below over_cd own (x ∷ xs) e r h =
    let all = both (not (is_record x)) (list_all (λ item. not (is_record item)) xs) h in
    take_while-cons (λ y. nat_lt own (rank y)) x xs
    ∙ ap (λ b. cond b (x ∷ below own xs) []) (higher own (rank x) e r.0.some (not_true (is_record x) all.0))
    ∙ ap (λ us. x ∷ us) (all_below over_cd own xs e r.1 all.1)

extent_by : (over_cd : Bool) (g : Bool) (first : List Token) (others : List (List Token)) → is_group (sort_of_item first) ≡ g → rank first ≡ 1 → AreRight over_cd (first ∷ others) → list_all (λ item. not (is_record item)) others ≡ true
    → take (suc (if g then length (below (rank first) others) else 0)) (first ∷ others) ≡ first ∷ others
extent_by over_cd true first others e one r h = ap (λ us. first ∷ us) (ap (λ us. take (length us) others) (all_below over_cd (rank first) others one r.1 h) ∙ take-length others)
extent_by over_cd false first [] e one r h = refl
extent_by over_cd false first (x ∷ xs) e one r h =
    let all = both (not (is_record x)) (list_all (λ item. not (is_record item)) xs) h in
    let apart : nat_lt (rank first) (rank x) ≡ true = higher (rank first) (rank x) one r.1.0.some (not_true (is_record x) all.0) in
    let no : ⊥ = no_higher (rank first) (rank x) (r.0.elementary e) apart in
    absurd no
  where
    no_higher : (a b : ℕ) → b ≤ a → nat_lt a b ≡ true → ⊥
    no_higher a b le h = grind (arith, common_steps, nat_tests)

module _ (over_cd : Bool) (P : List Token → Type 0) where
  whole_extent : (items : List (List Token)) → IsRecord over_cd P items → extent items ≡ items
  whole_extent items r =
      let right : AreRight over_cd (r.first ∷ r.others) = rw r.whole at r.right in
      rw r.whole (extent_by over_cd (is_group (sort_of_item r.first)) r.first r.others refl (one_is (rank r.first) r.begins) right r.below)

  pub whole_counts : (items : List (List Token)) → IsRecord over_cd P items → counting_items None (extent items) ≡ items
  whole_counts items r = ap (counting_items None) (whole_extent items r) ∙ all_count over_cd None items r.right (λ x xs e. refl)

-- SIZES OF RECORDS

-- an item of the right form, with no malformed picture, and with such a token as its value, if it has one
pub record IsItemOf (Q : Token → Type 0) (item : List Token) : Type 0 where
  pub shape : IsItemEntry item
  pub picture : is_bad (picture_in item) ≡ false
  pub value : IfSome (value_in item) Q

-- a record has at most 2,000 characters, and over a CD as many as the area
pub record IsMeasuredRecord (area : Option ℕ) (items : List (List Token)) : Type 0 where
  pub few : record_size items ≤ 2000
  pub over : is_record_right area (record_size items) ≡ true

none_bad : (Q : Token → Type 0) (items : List (List Token)) → AllByRecursion (IsItemOf Q) items → list_any (λ item. is_bad (picture_in item)) items ≡ false
none_bad Q [] h = refl
none_bad Q (item ∷ items) h = rw h.0.picture (none_bad Q items h.1)

or_right : (a b : Bool) → a ≡ false → (a || b) ≡ true → b ≡ true
or_right true b e h = let no : ⊥ = cc in absurd no
or_right false b e h = h

at_most : (n : ℕ) → nat_le n 2000 ≡ true → n ≤ 2000
at_most n h = grind (arith, common_steps, nat_tests)

size_right : (area : Option ℕ) (first named : Token) (others : List Token) (behind : List (List Token)) → list_any (λ item. is_bad (picture_in item)) ((first ∷ named ∷ others) ∷ behind) ≡ false
    → size_faults area ((first ∷ named ∷ others) ∷ behind) ≡ [] → IsMeasuredRecord area ((first ∷ named ∷ others) ∷ behind)
size_right area first named others behind good h =
    let items = (first ∷ named ∷ others) ∷ behind in
    let bad = list_any (λ item. is_bad (picture_in item)) items in
    let one = is_right (bad || nat_le (record_size items) 2000) faults.OverLimit first (front_none _ (unless (bad || is_record_right area (record_size items)) faults.WrongLength (Some named)) h) in
    let two = is_right (bad || is_record_right area (record_size items)) faults.WrongLength named (behind_none (unless (bad || nat_le (record_size items) 2000) faults.OverLimit (Some first)) _ h) in
    record { few = at_most (record_size items) (or_right bad (nat_le (record_size items) 2000) good one); over = or_right bad (is_record_right area (record_size items)) good two }

sized_by : (area : Option ℕ) (items : List (List Token)) (first : List Token) (others : List (List Token)) (e : IsItemEntry first) → items ≡ first ∷ others → list_any (λ item. is_bad (picture_in item)) items ≡ false → size_faults area items ≡ [] → IsMeasuredRecord area items
sized_by area items first others e w good h =
    let whole : items ≡ (e.level ∷ e.named ∷ e.others) ∷ others = w ∙ ap (λ us. us ∷ others) e.whole in
    rw whole (size_right area e.level e.named e.others others (ap (λ us. list_any (λ item. is_bad (picture_in item)) us) (sym whole) ∙ good) (ap (size_faults area) (sym whole) ∙ h))

first_shape : (Q : Token → Type 0) (items : List (List Token)) (first : List Token) (others : List (List Token)) → items ≡ first ∷ others → AllByRecursion (IsItemOf Q) items → IsItemEntry first
first_shape Q items first others w h = (rw w at h).0.shape

module _ (over_cd : Bool) (Q : Token → Type 0) (area : Option ℕ) where
  measured : (items : List (List Token)) → IsRecord over_cd (IsItemOf Q) items → record_faults area items ≡ [] → IsMeasuredRecord area items
  measured items r h =
      sized_by area items r.first r.others (first_shape Q items r.first r.others r.whole r.each) r.whole (none_bad Q items r.each) (ap (size_faults area) (sym (whole_counts over_cd (IsItemOf Q) items r)) ∙ h)

  pub all_measured : (records : List (List (List Token))) → AllByRecursion (IsRecord over_cd (IsItemOf Q)) records → records_faults false area records ≡ [] → AllByRecursion (IsMeasuredRecord area) records
  all_measured [] r h = tt
  all_measured (items ∷ records) r h = (measured items r.0 (front_none (record_faults area items) (records_faults false area records) h), all_measured records r.1 (behind_none (record_faults area items) (records_faults false area records) h))
