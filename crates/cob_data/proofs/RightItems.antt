-- What the absence of faults says of each item of a run, by itself and by the item after it.
use Rattle.std.proofs.Common.{◌≡◌, ◌≤◌, ◌<◌, ℕ, Bool, true, false, not, ◌&&◌, ◌||◌, ◌==◌, nat_le, nat_lt, List, [], ◌∷◌, length, Some, None, refl, ap, inl, inr, arith}
use Rattle.std.specs.Prelude.{◌⊎◌, if◌then◌else◌}
use Rattle.std.specs.List.{AllByRecursion}
use Rattle.std.proofs.lemmas.Grind.{common_steps}
use Rattle.std.proofs.lemmas.Bool.Decides.{nat_tests}
use Rattle.cob_lex.specs.declared.fault.SourceKind.{SourceKind}
use Rattle.cob_lex.specs.declared.fault.SourceKind.TheVariants as faults
use Rattle.cob_lex.specs.declared.token.Token.{Token}
use Rattle.cob_data.specs.Entries.{first_token, is_item, picture_in, value_in}
use Rattle.cob_data.specs.Faults.{at, first_text, is_as, is_group_right, is_level_right, is_under_group, item_faults, level_faults, unless, value_faults, whole_faults}
use Rattle.cob_data.specs.Levels.{is_group, is_level, rank, rank_of, sort_of_item}
use Rattle.cob_data.specs.Numerals.{numeral}
use Rattle.cob_data.proofs.NoFaults.{behind_none, front_none, some_fault}
use Rattle.cob_data.proofs.NumeralLaws.{both}
use Rattle.cob_data.proofs.Tests.{either}

-- TESTS

pub is_right : (b : Bool) (kind : SourceKind) (t : Token) → unless b kind (Some t) ≡ [] → b ≡ true
is_right true kind t h = refl
is_right false kind t h = absurd (some_fault (at kind t) h)

less : (a b : ℕ) → nat_lt a b ≡ true → a < b
less a b h = grind (arith, common_steps, nat_tests)

no_less : (a b : ℕ) → nat_lt a b ≡ false → b ≤ a
no_less a b h = grind (arith, common_steps, nat_tests)

is_one : (a : ℕ) → (a == 1) ≡ true → a ≡ 1
is_one a h = grind (arith, common_steps, nat_tests)

not_less : (a b : ℕ) → nat_le a b ≡ true → a ≤ b
not_less a b h = grind (arith, common_steps, nat_tests)

-- LEVELS

rank_by : (b : Bool) (n : ℕ) → (n == 77) ≡ b → ((nat_le 1 n && nat_le n 49) || b) ≡ true → 1 ≤ (if b then 1 else n)
rank_by true n e h = omega arith
rank_by false n e h = by (nat_le 1 n) (nat_le n 49) refl h
  where
    by : (a c : Bool) → nat_le 1 n ≡ a → ((a && c) || false) ≡ true → 1 ≤ n
    by true c e h = not_less 1 n e
    by false c e h = let no : ⊥ = cc in absurd no

level_rank : (digits : List ℕ) → is_level digits ≡ true → 1 ≤ rank_of digits
level_rank digits h =
    let all = both (nat_le (length digits) 2) ((nat_le 1 (numeral digits) && nat_le (numeral digits) 49) || numeral digits == 77) h in
    rank_by (numeral digits == 77) (numeral digits) refl all.1

some_rank : (over_cd : Bool) (before : List (List Token)) (t : Token) (ts : List Token) → is_level_right over_cd before (t ∷ ts) ≡ true → 1 ≤ rank (t ∷ ts)
some_rank over_cd before t ts h =
    let all = both (is_level t.text && not (over_cd && numeral t.text == 77)) (rank (t ∷ ts) == 1 || is_under_group (rank (t ∷ ts)) None before) h in
    level_rank t.text (both (is_level t.text) (not (over_cd && numeral t.text == 77)) all.0).0

-- an item after an elementary one has no higher rank
under_by : (b : Bool) (x : List Token) (before : List (List Token)) (own : ℕ) → is_group (sort_of_item x) ≡ false → nat_lt (rank x) own ≡ b
    → (if b then is_group (sort_of_item x) && is_as own None else is_under_group own (Some (rank x)) before) ≡ true → own ≤ rank x
under_by true x before own e l h = let no : (is_group (sort_of_item x) && is_as own None) ≡ false = ap (λ b. b && is_as own None) e in let wrong : ⊥ = cc in absurd wrong
under_by false x before own e l h = no_less (rank x) own l

no_higher : (over_cd : Bool) (before : List (List Token)) (x next : List Token) → is_group (sort_of_item x) ≡ false → 1 ≤ rank x → is_level_right over_cd (x ∷ before) next ≡ true → rank next ≤ rank x
no_higher over_cd before x next e some h =
    by (either (rank next == 1) (is_under_group (rank next) None (x ∷ before)) (both (is_level (first_text next) && not (over_cd && numeral (first_text next) == 77)) (rank next == 1 || is_under_group (rank next) None (x ∷ before)) h).1)
  where
    by : ((rank next == 1) ≡ true) ⊎ (is_under_group (rank next) None (x ∷ before) ≡ true) → rank next ≤ rank x
    by (inl k) = omega (arith, is_one (rank next) k, some)
    by (inr k) = under_by (nat_lt (rank x) (rank next)) x before (rank next) e refl k

-- GROUPS

group_by : (g : Bool) (item : List Token) (next : ℕ) → is_group (sort_of_item item) ≡ g → is_group_right next item ≡ true → g ≡ true → rank item < next
group_by false item next e h k = let no : ⊥ = cc in absurd no
group_by true item next e h k =
    let right : (not true || (not (numeral (first_text item) == 77 || numeral (first_text item) == 49) && nat_lt (rank item) next)) ≡ true = rw e at h in
    less (rank item) next (both (not (numeral (first_text item) == 77 || numeral (first_text item) == 49)) (nat_lt (rank item) next) right).1

-- ITEMS

-- the rank of the next item, 0 if none is left
abbrev pub rank_next : List (List Token) → ℕ
rank_next [] = 0
rank_next (x ∷ xs) = rank x

-- An item without faults, by the rank of the item after it: a group is followed by an item below it,
-- and an elementary item is not.
pub record IsRight (over_cd : Bool) (next : ℕ) (item : List Token) : Type 0 where
  pub some : 1 ≤ rank item
  pub elementary : is_group (sort_of_item item) ≡ false → next ≤ rank item
  pub group : is_group (sort_of_item item) ≡ true → rank item < next
  pub value : value_faults over_cd (picture_in item) (value_in item) ≡ []

abbrev pub AreRight : Bool → List (List Token) → Type 0
AreRight over_cd [] = Unit {0}
AreRight over_cd (item ∷ items) = IsRight over_cd (rank_next items) item × AreRight over_cd items

-- an item has a first token
abbrev pub IsSome : List Token → Type 0
IsSome item = is_item item ≡ true

level_right : (over_cd : Bool) (before : List (List Token)) (item : List Token) (items : List (List Token)) → IsSome item → level_faults over_cd before (item ∷ items) ≡ [] → is_level_right over_cd before item ≡ true
level_right over_cd before [] items some h = let no : ⊥ = cc in absurd no
level_right over_cd before (t ∷ ts) items some h = is_right (is_level_right over_cd before (t ∷ ts)) faults.WrongKind t (front_none _ (level_faults over_cd ((t ∷ ts) ∷ before) items) h)

ranked : (over_cd : Bool) (before : List (List Token)) (item : List Token) → IsSome item → is_level_right over_cd before item ≡ true → 1 ≤ rank item
ranked over_cd before [] some h = let no : ⊥ = cc in absurd no
ranked over_cd before (t ∷ ts) some h = some_rank over_cd before t ts h

group_right : (over_cd : Bool) (next : ℕ) (item : List Token) → IsSome item → item_faults over_cd next item ≡ [] → is_group_right next item ≡ true
group_right over_cd next [] some h = let no : ⊥ = cc in absurd no
group_right over_cd next (t ∷ ts) some h = is_right (is_group_right next (t ∷ ts)) faults.WrongKind t (front_none _ (value_faults over_cd (picture_in (t ∷ ts)) (value_in (t ∷ ts))) h)

one_right : (over_cd : Bool) (before : List (List Token)) (item : List Token) (next : ℕ) → IsSome item → is_level_right over_cd before item ≡ true → item_faults over_cd next item ≡ [] → (is_group (sort_of_item item) ≡ false → next ≤ rank item) → IsRight over_cd next item
one_right over_cd before item next some level none elementary = record {
  some = ranked over_cd before item some level;
  elementary = elementary;
  group = λ g. group_by (is_group (sort_of_item item)) item next refl (group_right over_cd next item some none) g;
  value = behind_none (unless (is_group_right next item) faults.WrongKind (first_token item)) _ none;
}

-- no fault of levels or of whole items: all items are right
pub all_right : (over_cd : Bool) (before items : List (List Token)) → AllByRecursion IsSome items → level_faults over_cd before items ≡ [] → whole_faults false over_cd items ≡ [] → AreRight over_cd items
all_right over_cd before [] some l w = tt
all_right over_cd before (item ∷ []) some l w = (one_right over_cd before item 0 some.0 (level_right over_cd before item [] some.0 l) w (λ e. omega arith), tt)
all_right over_cd before (item ∷ next ∷ items) some l w =
    let here = level_right over_cd before item (next ∷ items) some.0 l in
    let others : level_faults over_cd (item ∷ before) (next ∷ items) ≡ [] = behind_none (unless (is_level_right over_cd before item) faults.WrongKind (first_token item)) _ l in
    let there = level_right over_cd (item ∷ before) next items some.1.0 others in (
      one_right over_cd before item (rank next) some.0 here (front_none (item_faults over_cd (rank next) item) (whole_faults false over_cd (next ∷ items)) w)
          (λ e. no_higher over_cd before item next e (ranked over_cd before item some.0 here) there),
      all_right over_cd (item ∷ before) (next ∷ items) some.1 others (behind_none (item_faults over_cd (rank next) item) (whole_faults false over_cd (next ∷ items)) w),
    )
