-- Rows without a fault are trees that a description may have.
use Rattle.std.proofs.Common.{◌≡◌, ℕ, zero, suc, ◌+◌, ◌<◌, ◌≤◌, nat_le, nat_lt, Bool, true, false, ◌&&◌, List, [], ◌∷◌, ◌++◌, length, take, drop, reverse, get_or, Some, None, refl, sym, ap, ◌∙◌, arith, inl, inr, append_assoc}
use Rattle.std.specs.Prelude.{Option, slice_get, not, ◌||◌, ◌==◌, IsTrue}
use Rattle.std.specs.List.{find, list_all, list_any, take_while, range_with_len}
use Rattle.std.specs.Option.{option_or}
use Rattle.std.specs.Str.{bytes_eq}
use mathlib.Core.Bool.{cond}
use Rattle.std.proofs.lemmas.Bool.{cases_Bool, false≢true}
use Rattle.std.proofs.lemmas.Bool.Decides.{nat_tests}
use Rattle.std.proofs.lemmas.Option.{none-some, slice_get-get_or, slice_get_within}
use Rattle.std.proofs.lemmas.List.{take_all, reverse-append}
use Rattle.std.proofs.lemmas.List.Folds.{list_any-append, list_all-append}
use Rattle.std.proofs.lemmas.Slice.Eq.{bytes_eq-Decides}
use Rattle.std.proofs.lemmas.List.Sums.{count_by_more_yes, count_by_more_no, take_while-cons}
use Rattle.com_text.specs.Name.{is_name}
use Rattle.com_tree.specs.declared.tree.TreeRow.{TreeRow}
use Rattle.com_tree.specs.declared.build.TreeFault.{TreeFault}
use Rattle.com_tree.specs.declared.build.TreeFault.TheVariants.{TwiceNamed, TooDeep, TooMany, Empty}
use Rattle.com_tree.specs.Written.{is_leaf, is_deeper, has_name, siblings_behind, are_siblings_distinct, may_follow, are_nested, leaf_count, IsWritten}
use Rattle.com_tree.specs.Faults.{may_stand_behind, are_outlined, is_outline, is_twice_named, is_one_leaf_more, is_childless, holds_at, first_place, twice_named, too_deep, too_many, empty, fault_at, tree_fault}
use Rattle.com_tree.proofs.Searching.{holds_of}

-- where there is neither, there is no first and no second
neither : {T : Type 0} (o p : Option T) → option_or o p ≡ None → (o ≡ None) × (p ≡ None)
neither None p h = (refl, h)
neither (Some x) p h = absurd (none-some x (sym h))

no_place : (fault : TreeFault) (place : Option ℕ) → fault_at fault place ≡ None → place ≡ None
no_place fault None h = refl
no_place fault (Some at) h = absurd (none-some _ (sym h))

-- where nothing is found, the test fails at each place
fails_from : (test : ℕ → Bool) (start n : ℕ) → find test (range_with_len start n) ≡ None → (k : ℕ) → k < n → test (start + k) ≡ false
fails_from test start zero none k within = absurd (omega (arith, within))
fails_from test start (suc n) none zero within = elim (cases_Bool (test start)) [
  | inl holds ↦ absurd (none-some start (sym (rw holds at none)))
  | inr fails ↦
      let same : start + 0 ≡ start = omega arith in
      rw same fails
]
fails_from test start (suc n) none (suc k) within = elim (cases_Bool (test start)) [
  | inl holds ↦ absurd (none-some start (sym (rw holds at none)))
  | inr fails ↦
      let same : start + suc k ≡ (start + 1) + k = omega arith in
      rw same (fails_from test (start + 1) n (rw fails at none) k (omega (arith, within)))
]

no_row : (test : ℕ → Bool) (rows : List TreeRow) → first_place test rows ≡ None → (at : ℕ) → at < length rows → test at ≡ false
no_row test rows none at within =
    let same : at ≡ 0 + at = omega arith in
    rw same (fails_from test 0 (length rows) none at within)

pub both : (a b : Bool) → (a && b) ≡ true → (a ≡ true) × (b ≡ true)
both true true h = (refl, refl)
both true false h = absurd (false≢true h)
both false b h = absurd (false≢true h)

not_not : (a : Bool) → not a ≡ false → a ≡ true
not_not true h = refl
not_not false h = absurd (false≢true (sym h))

only_first : (a b : Bool) → (a || (b && false)) ≡ true → a ≡ true
only_first true b h = refl
only_first false true h = h
only_first false false h = h

only_second : (b : Bool) → (false || (b && true)) ≡ true → b ≡ true
only_second true h = refl
only_second false h = h

-- a row stands behind another as in a tree, where the other is no inner node without a child
follows : (row next : TreeRow) → may_stand_behind row next ≡ true → (not (is_leaf row) && not (is_deeper row.depth next)) ≡ false → may_follow row next ≡ true
follows row next behind parent = elim (cases_Bool (is_leaf row)) [
  | inl leaf ↦ rw (leaf, may_follow) (only_first (nat_le next.depth row.depth) (next.depth == row.depth + 1) (rw (leaf, may_stand_behind) at behind))
  | inr inner ↦
      let lower : nat_lt row.depth next.depth ≡ true = not_not (nat_lt row.depth next.depth) (rw inner at parent) in
      let not_level : nat_le next.depth row.depth ≡ false = grind (arith, nat_tests, lower) in
      rw (inner, may_follow) (only_second (next.depth == row.depth + 1) (rw (not_level, inner, may_stand_behind) at behind))
]

nested : (row : TreeRow) (rows : List TreeRow) → are_outlined row rows ≡ true → ((at : ℕ) → at < length (row ∷ rows) → is_childless (drop at (row ∷ rows)) ≡ false) → are_nested row rows ≡ true
nested row [] outlined parents = not_not (is_leaf row) (parents 0 (omega arith))
nested row (next ∷ rows) outlined parents =
    let split = both (nat_le 1 next.depth && may_stand_behind row next) (are_outlined next rows) outlined in
    let follow = follows row next (both (nat_le 1 next.depth) (may_stand_behind row next) split.0).1 (parents 0 (omega arith)) in
    let rest = nested next rows split.1 (λ at within. parents (suc at) (omega (arith, within))) in
    rw (follow, rest) refl

-- no row stands above the top level
none_above : (row : TreeRow) (rows : List TreeRow) → are_outlined row rows ≡ true → list_all (λ r. nat_le 1 r.depth) rows ≡ true
none_above row [] outlined = refl
none_above row (next ∷ rows) outlined =
    let split = both (nat_le 1 next.depth && may_stand_behind row next) (are_outlined next rows) outlined in
    rw ((both (nat_le 1 next.depth) (may_stand_behind row next) split.0).0, none_above next rows split.1) refl

within_levels : (rows : List TreeRow) → list_all (λ r. nat_le 1 r.depth) rows ≡ true → ((at : ℕ) → at < length rows → holds_at (λ row. nat_lt 4 row.depth) rows at ≡ false)
    → list_all (λ row. nat_le 1 row.depth && nat_le row.depth 4) rows ≡ true
within_levels [] above deep = refl
within_levels (row ∷ rows) above deep =
    let split = both (nat_le 1 row.depth) (list_all (λ r. nat_le 1 r.depth) rows) above in
    let shallow : nat_lt 4 row.depth ≡ false = deep 0 (omega arith) in
    let low : nat_le row.depth 4 ≡ true = grind (arith, nat_tests, shallow) in
    rw (split.0, low, within_levels rows split.1 (λ at within. deep (suc at) (omega (arith, within)))) refl

-- no more than 64 leaves stand before any place
few_leaves : (rows : List TreeRow) (d : TreeRow) → ((at : ℕ) → at < length rows → holds_at (is_one_leaf_more (take at rows)) rows at ≡ false) → (k : ℕ) → k ≤ length rows → leaf_count (take k rows) ≤ 64
few_leaves rows d fails zero within = omega arith
few_leaves rows d fails (suc k) within =
    let before = few_leaves rows d fails k (omega (arith, within)) in
    let here : k < length rows = omega (arith, within) in
    let row = get_or rows k d in
    let one : is_one_leaf_more (take k rows) row ≡ false = sym (holds_of (is_one_leaf_more (take k rows)) rows k row (slice_get-get_or rows k d here)) ∙ fails k here in
    let next : k + 1 ≡ suc k = omega arith in
    elim (cases_Bool (is_leaf row)) [
      | inl leaf ↦
          let more = count_by_more_yes is_leaf rows k d here leaf in
          let less : nat_le 64 (leaf_count (take k rows)) ≡ false = rw (leaf, is_one_leaf_more) at one in
          let small : leaf_count (take k rows) < 64 = grind (arith, nat_tests, less) in
          let count : leaf_count (take (suc k) rows) ≡ leaf_count (take k rows) + 1 = rw next at more in
          omega (arith, count, small)
      | inr inner ↦
          let count : leaf_count (take (suc k) rows) ≡ leaf_count (take k rows) = rw next at (count_by_more_no {X = TreeRow} is_leaf rows k d here inner) in
          omega (arith, count, before)
    ]

any_first : (p q : TreeRow → Bool) (x : TreeRow) (xs : List TreeRow) → list_any q (take_while p (x ∷ xs)) ≡ true → list_any q (cond (p x) (x ∷ take_while p xs) []) ≡ true
any_first p q x xs some = ap (list_any q) (sym (take_while-cons p x xs)) ∙ some

-- a later row with this name among the siblings behind is at some place, and no row before it stands above
any_behind : (depth : ℕ) (name : List ℕ) (rows : List TreeRow) → list_any (has_name depth name) (siblings_behind depth rows) ≡ true
    → (j : ℕ) × (x : TreeRow) × (slice_get rows j ≡ Some x) × (has_name depth name x ≡ true) × (list_all (λ r. nat_le depth r.depth) (take j rows) ≡ true)
any_behind depth name [] some = absurd (false≢true some)
any_behind depth name (row ∷ rows) some =
    let there = any_first (λ r. nat_le depth r.depth) (has_name depth name) row rows some in
    elim (cases_Bool (nat_le depth row.depth)) [
      | inr above ↦ absurd (false≢true (rw above at there))
      | inl within ↦ elim (cases_Bool (has_name depth name row)) [
        | inl named ↦ (0, row, refl, named, refl)
        | inr other ↦
            let later = any_behind depth name rows (rw (within, other) at there) in
            (suc later.0, later.1, later.2, later.3, rw (within, later.4) refl)
      ]
    ]

-- what all of a list passes is taken whole
all_taken : (p : TreeRow → Bool) (xs ys : List TreeRow) → list_all p xs ≡ true → take_while p (xs ++ ys) ≡ xs ++ take_while p ys
all_taken p [] ys all = refl
all_taken p (x ∷ xs) ys all =
    let split = both (p x) (list_all p xs) all in
    rw (take_while-cons p x (xs ++ ys), split.0, all_taken p xs ys split.1) refl

all_reversed : (p : TreeRow → Bool) (xs : List TreeRow) → list_all p xs ≡ true → list_all p (reverse xs) ≡ true
all_reversed p [] all = refl
all_reversed p (x ∷ xs) all =
    let split = both (p x) (list_all p xs) all in
    rw (reverse-append (x ∷ []) xs, list_all-append p (reverse xs) (x ∷ []), all_reversed p xs split.1, split.0) refl

same_bytes : (xs ys : List ℕ) → bytes_eq xs ys ≡ true → xs ≡ ys
same_bytes xs ys h = grind (arith, bytes_eq-Decides xs ys, h)

bytes_eq_same : (xs : List ℕ) → bytes_eq xs xs ≡ true
bytes_eq_same xs = grind (arith, bytes_eq-Decides xs xs)

or_true : (a : Bool) → (a || true) ≡ true
or_true true = refl
or_true false = refl

-- the name is that of a sibling before
twice : (before mid : List TreeRow) (row x : TreeRow) → list_all (λ r. nat_le row.depth r.depth) mid ≡ true → has_name row.depth row.name x ≡ true → is_twice_named (before ++ row ∷ mid) x ≡ true
twice before mid row x within named =
    let split = both (x.depth == row.depth) (bytes_eq x.name row.name) named in
    let level : x.depth ≡ row.depth = grind (arith, nat_tests, split.0) in
    let name : x.name ≡ row.name = same_bytes x.name row.name split.1 in
    let low : nat_le row.depth row.depth ≡ true = grind (arith, nat_tests) in
    let equal : (row.depth == row.depth) ≡ true = grind (arith, nat_tests) in
    let turned : reverse (before ++ row ∷ mid) ≡ reverse mid ++ row ∷ reverse before =
    reverse-append before (row ∷ mid) ∙ (ap (λ xs. xs ++ reverse before) (reverse-append (row ∷ []) mid) ∙ append_assoc (reverse mid) (row ∷ []) (reverse before)) in
    let taken : take_while (λ r. nat_le row.depth r.depth) (reverse mid ++ row ∷ reverse before) ≡ reverse mid ++ row ∷ take_while (λ r. nat_le row.depth r.depth) (reverse before) =
    all_taken (λ r. nat_le row.depth r.depth) (reverse mid) (row ∷ reverse before) (all_reversed (λ r. nat_le row.depth r.depth) mid within)
    ∙ rw (take_while-cons (λ r. nat_le row.depth r.depth) row (reverse before), low) refl in
    let here : has_name row.depth row.name row ≡ true = rw (equal, bytes_eq_same row.name) refl in
    rw (level, name, turned, taken, list_any-append (has_name row.depth row.name) (reverse mid) (row ∷ take_while (λ r. nat_le row.depth r.depth) (reverse before)), here) (or_true (list_any (has_name row.depth row.name) (reverse mid)))

distinct_from : (before rows : List TreeRow) → ((at : ℕ) (x : TreeRow) → slice_get rows at ≡ Some x → is_twice_named (before ++ take at rows) x ≡ false) → are_siblings_distinct rows ≡ true
distinct_from before [] once = refl
distinct_from before (row ∷ rows) once = elim (cases_Bool (list_any (has_name row.depth row.name) (siblings_behind row.depth rows))) [
  | inl some ↦
      let found = any_behind row.depth row.name rows some in
      absurd (false≢true (sym (once (suc found.0) found.1 found.2) ∙ twice before (take found.0 rows) row found.1 found.4 found.3))
  | inr none ↦
      let rest = distinct_from (before ++ row ∷ []) rows (λ at x is. rw (append_assoc before (row ∷ []) (take at rows)) (once (suc at) x is)) in
      rw (none, rest) refl
]

-- rows without a fault are trees that a description may have
pub written_of : (rows : List TreeRow) → IsTrue (is_outline rows) → tree_fault rows ≡ None → IsTrue (list_all (λ row. is_name row.name) rows) → IsWritten rows
written_of [] outline none names = absurd (none-some _ (sym none))
written_of (row ∷ rows) outline none names =
    let all = row ∷ rows in
    let first = neither (fault_at TwiceNamed (twice_named all)) _ none in
    let second = neither (fault_at TooDeep (too_deep all)) _ first.1 in
    let third = neither (fault_at TooMany (too_many all)) _ second.1 in
    let once = no_row (λ at. holds_at (is_twice_named (take at all)) all at) all (no_place TwiceNamed (twice_named all) first.0) in
    let shallow = no_row (holds_at (λ r. nat_lt 4 r.depth) all) all (no_place TooDeep (too_deep all) second.0) in
    let few = no_row (λ at. holds_at (is_one_leaf_more (take at all)) all at) all (no_place TooMany (too_many all) third.0) in
    let parents = no_row (λ at. is_childless (drop at all)) all (no_place Empty (empty all) third.1) in
    let split = both (row.depth == 1) (are_outlined row rows) outline in
    let top : row.depth ≡ 1 = grind (arith, nat_tests, split.0) in
    record {
      forest = rw (split.0, nested row rows split.1 parents) refl;
      levels = within_levels all (rw (top, none_above row rows split.1) refl) shallow;
      leaves = rw (take_all (length all) all (omega arith)) at (few_leaves all row few (length all) (omega arith));
      names = names;
      distinct = distinct_from [] all (λ at x is. sym (holds_of (is_twice_named (take at all)) all at x is) ∙ once at (slice_get_within all at x is));
    }
