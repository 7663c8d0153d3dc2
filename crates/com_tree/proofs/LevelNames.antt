-- Names that siblings before have, level by level.
use Rattle.std.proofs.Common.{◌≡◌, ℕ, ◌+◌, ◌-◌, ◌<◌, ◌≤◌, nat_le, nat_lt, Bool, true, false, not, ◌&&◌, Bor, List, [], ◌∷◌, ◌++◌, length, map, take, set, reverse, get_or, refl, sym, ap, ◌∙◌, arith, inl, inr, ◌⊎◌}
use Rattle.std.specs.Prelude.{◌==◌, ◌||◌}
use Rattle.std.specs.List.{list_any, take_while}
use Rattle.std.specs.Str.{bytes_eq}
use mathlib.Core.Bool.{cond}
use Rattle.std.proofs.lemmas.Bool.{cases_Bool}
use Rattle.std.proofs.lemmas.Bool.Decides.{nat_tests}
use Rattle.std.proofs.lemmas.List.{take_all, take_more, get_or_past, get_or_append_left, get_or-take, get_or_at, set_at, length-take-le, length-append, reverse-append}
use Rattle.std.proofs.lemmas.List.Folds.{list_any-append}
use Rattle.std.proofs.lemmas.List.Sums.{take_while-cons}
use Rattle.std.proofs.lemmas.Option.{unwrap_or-slice_get}
use Rattle.com_tree.specs.declared.tree.TreeRow.{TreeRow}
use Rattle.com_tree.specs.Written.{has_name}
use Rattle.com_tree.specs.Faults.{may_stand_behind, are_outlined, is_outline, siblings_before}
use Rattle.com_tree.specs.Siblings.{names_at, with_name}
use Rattle.com_tree.proofs.Building.{both}

named : (level : ℕ) (levels : List (List (List ℕ))) → names_at level levels ≡ get_or levels (level - 1) []
named level levels = unwrap_or-slice_get levels (level - 1) []

-- at a level that there is
pub at_level : (levels : List (List (List ℕ))) (level : ℕ) → 1 ≤ level → level ≤ length levels → take level levels ≡ take (level - 1) levels ++ names_at level levels ∷ []
at_level levels level top within =
    let step : level - 1 + 1 ≡ level = omega (arith, top) in
    rw named (rw step at (take_more levels (level - 1) [] (omega (arith, top, within))))

-- at the level below the lowest
pub below_all : (levels : List (List (List ℕ))) (level : ℕ) → level ≡ length levels + 1 → levels ++ [] ∷ [] ≡ take (level - 1) levels ++ names_at level levels ∷ []
below_all levels level next =
    let past : length levels ≤ level - 1 = omega (arith, next) in
    rw (named level levels, get_or_past levels (level - 1) [] past, take_all (level - 1) levels past) refl

front : (levels : List (List (List ℕ))) (level : ℕ) → 1 ≤ level → level ≤ length levels + 1 → length (take (level - 1) levels) ≡ level - 1
front levels level top next = length-take-le (level - 1) levels (omega (arith, next))

pub as_many_levels : (levels : List (List (List ℕ))) (level : ℕ) (name : List ℕ) → 1 ≤ level → level ≤ length levels + 1 → length (with_name level name levels) ≡ level
as_many_levels levels level name top next =
    let one : length ((names_at level levels ++ name ∷ []) ∷ []) ≡ 1 = refl in
    omega (arith, length-append (take (level - 1) levels) ((names_at level levels ++ name ∷ []) ∷ []), front levels level top next, one, top)

-- the names at the level that was gone to
pub gone_to : (levels : List (List (List ℕ))) (level : ℕ) (d : List (List ℕ)) → 1 ≤ level → level ≤ length levels + 1 → get_or (take (level - 1) levels ++ names_at level levels ∷ []) (level - 1) d ≡ names_at level levels
gone_to levels level d top next = get_or_at (take (level - 1) levels) (names_at level levels) [] d (level - 1) (front levels level top next)

-- and with one more there
pub one_more_name : (levels : List (List (List ℕ))) (level : ℕ) (name : List ℕ) → 1 ≤ level → level ≤ length levels + 1
    → set (take (level - 1) levels ++ names_at level levels ∷ []) (level - 1) (names_at level levels ++ name ∷ []) ≡ with_name level name levels
one_more_name levels level name top next = set_at (take (level - 1) levels) (names_at level levels) [] (names_at level levels ++ name ∷ []) (level - 1) (front levels level top next)

-- the names of the siblings so far are taken, at each level
pub record Takes (before : List TreeRow) (levels : List (List (List ℕ))) : Type 0 where
  pub taken : (level : ℕ) (name : List ℕ) → 1 ≤ level → list_any (bytes_eq name) (names_at level levels) ≡ list_any (has_name level name) (siblings_before level before)

pub none_taken : Takes [] []
none_taken = record { taken = λ level name top. refl }

either_way : (a b : List ℕ) → bytes_eq a b ≡ bytes_eq b a
either_way [] [] = refl
either_way [] (y ∷ b) = refl
either_way (x ∷ a) [] = refl
either_way (x ∷ a) (y ∷ b) = grind (arith, either_way a b)

one_or_other : (a b : Bool) → (a || (b || false)) ≡ (b || a)
one_or_other true true = refl
one_or_other true false = refl
one_or_other false true = refl
one_or_other false false = refl

-- the siblings so far, where one more row stands behind the others
siblings_more : (level : ℕ) (before : List TreeRow) (row : TreeRow) → siblings_before level (before ++ row ∷ []) ≡ cond (nat_le level row.depth) (row ∷ siblings_before level before) []
siblings_more level before row = ap (take_while (λ r. nat_le level r.depth)) (reverse-append before (row ∷ [])) ∙ take_while-cons (λ r. nat_le level r.depth) row (reverse before)

three_ways : (a b : ℕ) → (a < b) ⊎ ((a ≡ b) ⊎ (b < a))
three_ways a b = elim (cases_Bool (nat_lt a b)) [
  | inl less ↦ inl (grind (arith, nat_tests, less))
  | inr more ↦ elim (cases_Bool (a == b)) [
    | inl same ↦ inr (inl (grind (arith, nat_tests, same)))
    | inr other ↦ inr (inr (grind (arith, nat_tests, more, other)))
  ]
]

-- one more row takes its name, and ends what was taken below its level
pub takes_more : (before : List TreeRow) (levels : List (List (List ℕ))) (row : TreeRow) → Takes before levels → 1 ≤ row.depth → row.depth ≤ length levels + 1 → Takes (before ++ row ∷ []) (with_name row.depth row.name levels)
takes_more before levels row takes top next = record { taken = at_each }
  where
    names : List (List ℕ)
    names = names_at row.depth levels

    many : length (with_name row.depth row.name levels) ≡ row.depth
    many = as_many_levels levels row.depth row.name top next

    at_each : (level : ℕ) (name : List ℕ) → 1 ≤ level → list_any (bytes_eq name) (names_at level (with_name row.depth row.name levels)) ≡ list_any (has_name level name) (siblings_before level (before ++ row ∷ []))
    at_each level name some = elim (three_ways level row.depth) [
      | inl above ↦
          let low : nat_le level row.depth ≡ true = grind (arith, nat_tests, above) in
          let other : (row.depth == level) ≡ false = grind (arith, nat_tests, above) in
          let size = front levels row.depth top next in
          let kept : names_at level (with_name row.depth row.name levels) ≡ names_at level levels =
          named level (with_name row.depth row.name levels)
          ∙ (get_or_append_left (take (row.depth - 1) levels) ((names ++ row.name ∷ []) ∷ []) [] (level - 1) (omega (arith, size, above, some))
          ∙ (get_or-take (row.depth - 1) levels (level - 1) [] (omega (arith, above, some)) ∙ sym (named level levels))) in
          rw (siblings_more level before row, low, other, kept) (takes.taken level name some)
      | inr rest ↦ elim rest [
        | inl same ↦
            let low : nat_le level row.depth ≡ true = grind (arith, nat_tests, same) in
            let equal : (row.depth == level) ≡ true = grind (arith, nat_tests, same) in
            let here : names_at level (with_name row.depth row.name levels) ≡ names ++ row.name ∷ [] =
            named level (with_name row.depth row.name levels)
            ∙ get_or_at (take (row.depth - 1) levels) (names ++ row.name ∷ []) [] [] (level - 1) (front levels row.depth top next ∙ ap (λ n. n - 1) (sym same)) in
            let held : list_any (bytes_eq name) names ≡ list_any (has_name level name) (siblings_before level before) =
            ap (λ n. list_any (bytes_eq name) (names_at n levels)) (sym same) ∙ takes.taken level name some in
            rw (siblings_more level before row, low, equal, here, list_any-append (bytes_eq name) names (row.name ∷ []), held, either_way name row.name)
            (one_or_other (list_any (has_name level name) (siblings_before level before)) (bytes_eq row.name name))
        | inr below ↦
            let high : nat_le level row.depth ≡ false = grind (arith, nat_tests, below) in
            let none : names_at level (with_name row.depth row.name levels) ≡ [] = named level (with_name row.depth row.name levels) ∙ get_or_past (with_name row.depth row.name levels) (level - 1) [] (omega (arith, many, below)) in
            rw (siblings_more level before row, high, none) refl
      ]
    ]

-- rows that may stand behind one of a level
abbrev pub IsOutlineBehind : ℕ → List TreeRow → Type 0
IsOutlineBehind level [] = Unit {0}
IsOutlineBehind level (row ∷ rows) = (1 ≤ row.depth) × (row.depth ≤ level + 1) × (are_outlined row rows ≡ true)

stands_next : (row next : TreeRow) → may_stand_behind row next ≡ true → next.depth ≤ row.depth + 1
stands_next row next behind = elim (cases_Bool (nat_le next.depth row.depth)) [
  | inl higher ↦
      let least : next.depth ≤ row.depth = grind (arith, nat_tests, higher) in
      omega (arith, least)
  | inr lower ↦
      let child = (both (next.depth == row.depth + 1) _ (rw (lower, may_stand_behind) at behind)).0 in
      let level : next.depth ≡ row.depth + 1 = grind (arith, nat_tests, child) in
      omega (arith, level)
]

pub next_behind : (level : ℕ) (row : TreeRow) (rows : List TreeRow) → IsOutlineBehind level (row ∷ rows) → IsOutlineBehind row.depth rows
next_behind level row [] h = tt
next_behind level row (next ∷ rows) h =
    let split = both (nat_le 1 next.depth && may_stand_behind row next) (are_outlined next rows) h.2 in
    let front = both (nat_le 1 next.depth) (may_stand_behind row next) split.0 in
    (grind (arith, nat_tests, front.0), stands_next row next front.1, split.1)

pub all_behind : (rows : List TreeRow) → is_outline rows ≡ true → IsOutlineBehind 0 rows
all_behind [] h = tt
all_behind (row ∷ rows) h =
    let split = both (row.depth == 1) (are_outlined row rows) h in
    let top : row.depth ≡ 1 = grind (arith, nat_tests, split.0) in
    (omega (arith, top), omega (arith, top), split.1)

-- names that a set has, and those that a list of references shows
abbrev pub shown : List (Bor (List ℕ)) → List (List ℕ)
shown keys = map (λ name. name.now) keys

pub any_shown : (name : List ℕ) (keys : List (Bor (List ℕ))) → list_any (λ k. bytes_eq name k.now) keys ≡ list_any (bytes_eq name) (shown keys)
any_shown name [] = refl
any_shown name (k ∷ keys) = rw (any_shown name keys)

pub twice_not : (b : Bool) → not (not b) ≡ b
twice_not true = refl
twice_not false = refl
