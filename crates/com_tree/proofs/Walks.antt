-- Walking over the rows of a tree with the names that lead to each.
use Rattle.std.proofs.Common.{◌≡◌, ℕ, suc, ◌+◌, ◌-◌, ◌*◌, ◌≤◌, nat_le, Bool, true, false, ◌&&◌, List, [], ◌∷◌, ◌++◌, length, take, set, Some, refl, sym, ap, ◌∙◌, arith, inl, inr}
use Rattle.std.specs.Prelude.{◌==◌, Option, slice_get, if◌then◌else◌}
use Rattle.std.specs.Cmp.Lexicographic.{pointwise}
use Rattle.std.specs.Str.{bytes_eq}
use mathlib.Core.Bool.{cond}
use Rattle.std.proofs.lemmas.List.Sums.{sum_by-append}
use Rattle.std.specs.List.{list_all, position, position_from, sum_by}
use Rattle.std.proofs.lemmas.Bool.{cases_Bool}
use Rattle.std.proofs.lemmas.Bool.Decides.{nat_tests}
use Rattle.std.proofs.lemmas.Grind.{take-set_at}
use Rattle.std.proofs.lemmas.List.{take-take}
use Rattle.std.proofs.lemmas.Iterator.Adapters.{position_from-zero}
use Rattle.com_tree.specs.declared.tree.TreeRow.{TreeRow}
use Rattle.com_tree.specs.Written.{is_leaf, leaf_count, may_follow, are_nested, is_forest, IsWritten}
use Rattle.com_tree.specs.Places.{path_behind, paths_behind, paths, leaf_paths_behind, leaf_paths}
use Rattle.com_tree.proofs.Building.{both}

-- rows that go on in a tree
abbrev pub is_rest : List TreeRow → Bool
is_rest [] = true
is_rest (row ∷ rows) = are_nested row rows

-- what is left of the rows of a tree
pub record IsRest (rows : List TreeRow) : Type 0 where
  pub nested : is_rest rows ≡ true
  pub levels : list_all (λ row. nat_le 1 row.depth && nat_le row.depth 4) rows ≡ true

-- the first of these rows is at most one level below this one
abbrev pub IsNext : ℕ → List TreeRow → Type 0
IsNext depth [] = Unit {0}
IsNext depth (row ∷ rows) = row.depth ≤ depth + 1

next_of : (row next : TreeRow) → may_follow row next ≡ true → next.depth ≤ row.depth + 1
next_of row next follow = elim (cases_Bool (is_leaf row)) [
  | inl leaf ↦
      let low : nat_le next.depth row.depth ≡ true = rw (leaf, may_follow) at follow in
      grind (arith, nat_tests, low)
  | inr inner ↦
      let low : (next.depth == row.depth + 1) ≡ true = rw (inner, may_follow) at follow in
      grind (arith, nat_tests, low)
]

child_level : (row next : TreeRow) → is_leaf row ≡ false → may_follow row next ≡ true → next.depth ≡ row.depth + 1
child_level row next inner follow =
    let level : (next.depth == row.depth + 1) ≡ true = rw (inner, may_follow) at follow in
    grind (arith, nat_tests, level)

behind_nested : (row : TreeRow) (rows : List TreeRow) → are_nested row rows ≡ true → (is_rest rows ≡ true) × IsNext row.depth rows
behind_nested row [] nested = (refl, tt)
behind_nested row (next ∷ rows) nested =
    let split = both (may_follow row next) (are_nested next rows) nested in
    (split.1, next_of row next split.0)

-- a row on its way, and what is left behind it
pub record IsStep (row : TreeRow) (rows : List TreeRow) : Type 0 where
  pub least : 1 ≤ row.depth
  pub most : row.depth ≤ 4
  pub rest : IsRest rows
  pub next : IsNext row.depth rows

pub step_of : (row : TreeRow) (rows : List TreeRow) → IsRest (row ∷ rows) → IsStep row rows
step_of row rows h =
    let behind = behind_nested row rows h.nested in
    let split = both (nat_le 1 row.depth && nat_le row.depth 4) (list_all (λ r. nat_le 1 r.depth && nat_le r.depth 4) rows) h.levels in
    let level = both (nat_le 1 row.depth) (nat_le row.depth 4) split.0 in
    record {
      least = grind (arith, nat_tests, level.0);
      most = grind (arith, nat_tests, level.1);
      rest = record { nested = behind.0; levels = split.1 };
      next = behind.1;
    }

all_nested : (rows : List TreeRow) → is_forest rows ≡ true → is_rest rows ≡ true
all_nested [] forest = refl
all_nested (row ∷ rows) forest = (both (row.depth == 1) (are_nested row rows) forest).1

pub first_at_top : (rows : List TreeRow) → is_forest rows ≡ true → IsNext 0 rows
first_at_top [] forest = tt
first_at_top (row ∷ rows) forest =
    let top = (both (row.depth == 1) (are_nested row rows) forest).0 in
    grind (arith, nat_tests, top)

pub all_left : (rows : List TreeRow) → IsWritten rows → IsRest rows
all_left rows h = record { nested = all_nested rows h.forest; levels = h.levels }

-- the names that lead to a row stand at the front of those that were written
pub names_to : (names : List (List ℕ)) (row : TreeRow) → length names ≡ 4 → 1 ≤ row.depth → row.depth ≤ 4 → take row.depth (set names (row.depth - 1) row.name) ≡ path_behind names row
names_to names row four least most = take-set_at names (row.depth - 1) row.depth row.name (omega (arith, least)) (omega (arith, least, most, four))

path_kept : (names : List (List ℕ)) (depth : ℕ) (row : TreeRow) → row.depth ≤ depth + 1 → path_behind (take depth names) row ≡ path_behind names row
path_kept names depth row h = ap (λ front. front ++ row.name ∷ []) (take-take (row.depth - 1) depth names (omega (arith, h)))

-- names past the level of the row before lead nowhere
pub paths_kept : (names : List (List ℕ)) (depth : ℕ) (rows : List TreeRow) → IsNext depth rows → paths_behind (take depth names) rows ≡ paths_behind names rows
paths_kept names depth [] h = refl
paths_kept names depth (row ∷ rows) h = ap (λ next. next ∷ paths_behind next rows) (path_kept names depth row h)

abbrev leaves_after : TreeRow → List TreeRow → List (List ℕ) → List (List (List ℕ))
leaves_after row rows next = if is_leaf row then next ∷ leaf_paths_behind next rows else leaf_paths_behind next rows

pub leaf_paths_kept : (names : List (List ℕ)) (depth : ℕ) (rows : List TreeRow) → IsNext depth rows → leaf_paths_behind (take depth names) rows ≡ leaf_paths_behind names rows
leaf_paths_kept names depth [] h = refl
leaf_paths_kept names depth (row ∷ rows) h = ap (leaves_after row rows) (path_kept names depth row h)

-- looking for a path in what is left
abbrev pub found_in : List (List ℕ) → List (List ℕ) → ℕ → List TreeRow → Option ℕ
found_in path names at rows = position_from (λ other. pointwise bytes_eq other path) at (paths_behind names rows)

-- all rows are left at first, whatever names stand before
pub found_at_first : (path names : List (List ℕ)) (rows : List TreeRow) → IsWritten rows → found_in path names 0 rows ≡ position (λ other. pointwise bytes_eq other path) (paths rows)
found_at_first path names rows h =
    ap (position_from (λ other. pointwise bytes_eq other path) 0) (sym (paths_kept names 0 rows (first_at_top rows h.forest))) ∙ sym (position_from-zero (λ other. pointwise bytes_eq other path) (paths rows))

-- a row's own path, and the search behind it
pub found_here : (path names : List (List ℕ)) (at : ℕ) (row : TreeRow) (rows : List TreeRow) → length names ≡ 4 → IsStep row rows
    → found_in path names at (row ∷ rows)
    ≡ cond (pointwise bytes_eq (take row.depth (set names (row.depth - 1) row.name)) path) (Some at) (found_in path (set names (row.depth - 1) row.name) (at + 1) rows)
found_here path names at row rows four step =
    let written = set names (row.depth - 1) row.name in
    let to = names_to names row four step.least step.most in
    let behind : paths_behind (path_behind names row) rows ≡ paths_behind written rows = ap (λ front. paths_behind front rows) (sym to) ∙ paths_kept written row.depth rows step.next in
    rw (← to, to, behind) refl

pub leaves_at_first : (names : List (List ℕ)) (rows : List TreeRow) → IsWritten rows → leaf_paths_behind names rows ≡ leaf_paths rows
leaves_at_first names rows h = sym (leaf_paths_kept names 0 rows (first_at_top rows h.forest))

one_leaf_more : (row : TreeRow) (rows : List TreeRow) → leaf_count (row ∷ rows) ≡ cond (is_leaf row) 1 0 + leaf_count rows
one_leaf_more row rows =
    let both_parts = sum_by-append (λ (r : TreeRow). cond (is_leaf r) 1 0) (row ∷ []) rows in
    let alone : sum_by (λ (r : TreeRow). cond (is_leaf r) 1 0) (row ∷ []) ≡ cond (is_leaf row) 1 0 = omega arith in
    omega (arith, both_parts, alone)

pub one_leaf : (row : TreeRow) (rows : List TreeRow) → is_leaf row ≡ true → leaf_count (row ∷ rows) ≡ 1 + leaf_count rows
one_leaf row rows leaf =
    let one : cond {A = ℕ} (is_leaf row) 1 0 ≡ 1 = rw leaf refl in
    omega (arith, one_leaf_more row rows, one)

pub no_leaf : (row : TreeRow) (rows : List TreeRow) → is_leaf row ≡ false → leaf_count (row ∷ rows) ≡ leaf_count rows
no_leaf row rows inner =
    let none : cond {A = ℕ} (is_leaf row) 1 0 ≡ 0 = rw inner refl in
    omega (arith, one_leaf_more row rows, none)

-- no more than four rows stand on the way to each leaf
few_rows : (row : TreeRow) (rows : List TreeRow) → IsRest (row ∷ rows) → length (row ∷ rows) + row.depth ≤ 4 * leaf_count (row ∷ rows) + 1
few_rows row [] h =
    let leaf : is_leaf row ≡ true = h.nested in
    let one : leaf_count (row ∷ []) ≡ 1 = rw leaf refl in
    omega (arith, one, (step_of row [] h).most)
few_rows row (next ∷ rows) h =
    let step = step_of row (next ∷ rows) h in
    let behind = few_rows next rows step.rest in
    let follow = (both (may_follow row next) (are_nested next rows) h.nested).0 in
    let least = (step_of next rows step.rest).least in
    elim (cases_Bool (is_leaf row)) [
      | inl leaf ↦
          let count = one_leaf row (next ∷ rows) leaf in
          omega (arith, count, behind, least, step.most)
      | inr inner ↦
          let count = no_leaf row (next ∷ rows) inner in
          let child = child_level row next inner follow in
          omega (arith, count, behind, child)
    ]

pub at_most_256 : (rows : List TreeRow) → IsWritten rows → length rows ≤ 256
at_most_256 [] h = omega arith
at_most_256 (row ∷ rows) h = omega (arith, few_rows row rows (all_left (row ∷ rows) h), (step_of row rows (all_left (row ∷ rows) h)).least, h.leaves)

-- the leaf that is so many leaves behind, where a row is none, or is it, or is one of those before it
pub leaf_passed : (names : List (List ℕ)) (row : TreeRow) (rows : List TreeRow) (before : ℕ) → length names ≡ 4 → IsStep row rows → is_leaf row ≡ false
    → slice_get (leaf_paths_behind names (row ∷ rows)) before ≡ slice_get (leaf_paths_behind (set names (row.depth - 1) row.name) rows) before
leaf_passed names row rows before four step inner =
    let to = names_to names row four step.least step.most in
    let behind = ap (λ front. leaf_paths_behind front rows) (sym to) ∙ leaf_paths_kept (set names (row.depth - 1) row.name) row.depth rows step.next in
    rw inner (ap (λ found. slice_get found before) behind)

pub leaf_counted : (names : List (List ℕ)) (row : TreeRow) (rows : List TreeRow) (before : ℕ) → length names ≡ 4 → IsStep row rows → is_leaf row ≡ true
    → slice_get (leaf_paths_behind names (row ∷ rows)) (before + 1) ≡ slice_get (leaf_paths_behind (set names (row.depth - 1) row.name) rows) before
leaf_counted names row rows before four step leaf =
    let to = names_to names row four step.least step.most in
    let behind = ap (λ front. leaf_paths_behind front rows) (sym to) ∙ leaf_paths_kept (set names (row.depth - 1) row.name) row.depth rows step.next in
    let next : before + 1 ≡ suc before = omega arith in
    rw (leaf, next) (ap (λ found. slice_get found before) behind)

pub leaf_reached : (names : List (List ℕ)) (row : TreeRow) (rows : List TreeRow) → length names ≡ 4 → IsStep row rows → is_leaf row ≡ true
    → slice_get (leaf_paths_behind names (row ∷ rows)) 0 ≡ Some (take row.depth (set names (row.depth - 1) row.name))
leaf_reached names row rows four step leaf = rw (leaf, names_to names row four step.least step.most) refl

leaf_paths_of : (names : List (List ℕ)) (row : TreeRow) (rows : List TreeRow) → is_leaf row ≡ true → leaf_paths_behind names (row ∷ rows) ≡ path_behind names row ∷ leaf_paths_behind (path_behind names row) rows
leaf_paths_of names row rows leaf = rw leaf refl

leaf_paths_past : (names : List (List ℕ)) (row : TreeRow) (rows : List TreeRow) → is_leaf row ≡ false → leaf_paths_behind names (row ∷ rows) ≡ leaf_paths_behind (path_behind names row) rows
leaf_paths_past names row rows inner = rw inner refl

-- there is a path for each leaf
pub length-leaf_paths_behind : (names : List (List ℕ)) (rows : List TreeRow) → length (leaf_paths_behind names rows) ≡ leaf_count rows
length-leaf_paths_behind names [] = refl
length-leaf_paths_behind names (row ∷ rows) =
    let rest = length-leaf_paths_behind (path_behind names row) rows in
    elim (cases_Bool (is_leaf row)) [
      | inl leaf ↦
          let counted = leaf_paths_of names row rows leaf in
          omega (arith, ap length counted, one_leaf row rows leaf, rest)
      | inr inner ↦
          let passed = leaf_paths_past names row rows inner in
          omega (arith, ap length passed, no_leaf row rows inner, rest)
    ]
