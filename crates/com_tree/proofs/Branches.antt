-- Branches of trees, and how many leaves they have.
use Rattle.std.proofs.Common.{◌≡◌, ℕ, suc, ◌+◌, ◌<◌, ◌≤◌, Bool, true, List, [], ◌∷◌, length, take, drop, get_or, refl, ap, arith, inl, inr}
use Rattle.std.specs.Prelude.{IsTrue, ◌==◌}
use Rattle.std.specs.List.{prefix_len, take_while}
use Rattle.std.proofs.lemmas.List.{drop_more}
use mathlib.Core.Bool.{cond}
use Rattle.std.proofs.lemmas.Bool.{cases_Bool, false≢true}
use Rattle.std.proofs.lemmas.List.Folds.{length-prefix_len}
use Rattle.std.proofs.lemmas.List.Sums.{take_while-cons, sum_by-take-le, sum_by-take-drop}
use Rattle.com_tree.specs.declared.tree.TreeRow.{TreeRow}
use Rattle.com_tree.specs.Written.{is_leaf, is_deeper, rows_below, leaf_count, top_count, are_nested, is_forest}
use Rattle.com_tree.specs.Places.{branch_of}
use Rattle.com_tree.proofs.Building.{both}

-- the longest front that passes a test is as many rows from the front
pub as_many : (p : TreeRow → Bool) (xs : List TreeRow) → take (length (take_while p xs)) xs ≡ take_while p xs
as_many p xs = ap (λ n. take n xs) (length-prefix_len p xs)

-- it is no longer than the list
pub few_below : (p : TreeRow → Bool) (xs : List TreeRow) → length (take_while p xs) ≤ length xs
few_below p [] = omega arith
few_below p (x ∷ xs) = elim (cases_Bool (p x)) [
  | inl passes ↦ rw (take_while-cons p x xs, passes) (omega (arith, few_below p xs))
  | inr fails ↦ rw (take_while-cons p x xs, fails) (omega arith)
]

-- a node with as many rows behind it as stand below it is its branch
pub branch_taken : (rows : List TreeRow) (at : ℕ) (row : TreeRow) → at < length rows → row ≡ get_or rows at row
    → take (suc (length (rows_below row.depth (drop (at + 1) rows)))) (drop at rows) ≡ branch_of (drop at rows)
branch_taken rows at row within is =
    let here : drop at rows ≡ row ∷ drop (at + 1) rows = rw (← is) at (drop_more rows at row within) in
    rw here (ap (λ below. row ∷ below) (as_many (is_deeper row.depth) (drop (at + 1) rows)))

pub branch_length : (rows : List TreeRow) (at : ℕ) (row : TreeRow) → at < length rows → row ≡ get_or rows at row → length (branch_of (drop at rows)) ≡ 1 + length (rows_below row.depth (drop (at + 1) rows))
branch_length rows at row within is =
    let here : drop at rows ≡ row ∷ drop (at + 1) rows = rw (← is) at (drop_more rows at row within) in
    let branch : branch_of (drop at rows) ≡ row ∷ rows_below row.depth (drop (at + 1) rows) = rw here refl in
    omega (arith, ap length branch)

-- at or before each node there is one at the top
pub some_top : (rows : List TreeRow) (at : ℕ) → IsTrue (is_forest rows) → 1 ≤ top_count (take (at + 1) rows)
some_top [] at forest = absurd (false≢true forest)
some_top (row ∷ rows) at forest =
    let next : at + 1 ≡ suc at = omega arith in
    let top : (row.depth == 1) ≡ true = (both (row.depth == 1) (are_nested row rows) forest).0 in
    let one : top_count (row ∷ []) ≡ 1 = rw top refl in
    let least = sum_by-take-le (λ (r : TreeRow). cond (r.depth == 1) 1 0) (take (suc at) (row ∷ rows)) 1 in
    rw next (omega (arith, one, least))

-- no more leaves stand before a place than there are
pub fewer_before : (rows : List TreeRow) (at : ℕ) → leaf_count (take at rows) ≤ leaf_count rows
fewer_before rows at = sum_by-take-le (λ (r : TreeRow). cond (is_leaf r) 1 0) rows at

-- a branch is a front of what begins with its node
fewer_leaves : (rows : List TreeRow) → leaf_count (branch_of rows) ≤ leaf_count rows
fewer_leaves [] = omega arith
fewer_leaves (row ∷ rows) = sum_by-take-le (λ (r : TreeRow). cond (is_leaf r) 1 0) (row ∷ rows) (suc (prefix_len (is_deeper row.depth) rows))

-- the leaves of a branch and those before it are no more than all
pub leaves_of_branch : (rows : List TreeRow) (at : ℕ) → leaf_count (take at rows) + leaf_count (branch_of (drop at rows)) ≤ leaf_count rows
leaves_of_branch rows at = omega (arith, sum_by-take-drop (λ (row : TreeRow). cond (is_leaf row) 1 0) rows at, fewer_leaves (drop at rows))
