-- Why rows are no trees that a description may have.
use Rattle.std.specs.Prelude.{ℕ, ◌+◌, Bool, true, false, not, ◌&&◌, ◌||◌, ◌==◌, nat_le, nat_lt, List, [], ◌∷◌, length, take, drop, reverse, Option, Some, None, option_map, slice_get}
use Rattle.std.specs.List.{find, list_any, take_while, range_with_len}
use Rattle.std.specs.Option.{option_or}
use Rattle.com_tree.specs.declared.tree.TreeRow.{TreeRow}
use Rattle.com_tree.specs.declared.tree.TheConstants.{MAX_DEPTH, MAX_LEAVES}
use Rattle.com_tree.specs.declared.build.TreeFault.{TreeFault}
use Rattle.com_tree.specs.declared.build.TreeFault.TheVariants.{TwiceNamed, TooDeep, TooMany, Empty}
use Rattle.com_tree.specs.Written.{is_leaf, is_deeper, has_name, leaf_count}

-- a row may stand behind another where it is at most one level below it, and below a leaf never
abbrev pub may_stand_behind : TreeRow → TreeRow → Bool
may_stand_behind row next =
    nat_le next.depth row.depth || (next.depth == row.depth + 1 && not (is_leaf row))

-- each row may stand behind the one before it
abbrev pub are_outlined : TreeRow → List TreeRow → Bool
are_outlined row [] = true
are_outlined row (next ∷ rows) =
    (nat_le 1 next.depth && may_stand_behind row next) && are_outlined next rows

-- the rows of nodes in preorder, the first at the top
abbrev pub is_outline : List TreeRow → Bool
is_outline [] = true
is_outline (row ∷ rows) = row.depth == 1 && are_outlined row rows

-- the siblings before a row, and what stands below them: back to the first row above that level
abbrev pub siblings_before : ℕ → List TreeRow → List TreeRow
siblings_before depth rows = take_while (λ row. nat_le depth row.depth) (reverse rows)

-- a sibling before has the same name
abbrev pub is_twice_named : List TreeRow → TreeRow → Bool
is_twice_named before row =
    list_any (has_name row.depth row.name) (siblings_before row.depth before)

-- a leaf behind as many others as there may be
abbrev pub is_one_leaf_more : List TreeRow → TreeRow → Bool
is_one_leaf_more before row = is_leaf row && nat_le MAX_LEAVES (leaf_count before)

-- the first of these rows is an inner node that no child follows
abbrev pub is_childless : List TreeRow → Bool
is_childless [] = false
is_childless (row ∷ []) = not (is_leaf row)
is_childless (row ∷ next ∷ rows) = not (is_leaf row) && not (is_deeper row.depth next)

-- this holds of the row at a place
abbrev pub holds_at : (TreeRow → Bool) → List TreeRow → ℕ → Bool
holds_at test rows at = elim (slice_get rows at) [
  | None ↦ false
  | Some row ↦ test row
]

-- the first place where this holds
abbrev pub first_place : (ℕ → Bool) → List TreeRow → Option ℕ
first_place test rows = find test (range_with_len 0 (length rows))

-- the place of the first row that has the name of a sibling before it
abbrev pub twice_named : List TreeRow → Option ℕ
twice_named rows = first_place (λ at. holds_at (is_twice_named (take at rows)) rows at) rows

-- that of the first row below the lowest level
abbrev pub too_deep : List TreeRow → Option ℕ
too_deep rows = first_place (holds_at (λ row. nat_lt MAX_DEPTH row.depth) rows) rows

-- that of the first leaf too many
abbrev pub too_many : List TreeRow → Option ℕ
too_many rows = first_place (λ at. holds_at (is_one_leaf_more (take at rows)) rows at) rows

-- that of the first inner node without a child; where there are no rows at all, the first place
abbrev pub empty : List TreeRow → Option ℕ
empty [] = Some 0
empty (row ∷ rows) = first_place (λ at. is_childless (drop at (row ∷ rows))) (row ∷ rows)

abbrev pub fault_at : TreeFault → Option ℕ → Option (ℕ × TreeFault)
fault_at fault place = option_map (λ at. (at, fault)) place

-- the first kind of fault that there is, in this order, and its first row
abbrev pub tree_fault : List TreeRow → Option (ℕ × TreeFault)
tree_fault rows =
    option_or (fault_at TwiceNamed (twice_named rows))
    (option_or (fault_at TooDeep (too_deep rows))
    (option_or (fault_at TooMany (too_many rows)) (fault_at Empty (empty rows))))
