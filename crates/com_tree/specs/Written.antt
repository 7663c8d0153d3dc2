-- Queue trees as a description writes them: rows in preorder.
use Rattle.std.specs.Prelude.{ℕ, ◌+◌, ◌≤◌, Bool, true, false, not, ◌&&◌, ◌==◌, nat_le, nat_lt, List, [], ◌∷◌, IsTrue, Option, Some, None, count_by, if◌then◌else◌}
use Rattle.std.specs.List.{list_all, list_any, take_while}
use Rattle.std.specs.Str.{bytes_eq}
use Rattle.com_text.specs.Name.{is_name}
use Rattle.com_tree.specs.declared.tree.TreeRow.{TreeRow}
use Rattle.com_tree.specs.declared.tree.Choose.{Choose}
use Rattle.com_tree.specs.declared.tree.TheConstants.{MAX_DEPTH, MAX_LEAVES}

-- a leaf has no way to choose
abbrev pub is_leaf_choice : Option Choose → Bool
is_leaf_choice None = true
is_leaf_choice (Some choose) = false

-- the node is a leaf
abbrev pub is_leaf : TreeRow → Bool
is_leaf row = is_leaf_choice row.choose

-- the row stands below a level
abbrev pub is_deeper : ℕ → TreeRow → Bool
is_deeper depth row = nat_lt depth row.depth

-- the nodes below a node, which stand behind it
abbrev pub rows_below : ℕ → List TreeRow → List TreeRow
rows_below depth rows = take_while (is_deeper depth) rows

-- a row of one level with the same name
abbrev pub has_name : ℕ → List ℕ → TreeRow → Bool
has_name depth name row = row.depth == depth && bytes_eq row.name name

-- the siblings that follow a node, with all that stands below it and them: up to the first row
-- above its level
abbrev pub siblings_behind : ℕ → List TreeRow → List TreeRow
siblings_behind depth rows = take_while (λ row. nat_le depth row.depth) rows

-- no later sibling has the name of an earlier one
abbrev pub are_siblings_distinct : List TreeRow → Bool
are_siblings_distinct [] = true
are_siblings_distinct (row ∷ rows) =
    not (list_any (has_name row.depth row.name) (siblings_behind row.depth rows))
    && are_siblings_distinct rows

-- a node may stand behind another: a child behind an inner node, and else a leaf's sibling or a
-- node of a level above
abbrev pub may_follow : TreeRow → TreeRow → Bool
may_follow row next =
    if is_leaf row then nat_le next.depth row.depth else next.depth == row.depth + 1

-- each row may stand behind the one before it, and no inner node is last
abbrev pub are_nested : TreeRow → List TreeRow → Bool
are_nested row [] = is_leaf row
are_nested row (next ∷ rows) = may_follow row next && are_nested next rows

-- the first row is of the top level
abbrev pub is_forest : List TreeRow → Bool
is_forest [] = false
is_forest (row ∷ rows) = row.depth == 1 && are_nested row rows

-- how many leaves there are
abbrev pub leaf_count : List TreeRow → ℕ
leaf_count rows = count_by is_leaf rows

-- how many trees there are
abbrev pub top_count : List TreeRow → ℕ
top_count rows = count_by (λ row. row.depth == 1) rows

-- Trees that a description may have: one node or more, every inner node with a child, no more than
-- so many levels and leaves, and siblings of different names.
pub record IsWritten (rows : List TreeRow) : Type 0 where
  pub forest : IsTrue (is_forest rows)
  pub levels : IsTrue (list_all (λ row. nat_le 1 row.depth && nat_le row.depth MAX_DEPTH) rows)
  pub leaves : leaf_count rows ≤ MAX_LEAVES
  pub names : IsTrue (list_all (λ row. is_name row.name) rows)
  pub distinct : IsTrue (are_siblings_distinct rows)
