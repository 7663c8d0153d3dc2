-- Nodes and leaves by their places, and their paths.
use Rattle.std.specs.Prelude.{ℕ, ◌+◌, ◌-◌, List, [], ◌∷◌, ◌++◌, take, drop, Option, Some, None, option_map, slice_get, if◌then◌else◌}
use Rattle.std.specs.Cmp.Lexicographic.{pointwise}
use Rattle.std.specs.List.{position}
use Rattle.std.specs.Str.{bytes_eq}
use Rattle.com_tree.specs.declared.tree.TreeRow.{TreeRow}
use Rattle.com_tree.specs.declared.tree.Node.{Node}
use Rattle.com_tree.specs.declared.tree.Leaf.{Leaf}
use Rattle.com_tree.specs.Written.{is_leaf, leaf_count, rows_below, top_count}

-- the path of a node, by that of the node before it: the names above its level, and its own
abbrev pub path_behind : List (List ℕ) → TreeRow → List (List ℕ)
path_behind path row = take (row.depth - 1) path ++ row.name ∷ []

-- the paths of the nodes that follow a node with this path
abbrev pub paths_behind : List (List ℕ) → List TreeRow → List (List (List ℕ))
paths_behind path [] = []
paths_behind path (row ∷ rows) =
    let next = path_behind path row in
    next ∷ paths_behind next rows

-- the paths of the nodes, in preorder
abbrev pub paths : List TreeRow → List (List (List ℕ))
paths rows = paths_behind [] rows

-- the node with this path, or none
abbrev pub node_with : List TreeRow → List (List ℕ) → Option Node
node_with rows path =
    option_map (λ place. record { row = place })
    (position (λ other. pointwise bytes_eq other path) (paths rows))

-- a node and those below it
abbrev pub branch_of : List TreeRow → List TreeRow
branch_of [] = []
branch_of (row ∷ rows) = row ∷ rows_below row.depth rows

-- the number of the first leaf under a node, which is that of a leaf itself
abbrev pub first_leaf : List TreeRow → Node → ℕ
first_leaf rows node = leaf_count (take node.row rows)

-- one past the number of the last leaf under a node
abbrev pub past_leaf : List TreeRow → Node → ℕ
past_leaf rows node = first_leaf rows node + leaf_count (branch_of (drop node.row rows))

-- the leaf that a node is
abbrev pub leaf_at : List TreeRow → Node → Option Leaf
leaf_at rows node = elim (slice_get rows node.row) [
  | None ↦ None
  | Some row ↦ if is_leaf row then Some (record { number = first_leaf rows node }) else None
]

-- the number of the tree that a node is in
abbrev pub top_of : List TreeRow → Node → ℕ
top_of rows node = top_count (take (node.row + 1) rows) - 1

-- the paths of the leaves among the nodes that follow a node with this path
abbrev pub leaf_paths_behind : List (List ℕ) → List TreeRow → List (List (List ℕ))
leaf_paths_behind path [] = []
leaf_paths_behind path (row ∷ rows) =
    let next = path_behind path row in
    if is_leaf row then next ∷ leaf_paths_behind next rows else leaf_paths_behind next rows

-- the paths of the leaves, in written order
abbrev pub leaf_paths : List TreeRow → List (List (List ℕ))
leaf_paths rows = leaf_paths_behind [] rows
