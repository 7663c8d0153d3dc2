-- Which leaf a RECEIVE takes a message from, by the first message that waits on each leaf.
use Rattle.std.specs.Prelude.{ℕ, ◌+◌, ◌<◌, ◌≤◌, IsSome, zero, suc, Bool, false, ◌==◌, nat_lt, unwrap_or, List, [], ◌∷◌, length, map, drop, Option, Some, None, option_map, option_and_then, slice_get, if◌then◌else◌}
use Rattle.std.specs.List.{filter, range_with_len}
use Rattle.com_tree.specs.declared.tree.TreeRow.{TreeRow}
use Rattle.com_tree.specs.declared.tree.Choose.{Choose}
use Rattle.com_tree.specs.declared.tree.Choose.TheVariants.{Ordered, Oldest}
use Rattle.com_tree.specs.declared.tree.Node.{Node}
use Rattle.com_tree.specs.declared.tree.Leaf.{Leaf}
use Rattle.com_tree.specs.declared.tree.TheConstants.{MAX_DEPTH}
use Rattle.com_tree.specs.Written.{rows_below}
use Rattle.com_tree.specs.Places.{first_leaf, past_leaf}

-- the node of a row
abbrev pub node_at : ℕ → Node
node_at place = record { row = place }

-- the nodes below a node, in written order
abbrev pub below : List TreeRow → Node → List Node
below rows node = elim (slice_get rows node.row) [
  | None ↦ []
  | Some row ↦ map node_at (range_with_len (node.row + 1)
      (length (rows_below row.depth (drop (node.row + 1) rows))))
]

-- the level of a node, from 1 at the top
abbrev pub level : List TreeRow → Node → Option ℕ
level rows node = option_map (λ row. row.depth) (slice_get rows node.row)

-- the second level is the one below the first
abbrev pub is_next_level : Option ℕ → Option ℕ → Bool
is_next_level (Some upper) (Some lower) = lower == upper + 1
is_next_level _ _ = false

-- the children of a node, in written order: of the nodes below it those of the next level
abbrev pub children : List TreeRow → Node → List Node
children rows node =
    filter (λ other. is_next_level (level rows node) (level rows other)) (below rows node)

-- the first that there is
abbrev pub first_found : List (Option ℕ) → Option ℕ
first_found [] = None
first_found (None ∷ choices) = first_found choices
first_found (Some leaf ∷ choices) = Some leaf

-- the second leaf's first message arrived before that of the first leaf
abbrev pub is_later : (ℕ → Option ℕ) → ℕ → ℕ → Bool
is_later first leaf other = nat_lt (unwrap_or (first other) 0) (unwrap_or (first leaf) 0)

-- the leaf whose first message arrived first, and of equal ones the first as written
abbrev pub oldest : (ℕ → Option ℕ) → List (Option ℕ) → Option ℕ
oldest first [] = None
oldest first (None ∷ choices) = oldest first choices
oldest first (Some leaf ∷ choices) = elim (oldest first choices) [
  | None ↦ Some leaf
  | Some other ↦ if is_later first leaf other then Some other else Some leaf
]

-- what an inner node chooses of the choices of its children
abbrev pub chosen : Choose → (ℕ → Option ℕ) → List (Option ℕ) → Option ℕ
chosen Ordered first choices = first_found choices
chosen Oldest first choices = oldest first choices

-- a leaf chooses itself where it has a message, an inner node by the choices of its children
abbrev pub choice_by : ℕ → Option Choose → (ℕ → Option ℕ) → List (Option ℕ) → Option ℕ
choice_by leaf None first choices = option_map (λ arrival. leaf) (first leaf)
choice_by leaf (Some choose) first choices = chosen choose first choices

-- the choice of a node that has no more levels than these, its own among them
abbrev pub choice : ℕ → List TreeRow → (ℕ → Option ℕ) → Node → Option ℕ
choice zero rows first node = None
choice (suc levels) rows first node =
    option_and_then (λ row. choice_by (first_leaf rows node) row.choose first
    (map (choice levels rows first) (children rows node))) (slice_get rows node.row)

-- the number of the first message on a leaf, by a list that has it for each leaf
abbrev pub head_on : List (Option ℕ) → ℕ → Option ℕ
head_on heads leaf = unwrap_or (slice_get heads leaf) None

-- the leaf that the node chooses, where `first` gives the arrival number of the first
-- message that waits on a leaf; a tree has no more levels
abbrev pub next_leaf : List TreeRow → Node → (ℕ → Option ℕ) → Option Leaf
next_leaf rows node first = option_map (λ number. record { number = number }) (choice MAX_DEPTH rows first node)

-- a message waits on this leaf, which stands under the node or is it
pub record WaitsUnder (rows : List TreeRow) (node : Node) (first : ℕ → Option ℕ) (leaf : ℕ) : Type 0 where
  pub least : first_leaf rows node ≤ leaf
  pub most : leaf < past_leaf rows node
  pub waits : IsSome (first leaf)
