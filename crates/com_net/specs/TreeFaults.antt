-- The queues of a description as trees, and the faults of them and of the paths into them.
use Rattle.std.specs.Prelude.{ℕ, ◌+◌, Bool, not, ◌&&◌, ◌==◌, List, [], ◌∷◌, length, Option, Some, None, is_none, option_map, option_and_then, unwrap_or, slice_get, codes, if◌then◌else◌}
use Rattle.std.specs.List.{flat_map}
use Rattle.std.specs.Str.{bytes_eq}
use Rattle.toml.specs.Data.{Members}
use Rattle.com_tree.specs.declared.tree.TreeRow.{TreeRow}
use Rattle.com_tree.specs.declared.tree.Choose.{Choose}
use Rattle.com_tree.specs.declared.tree.TheConstants.{MAX_DEPTH}
use Rattle.com_tree.specs.declared.tree.Choose.TheVariants.{Ordered, Oldest}
use Rattle.com_tree.specs.declared.tree.Leaf.{Leaf}
use Rattle.com_tree.specs.declared.build.TreeFault.{TreeFault}
use Rattle.com_tree.specs.declared.build.TreeFault.TheVariants as tree
use Rattle.com_tree.specs.Faults.{tree_fault}
use Rattle.com_tree.specs.Places.{node_with, leaf_at}
use Rattle.com_net.specs.declared.keys.Section.{Section}
use Rattle.com_net.specs.declared.keys.Section.TheVariants as section
use Rattle.com_net.specs.declared.keys.Key.TheVariants as key
use Rattle.com_net.specs.Values.{has, string_at, strings_at, tables_at}
use Rattle.com_net.specs.Places.{Place, key_path, below}

-- how a queue chooses, where there are queues below it
abbrev pub choose_of : Members → Option Choose
choose_of table =
    if has key.Children table then
    (if bytes_eq (string_at key.Choose table) (codes "oldest") then Some Oldest else Some Ordered)
    else None

-- a node of a level, with the name of a queue
abbrev pub row_of : ℕ → Members → Option Choose → TreeRow
row_of level table choose =
    record { depth = level; name = string_at key.Name table; choose = choose }

-- below the fourth level one row stands for all
abbrev pub rows_below_fourth : ℕ → Members → List TreeRow
rows_below_fourth level table =
    if level == MAX_DEPTH && not (length (tables_at key.Children table) == 0)
    then row_of (MAX_DEPTH + 1) table None ∷ [] else []

-- the node of a queue, with the row below it
abbrev pub queue_rows : Section → Members → List TreeRow
queue_rows (section.Queue level) table =
    row_of level table (choose_of table) ∷ rows_below_fourth level table
queue_rows _ table = []

-- the nodes in preorder
abbrev pub tree_rows : List Place → List TreeRow
tree_rows places = flat_map (λ place. queue_rows place.section place.table) places

-- the path of the first table below a queue
abbrev pub first_below : Place → List ℕ
first_below place = below place.path (codes "sub.1")

-- the paths of a queue's rows
abbrev pub row_paths : Place → List (List ℕ)
row_paths place = elim (queue_rows place.section place.table) [
  | [] ↦ []
  | row ∷ [] ↦ place.path ∷ []
  | row ∷ rows ↦ place.path ∷ first_below place ∷ []
]

-- the path of a row
abbrev pub path_of_row : List Place → ℕ → List ℕ
path_of_row places row = unwrap_or (slice_get (flat_map row_paths places) row) (codes "queue")

-- where a fault of the trees is reported: an empty tree at the array that is empty, others at the
-- node
abbrev pub tree_path : List Place → ℕ → TreeFault → List ℕ
tree_path places row tree.Empty = elim (slice_get (flat_map row_paths places) row) [
  | None ↦ codes "queue"
  | Some path ↦ below path (codes "sub")
]
tree_path places row _ = path_of_row places row

-- the first fault of the trees, and its path
abbrev pub bad_tree : List Place → Option (TreeFault × List ℕ)
bad_tree places =
    option_map (λ fault. (fault.1, tree_path places fault.0 fault.1)) (tree_fault (tree_rows places))

-- the leaf at the end of a path
abbrev pub leaf_with : List TreeRow → List (List ℕ) → Option Leaf
leaf_with rows path = option_and_then (leaf_at rows) (node_with rows path)

-- a terminal's messages would come to no leaf
abbrev pub leads_to_no_leaf : List TreeRow → Members → Bool
leads_to_no_leaf rows content =
    has key.Input content && is_none (leaf_with rows (strings_at key.Route content))

-- no node would start a unit
abbrev pub leads_to_no_node : List TreeRow → Members → Bool
leads_to_no_node rows content =
    has key.Schedule content && is_none (node_with rows (strings_at key.Schedule content))

-- a terminal's route that leads to no leaf, and a unit's schedule that leads to no node
abbrev pub bad_route : List TreeRow → Place → Option (List ℕ)
bad_route rows place = elim place.section [
  | section.Terminal ↦
      if leads_to_no_leaf rows place.table then Some (key_path place key.Route) else None
  | section.Unit ↦
      if leads_to_no_node rows place.table then Some (key_path place key.Schedule) else None
  | _ ↦ None
]
