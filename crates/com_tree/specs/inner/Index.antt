-- Where nodes and leaves are in the rows of a tree, as the private index of a tree has it.
use Rattle.std.specs.Prelude.{◌≡◌, ℕ, suc, ◌+◌, ◌<◌, ◌≤◌, List, length, take, drop, get_or}
use Rattle.com_tree.specs.declared.tree.TreeRow.{TreeRow}
use Rattle.com_tree.specs.declared.index.Place.{Place}
use Rattle.com_tree.specs.Written.{leaf_count, IsWritten}
use Rattle.com_tree.specs.Places.{branch_of, first_leaf, past_leaf}
use Rattle.com_tree.specs.NextLeaf.{node_at}

-- The place of the node at a row: its leaves, the nodes below it, and the row from which on all
-- leaves of the nodes before it come before its own.
pub record IsPlace (rows : List TreeRow) (at : ℕ) (place : Place) : Type 0 where
  pub first : place.first ≡ first_leaf rows (node_at at)
  pub past : place.past ≡ past_leaf rows (node_at at)
  pub below : suc place.below ≡ length (branch_of (drop at rows))
  pub before : place.apart ≤ at
  pub apart : (row : ℕ) → place.apart ≤ row → row < at
      → past_leaf rows (node_at row) ≤ first_leaf rows (node_at at)

-- each node's place, in order
abbrev pub ArePlaces : List TreeRow → List Place → Type 0
ArePlaces rows places =
    (at : ℕ) (other : Place) → at < length places → IsPlace rows at (get_or places at other)

-- The row is that of the leaf with this number.
pub record IsLeafRow (rows : List TreeRow) (leaf : ℕ) (at : ℕ) : Type 0 where
  pub within : at < length rows
  pub number : first_leaf rows (node_at at) ≡ leaf
  pub past : leaf_count (take (at + 1) rows) ≡ leaf + 1

-- each leaf's row, in order
pub record AreLeafRows (rows : List TreeRow) (leaves : List ℕ) : Type 0 where
  pub size : length leaves ≡ leaf_count rows
  pub each : (leaf : ℕ) → leaf < length leaves → IsLeafRow rows leaf (get_or leaves leaf 0)

-- rows that are trees, with each node's place and each leaf's row
pub record IsIndexed (rows : List TreeRow) (places : List Place) (leaves : List ℕ) : Type 0 where
  pub written : IsWritten rows
  pub size : length places ≡ length rows
  pub each : ArePlaces rows places
  pub leaf_rows : AreLeafRows rows leaves
