-- How many of something are under each node.
use Rattle.std.specs.Prelude.{◌≡◌, ℕ, suc, ◌<◌, Bool, ◌&&◌, nat_le, nat_lt, List, length, get_or, if◌then◌else◌}
use Rattle.com_tree.specs.declared.tree.TreeRow.{TreeRow}
use Rattle.com_tree.specs.Places.{first_leaf, past_leaf}
use Rattle.com_tree.specs.NextLeaf.{node_at}

-- the node of a row is the leaf with this number, or above it
abbrev pub is_over : List TreeRow → ℕ → ℕ → Bool
is_over rows leaf row =
    nat_le (first_leaf rows (node_at row)) leaf && nat_lt leaf (past_leaf rows (node_at row))

-- One more on a leaf: the numbers of the leaf and of the nodes above it are higher by one, and all
-- others stay.
pub record IsOneMore (rows : List TreeRow) (leaf : ℕ) (less more : List ℕ) : Type 0 where
  pub size : length more ≡ length less
  pub each : (row : ℕ) → row < length less → get_or more row 0
      ≡ (if is_over rows leaf row then suc (get_or less row 0) else get_or less row 0)
