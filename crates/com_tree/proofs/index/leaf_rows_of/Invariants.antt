use Rattle.std.proofs.Common.{◌≡◌, ℕ, ◌<◌, length, take, get_or}
use Rattle.com_tree.specs.Written.{leaf_count}
use Rattle.com_tree.specs.inner.Index.{IsLeafRow}
use Rattle.com_tree.proofs.index.leaf_rows_of.Given as goal

-- the rows of the leaves so far
abbrev pub invariant-loop-at : goal.invariant-loop-at
invariant-loop-at l = record {
  size : length l.leaves.items ≡ leaf_count (take l.at l.rows);
  each : (leaf : ℕ) → leaf < length l.leaves.items → IsLeafRow l.rows leaf (get_or l.leaves.items leaf 0);
}
