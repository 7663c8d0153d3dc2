use Rattle.std.proofs.Common.{◌≡◌, length, drop}
use Rattle.std.specs.Prelude.{slice_get}
use Rattle.com_tree.specs.Places.{leaf_paths_behind, leaf_paths}
use Rattle.com_tree.proofs.Walks.{IsRest}
use Rattle.com_tree.proofs.tree.Tree.path.Given as goal

-- the leaf is as many leaves behind as are left
abbrev pub invariant-loop-row : goal.invariant-loop-row
invariant-loop-row l = record {
  found : slice_get (leaf_paths_behind l.names (drop l.row-index l.rows)) l.before ≡ slice_get (leaf_paths l.fn.self) l.fn.leaf.number;
  rest : IsRest (drop l.row-index l.rows);
  four : length l.names ≡ 4;
}
