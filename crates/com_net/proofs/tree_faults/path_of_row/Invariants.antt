use Rattle.std.proofs.Common.{◌≡◌, drop, map}
use Rattle.std.specs.Prelude.{slice_get}
use Rattle.std.specs.List.{flat_map}
use Rattle.com_net.specs.inner.Seen.{seen}
use Rattle.com_net.specs.TreeFaults.{row_paths}
use Rattle.com_net.proofs.tree_faults.path_of_row.Given as goal

-- so many rows on among those of the tables that are left
abbrev pub invariant-loop-at : goal.invariant-loop-at
invariant-loop-at l = slice_get (flat_map row_paths (map seen (drop l.at-index l.places))) l.left ≡ slice_get (flat_map row_paths (map seen l.places)) l.row
