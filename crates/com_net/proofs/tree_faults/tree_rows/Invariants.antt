use Rattle.std.proofs.Common.{◌≡◌, ◌++◌, true, drop, map}
use Rattle.std.specs.List.{list_all}
use Rattle.com_net.specs.inner.Seen.{seen}
use Rattle.com_net.specs.TreeFaults.{tree_rows}
use Rattle.com_net.specs.inner.Sound.{has_names}
use Rattle.com_net.proofs.tree_faults.tree_rows.Given as goal

-- with those of the tables that are left, all are there
abbrev pub invariant-loop-at : goal.invariant-loop-at
invariant-loop-at l = record {
  rows : l.rows.items ++ tree_rows (map seen (drop l.at-index l.places)) ≡ tree_rows (map seen l.places);
  names : list_all has_names (map seen (drop l.at-index l.places)) ≡ true;
}
