use Rattle.std.proofs.Common.{◌≡◌, take, drop, length}
use Rattle.std.specs.Prelude.{IsTrue}
use Rattle.std.specs.List.{list_all}
use Rattle.com_text.specs.Name.{is_name}
use Rattle.com_tree.specs.Faults.{twice_named, is_twice_named, holds_at}
use Rattle.com_tree.specs.Siblings.{taken_names}
use Rattle.com_tree.proofs.Searching.{found_from}
use Rattle.com_tree.proofs.LevelNames.{Takes, IsOutlineBehind}
use Rattle.com_tree.proofs.build.twice_named.Given as goal

-- nothing was found before the place, the names there are taken, and what is left stands behind
abbrev pub invariant-loop-at : goal.invariant-loop-at
invariant-loop-at l = record {
  found : found_from (λ at. holds_at (is_twice_named (take at l.rows)) l.rows at) l.rows l.at ≡ twice_named l.fn.rows;
  taken : Takes (take l.at l.rows) (taken_names l.levels.items);
  left : IsOutlineBehind (length l.levels.items) (drop l.at l.rows);
  names : IsTrue (list_all (λ row. is_name row.name) (take l.at l.rows));
}
