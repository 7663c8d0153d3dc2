use Rattle.std.proofs.Common.{◌≡◌, ◌≤◌, take}
use Rattle.com_tree.specs.Written.{leaf_count}
use Rattle.com_tree.specs.Faults.{too_many, is_one_leaf_more, holds_at}
use Rattle.com_tree.proofs.Searching.{found_from}
use Rattle.com_tree.proofs.build.too_many.Given as goal

-- so many leaves stand before the place, no more than 64, and none was one too many
abbrev pub invariant-loop-at : goal.invariant-loop-at
invariant-loop-at l = record {
  found : found_from (λ at. holds_at (is_one_leaf_more (take at l.rows)) l.rows at) l.rows l.at ≡ too_many l.fn.rows;
  counted : l.leaves ≡ leaf_count (take l.at l.rows);
  few : l.leaves ≤ 64;
}
