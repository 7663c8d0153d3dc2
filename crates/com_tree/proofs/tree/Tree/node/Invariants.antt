use Rattle.std.proofs.Common.{◌≡◌, length, drop}
use Rattle.std.specs.Cmp.Lexicographic.{pointwise}
use Rattle.std.specs.List.{position}
use Rattle.std.specs.Str.{bytes_eq}
use Rattle.com_tree.specs.Places.{paths}
use Rattle.com_tree.proofs.Walks.{IsRest, found_in}
use Rattle.com_tree.proofs.tree.Tree.node.Given as goal

-- the path was not found before the place
abbrev pub invariant-loop-at : goal.invariant-loop-at
invariant-loop-at l = record {
  found : found_in l.path l.names l.at (drop l.at l.rows) ≡ position (λ other. pointwise bytes_eq other l.path) (paths l.fn.self);
  rest : IsRest (drop l.at l.rows);
  four : length l.names ≡ 4;
}
