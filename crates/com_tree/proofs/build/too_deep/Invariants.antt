use Rattle.std.proofs.Common.{◌≡◌}
use Rattle.std.specs.Prelude.{nat_lt}
use Rattle.com_tree.specs.Faults.{too_deep, holds_at}
use Rattle.com_tree.proofs.Searching.{found_from}
use Rattle.com_tree.proofs.build.too_deep.Given as goal

-- nothing was found before the place
abbrev pub invariant-loop-at : goal.invariant-loop-at
invariant-loop-at l = found_from (holds_at (λ row. nat_lt 4 row.depth) l.rows) l.rows l.at ≡ too_deep l.fn.rows
