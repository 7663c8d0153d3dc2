use Rattle.std.proofs.Common.{◌≡◌, drop}
use Rattle.com_tree.specs.Faults.{empty, is_childless}
use Rattle.com_tree.proofs.Searching.{found_from}
use Rattle.com_tree.proofs.build.empty.Given as goal

-- nothing was found before the place
abbrev pub invariant-loop-at : goal.invariant-loop-at
invariant-loop-at l = found_from (λ at. is_childless (drop at l.rows)) l.rows l.at ≡ empty l.fn.rows
