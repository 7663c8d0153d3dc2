use Rattle.std.proofs.Common.{◌≡◌, drop}
use Rattle.com_tree.specs.Faults.{is_outline, are_outlined}
use Rattle.com_tree.proofs.build.is_outline.Given as goal

-- what is left decides
abbrev pub invariant-loop-row : goal.invariant-loop-row
invariant-loop-row l = are_outlined l.before (drop l.row-index l.rest) ≡ is_outline l.fn.rows
