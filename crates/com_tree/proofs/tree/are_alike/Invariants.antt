use Rattle.std.proofs.Common.{ℕ, ◌<◌}
use Rattle.com_tree.proofs.Shaped.{SameAt}
use Rattle.com_tree.proofs.tree.are_alike.Given as goal

-- so far all are alike
abbrev pub invariant-loop-at : goal.invariant-loop-at
invariant-loop-at l = (row : ℕ) → row < l.at → SameAt l.rows l.others row
