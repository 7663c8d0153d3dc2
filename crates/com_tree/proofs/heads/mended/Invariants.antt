use Rattle.std.proofs.Common.{◌≡◌, ◌+◌, ◌-◌, ◌≤◌, length, drop}
use Rattle.com_tree.specs.Written.{rows_below}
use Rattle.com_tree.specs.NextLeaf.{head_on, node_at}
use Rattle.com_tree.proofs.Choices.{chosen_from}
use Rattle.com_tree.proofs.heads.mended.Given as goal

-- so far the children from this one on were looked at
abbrev pub invariant-loop-child : goal.invariant-loop-child
invariant-loop-child l =
    let past = l.at + 1 + length (rows_below l.row.depth (drop (l.at + 1) l.rows)) in
    record {
      chosen : l.chosen ≡ chosen_from 4 l.rows (head_on l.numbers) l.choose (node_at l.at) l.child (past - l.child);
      least : l.at + 1 ≤ l.child;
      most : l.child ≤ past;
      within : past ≤ length l.rows;
    }
