use Rattle.std.proofs.Common.{◌≡◌, ℕ, ◌+◌, ◌<◌, ◌≤◌, false, length}
use Rattle.com_tree.specs.Places.{first_leaf}
use Rattle.com_tree.specs.NextLeaf.{node_at}
use Rattle.com_tree.specs.CachedHeads.{IsRight}
use Rattle.com_tree.specs.UnderNodes.{is_over}
use Rattle.com_tree.proofs.heads.mend_above.Given as goal

-- each turn goes on above
abbrev pub decreases-loop-past : goal.decreases-loop-past
decreases-loop-past l = l.past

-- the choices from a row on are right, and so are those of the nodes that are not over the leaf
abbrev pub invariant-loop-past : goal.invariant-loop-past
invariant-loop-past l =
    let tree = l.fn.tree in
    record {
      within : l.past ≤ l.row + 1;
      size : length l.choices.items ≡ length tree;
      right : (other : ℕ) → other < length tree → l.past ≤ other → IsRight tree l.numbers l.choices.items other;
      others : (other : ℕ) → other < length tree → is_over tree (first_leaf tree (node_at l.row)) other ≡ false → IsRight tree l.numbers l.choices.items other;
    }
