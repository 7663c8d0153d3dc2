use Rattle.std.proofs.Common.{◌≡◌, ℕ, suc, ◌+◌, ◌<◌, ◌≤◌, length, get_or}
use Rattle.std.specs.Prelude.{if◌then◌else◌}
use Rattle.com_tree.specs.UnderNodes.{is_over}
use Rattle.com_tree.proofs.counts.take_above.Given as goal

-- each turn goes on above
abbrev pub decreases-loop-past : goal.decreases-loop-past
decreases-loop-past l = l.past

-- the numbers from a row on are counted down, and those before it are as they were
abbrev pub invariant-loop-past : goal.invariant-loop-past
invariant-loop-past l =
    let old = l.fn.numbers.items in
    record {
      within : l.past ≤ l.row + 1;
      size : length l.numbers.items ≡ length old;
      done : (other : ℕ) → other < length old → l.past ≤ other → get_or old other 0 ≡ (if is_over l.fn.tree l.leaf other then suc (get_or l.numbers.items other 0) else get_or l.numbers.items other 0);
      left : (other : ℕ) → other < l.past → get_or l.numbers.items other 0 ≡ get_or old other 0;
    }
