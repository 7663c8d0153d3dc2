use Rattle.std.proofs.Common.{◌+◌, ◌≤◌, length}
use Rattle.com_journal.specs.inner.Loops.{HasRead}
use Rattle.com_journal.proofs.journal.read_entries.Given as goal

-- the lines before the rest are read, of which there are no more than bytes
abbrev pub invariant-loop-line : goal.invariant-loop-line
invariant-loop-line l = record {
  read : HasRead l.fn.lines l.entries l.number l.lines;
  few : l.number + length l.lines ≤ length l.fn.lines + 1;
}

abbrev pub decreases-loop-line : goal.decreases-loop-line
decreases-loop-line l = length l.lines
