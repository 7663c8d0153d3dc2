use Rattle.std.proofs.Common.{◌+◌, ◌≤◌, length}
use Rattle.com_journal.specs.Scripts.{lines_of}
use Rattle.mcs_top.specs.Running.{HasDone}
use Rattle.mcs_top.proofs.script.perform_lines.Given as goal

-- the lines before the rest were done, of which there are no more than bytes
abbrev pub invariant-loop-line : goal.invariant-loop-line
invariant-loop-line l = record {
  done : HasDone l.net (lines_of l.fn.lines) l.lines l.run l.number;
  few : l.number + length l.lines ≤ length l.fn.lines + 1;
}

abbrev pub decreases-loop-line : goal.decreases-loop-line
decreases-loop-line l = length l.lines
