use Rattle.std.proofs.Common.{◌≡◌, ◌+◌, ◌-◌, ◌≤◌, length}
use Rattle.std.specs.Io.KnownBytes.{Consumes}
use Rattle.com_io.proofs.files.read_to_limit.Given as goal

-- what was read was taken from what there was, no more than wanted, and no read has failed
abbrev pub invariant-loop-buffer : goal.invariant-loop-buffer
invariant-loop-buffer g l = record {
  read : Consumes (g.R.Source.left l.fn.source) (g.R.Source.left l.source) l.bytes.items;
  short : length l.bytes.items ≤ l.limit + 1;
  kept : g.R.Source.faults l.source ≡ g.R.Source.faults l.fn.source;
}

abbrev pub decreases-loop-buffer : goal.decreases-loop-buffer
decreases-loop-buffer g l = (l.limit + 1) - length l.bytes.items
