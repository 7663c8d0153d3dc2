use Rattle.std.proofs.Common.{◌≡◌, ◌≤◌, ◌+◌, length}
use Rattle.com_disk.specs.inner.Reads.{HasRead}
use Rattle.com_disk.proofs.reading.entries_in.Given as goal

abbrev pub invariant-loop-record : goal.invariant-loop-record
invariant-loop-record l = record {
  read : HasRead l.bytes 1 l.entries l.end l.rest;
  some : 1 ≤ length l.rest;
  long : l.end + length l.rest ≡ length l.bytes;
  header : 8 ≤ l.end;
}

abbrev pub decreases-loop-record : goal.decreases-loop-record
decreases-loop-record l = length l.rest
