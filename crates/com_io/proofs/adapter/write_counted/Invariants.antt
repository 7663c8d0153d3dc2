use Rattle.std.proofs.Common.{◌≡◌, ◌≤◌, length, take}
use Rattle.std.specs.Io.KnownBytes.{Appends}
use Rattle.com_io.proofs.adapter.write_counted.Given as goal

-- the bytes so far were written, and no failure was counted
abbrev pub invariant-loop : goal.invariant-loop
invariant-loop g l = record {
  written : Appends (g.W.Write.contents l.fn.to) (g.W.Write.contents l.to) (take l.written l.bytes);
  within : l.written ≤ length l.bytes;
  kept : l.faults ≡ l.fn.faults;
}
