use Rattle.std.proofs.Common.{◌≡◌, ◌≤◌, ◌-◌, ℕ, List, length, take}
use Rattle.com_disk.specs.Disks.{LeavesOnly}
use Rattle.com_disk.proofs.reading.read_all.Given as goal

abbrev pub invariant-loop-buffer : goal.invariant-loop-buffer
invariant-loop-buffer g l = record {
  read : g.D.Disk.told → l.bytes.items ≡ take (length l.bytes.items) (g.D.Disk.content l.fn.disk);
  content : g.D.Disk.told → g.D.Disk.content l.disk ≡ g.D.Disk.content l.fn.disk;
  images : g.D.Disk.told → (c : List ℕ) → g.D.Disk.images l.disk c → g.D.Disk.images l.fn.disk c;
  moment : g.D.Disk.told → LeavesOnly g.D.Disk.moment g.D.Disk.since l.fn.disk l.disk (g.D.Disk.images l.fn.disk);
  later : g.D.Disk.faults l.fn.disk ≤ g.D.Disk.faults l.disk;
}

abbrev pub decreases-loop-buffer : goal.decreases-loop-buffer
decreases-loop-buffer g l = l.size - length l.bytes.items
