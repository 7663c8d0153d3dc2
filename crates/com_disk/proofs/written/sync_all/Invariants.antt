use Rattle.std.proofs.Common.{◌≡◌, ◌++◌, take, drop, map}
use Rattle.com_disk.specs.inner.Still.{synced_by}
use Rattle.com_disk.proofs.written.sync_all.Given as goal

abbrev pub invariant-loop-write : goal.invariant-loop-write
invariant-loop-write l = l.writes ≡ map (synced_by l.sync) (take l.write-index l.fn.writes) ++ drop l.write-index l.fn.writes
