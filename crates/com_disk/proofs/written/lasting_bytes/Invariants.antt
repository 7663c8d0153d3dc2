use Rattle.std.proofs.Common.{◌≡◌, take}
use Rattle.com_disk.specs.Memory.{state_at}
use Rattle.com_disk.proofs.written.lasting_bytes.Given as goal

abbrev pub invariant-loop-write : goal.invariant-loop-write
invariant-loop-write l = l.base.items ≡ (state_at l.first (take l.write-index l.writes) l.calls).base
