use Rattle.std.proofs.Common.{◌≡◌, take}
use Rattle.com_disk.specs.Memory.{state_at, image_of}
use Rattle.com_disk.proofs.written.crash_bytes.Given as goal

abbrev pub invariant-loop-write : goal.invariant-loop-write
invariant-loop-write l =
    l.image.items ≡ image_of l.torn (record {
      base = (state_at l.first l.writes l.calls).base;
      pending = (state_at l.first (take l.write-index l.writes) l.calls).pending;
    })
