use Rattle.std.proofs.Common.{rules, ◌≡◌, subst}
use Rattle.com_disk.specs.Memory.{Memory, IsImageOf, state_of}
use Rattle.com_disk.proofs.Steps.{untorn}
use Rattle.com_disk.proofs.memory_disk.MemoryDiskDisk.write_at.Goals as goal

pub returns-then-next_fails-clause-images : goal.returns-then-next_fails-clause-images
returns-then-next_fails-clause-images c t f now = (f, (c.count.ensures.still.images f).0 now, untorn _ _ f)

pub returns-in_err-keep-clause-images : goal.returns-in_err-keep-clause-images
returns-in_err-keep-clause-images c t f now =
    let same : c.keep.new.self ≡ c.args.self.now = search rules in
    (f, subst (λ (m : Memory). IsImageOf (state_of m) f) same now, untorn _ _ f)
