use Rattle.std.proofs.Common.{rules, ◌≡◌, sym, subst}
use Rattle.com_disk.specs.Memory.{IsImageOf, image_of, state_at}
use Rattle.com_disk.specs.inner.MemoryLaws.{torn_image}
use Rattle.com_disk.proofs.memory_disk.MemoryDisk.crash.Goals as goal

pub returns-clause-image : goal.returns-clause-image
returns-clause-image c =
    let s = state_at c.args.self.now.first c.args.self.now.writes c.args.after in
    let is : c.in_ok-first.first.items ≡ image_of c.args.torn s = search rules in
    subst (IsImageOf s) (sym is) (torn_image c.args.torn s)
