use Rattle.std.proofs.Common.{rules, ◌≡◌, ◌+◌, List, map, length, ap, sym, ◌∙◌, subst}
use Rattle.std.proofs.lemmas.List.{with_items_is}
use Rattle.com_disk.specs.Memory.{Memory}
use Rattle.com_disk.specs.inner.Still.{IsKept, synced_by}
use Rattle.com_disk.specs.declared.written.Written.{Written}
use Rattle.com_disk.proofs.Steps.{kept_synced, has_synced}
use Rattle.com_disk.proofs.memory_disk.MemoryDisk.settle.Goals as goal

pub invariant_of-self : goal.invariant_of-self
invariant_of-self c =
    let inside = c.self.inside in
    let same : length c.sync_all.new.writes ≡ inside.writes.len = search rules in
    let mapped : c.sync_all.new.writes ≡ map (synced_by (inside.calls + 1)) inside.writes.items = search rules in
    subst (λ (l : List Written). IsKept inside.first.items inside.bytes.items l (inside.calls + 1)) (sym (with_items_is inside.writes c.sync_all.new.writes same ∙ mapped))
    (kept_synced inside.first.items inside.bytes.items inside.writes.items inside.calls c.self.invariant)

pub returns : goal.returns
returns c =
    let inside = c.self.inside in
    let same : length c.sync_all.new.writes ≡ inside.writes.len = search rules in
    let mapped : c.sync_all.new.writes ≡ map (synced_by (inside.calls + 1)) inside.writes.items = search rules in
    has_synced c.args.self.now _ inside.bytes.items
    (subst (λ (m : Memory). IsKept m.first inside.bytes.items m.writes m.calls) c.self.view_is c.self.invariant)
    (ap (λ (m : Memory). m.first) c.self.view_is)
    (with_items_is inside.writes c.sync_all.new.writes same ∙ mapped ∙ ap (λ (m : Memory). map (synced_by (m.calls + 1)) m.writes) c.self.view_is)
    (ap (λ (m : Memory). m.calls + 1) c.self.view_is)
    (ap (λ (m : Memory). m.faults) c.self.view_is)
