use Rattle.std.proofs.Common.{rules, ◌≡◌, ◌+◌, ◌++◌, ◌∷◌, [], None, List, refl, ap, sym, ◌∙◌, subst}
use Rattle.com_disk.specs.Memory.{Memory, put, place}
use Rattle.com_disk.specs.inner.Still.{IsKept}
use Rattle.com_disk.specs.declared.written.Written.{Written}
use Rattle.com_disk.proofs.Steps.{kept_written, has_written}
use Rattle.com_disk.proofs.memory_disk.MemoryDisk.keep.Goals as goal

pub invariant_of-self-2 : goal.invariant_of-self-2
invariant_of-self-2 c =
    let inside = c.self.inside in
    let w : Written = record { call = inside.calls + 1; at = c.args.at; bytes = c.in_ok-kept.kept; synced = None } in
    let pushed : c.push.new.self.items ≡ inside.writes.items ++ w ∷ [] = c.in_ok-push.ensures.items in
    let is : c.in_ok-next.next.items ≡ put inside.bytes.items (place inside.bytes.items c.args.at) c.args.bytes.now = search rules in
    subst (λ (l : List Written). IsKept inside.first.items c.in_ok-next.next.items l (inside.calls + 1)) (sym pushed)
    (kept_written inside.first.items inside.bytes.items c.in_ok-next.next.items inside.writes.items inside.calls c.args.at c.args.bytes.now w c.self.invariant
    (record { call = refl; at = refl; bytes = c.in_ok-kept.ensures.items; synced = refl }) is)

pub returns-clause-ok : goal.returns-clause-ok
returns-clause-ok c =
    let inside = c.self.inside in
    let w : Written = record { call = inside.calls + 1; at = c.args.at; bytes = c.in_ok-kept.kept; synced = None } in
    let pushed : c.push.new.self.items ≡ inside.writes.items ++ w ∷ [] = c.in_ok-push.ensures.items in
    let calls = ap (λ (m : Memory). m.calls + 1) c.self.view_is in
    has_written c.args.self.now _ inside.bytes.items c.args.bytes.now c.args.at w
    (subst (λ (m : Memory). IsKept m.first inside.bytes.items m.writes m.calls) c.self.view_is c.self.invariant)
    (record { call = calls; at = refl; bytes = c.in_ok-kept.ensures.items; synced = refl })
    (ap (λ (m : Memory). m.first) c.self.view_is)
    (pushed ∙ ap (λ (m : Memory). m.writes ++ w ∷ []) c.self.view_is)
    calls
    (ap (λ (m : Memory). m.faults) c.self.view_is)
