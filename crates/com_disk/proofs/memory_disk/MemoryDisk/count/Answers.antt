use Rattle.std.proofs.Common.{rules, ◌^◌, ◌<◌, ap, ◌∙◌, subst, arith}
use Rattle.com_disk.specs.Memory.{Memory, next_count}
use Rattle.com_disk.specs.inner.Still.{IsKept}
use Rattle.com_disk.proofs.Steps.{kept_counted, still_to}
use Rattle.com_disk.proofs.memory_disk.MemoryDisk.count.Goals as goal

pub invariant_of-self : goal.invariant_of-self
invariant_of-self c = kept_counted _ _ _ _ _ c.self.invariant (search rules)

pub invariant_of-self-else-failed : goal.invariant_of-self-else-failed
invariant_of-self-else-failed c = kept_counted _ _ _ _ _ c.self.invariant (search rules)

pub returns-then-failed-clause-still : goal.returns-then-failed-clause-still
returns-then-failed-clause-still c =
    let inside = c.self.inside in
    let fits : inside.calls < 2 ^ 64 = search rules in
    let calls = ap (λ (m : Memory). m.calls) c.self.view_is in
    still_to c.args.self.now _ inside.bytes.items (omega (arith, fits, calls)) (subst (λ (m : Memory). IsKept m.first inside.bytes.items m.writes m.calls) c.self.view_is c.self.invariant)
    (ap (λ (m : Memory). m.first) c.self.view_is) (ap (λ (m : Memory). m.writes) c.self.view_is) (c.saturating_add-self-inside.ensures ∙ ap next_count calls)

pub returns-else-failed-clause-still : goal.returns-else-failed-clause-still
returns-else-failed-clause-still c =
    let inside = c.self.inside in
    let fits : inside.calls < 2 ^ 64 = search rules in
    let calls = ap (λ (m : Memory). m.calls) c.self.view_is in
    still_to c.args.self.now _ inside.bytes.items (omega (arith, fits, calls)) (subst (λ (m : Memory). IsKept m.first inside.bytes.items m.writes m.calls) c.self.view_is c.self.invariant)
    (ap (λ (m : Memory). m.first) c.self.view_is) (ap (λ (m : Memory). m.writes) c.self.view_is) (c.saturating_add-self-inside.ensures ∙ ap next_count calls)
