use Rattle.std.proofs.Common.{rules, ◌≡◌, ◌++◌, ◌∷◌, ◌-◌, [], subst, arith}
use Rattle.com_disk.specs.Logs.{record_of}
use Rattle.com_disk.specs.inner.Shut.{IsShutAt}
use Rattle.com_disk.proofs.log.append_line.Goals as goal

pub returns-in-Ok-clause-any_moment : goal.returns-in-Ok-clause-any_moment
returns-in-Ok-clause-any_moment g c t front s =
    let line = c.args.line.now in
    let is : c.deref.result.now ≡ 1 ∷ (record_of line ++ 0 ∷ []) = search rules in
    let gate : c.args.log.now.bytes - 1 ≡ c.bytes-gate.result - 1 = omega (arith, c.bytes-gate.ensures.bytes) in
    let shut = subst (λ n. IsShutAt g.D.Disk.content g.D.Disk.images n c.args.disk.now front) gate s in
    c.write_record.ensures.any_moment t front (record_of line) is shut

pub returns-clause-any_moment : goal.returns-clause-any_moment
returns-clause-any_moment g c t front s =
    let line = c.args.line.now in
    let is : c.deref.result.now ≡ 1 ∷ (record_of line ++ 0 ∷ []) = search rules in
    let gate : c.args.log.now.bytes - 1 ≡ c.bytes-gate.result - 1 = omega (arith, c.bytes-gate.ensures.bytes) in
    let shut = subst (λ n. IsShutAt g.D.Disk.content g.D.Disk.images n c.args.disk.now front) gate s in
    c.write_record.ensures.any_moment t front (record_of line) is shut
