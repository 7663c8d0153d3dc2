use Rattle.std.proofs.Common.{List, ℕ, subst}
use Rattle.com_disk.specs.Logs.{Stands}
use Rattle.com_disk.specs.Refusals.{Tells}
use Rattle.com_disk.proofs.Recovered.{exact_log, exact_fault, ok_follows, err_follows}
use Rattle.com_disk.proofs.reading.recover.Goals as goal

pub returns-clause-each_log : goal.returns-clause-each_log
returns-clause-each_log g c t version entries h =
    let content = g.D.Disk.content c.args.disk.now in
    let ok = ok_follows _ (λ found. Stands content found.0.version found.1) c.recover_log.result c.recover_log.ensures.at (λ found at. subst (λ (l : List ℕ). Stands l found.0.version found.1) (c.recover_log.ensures.content t) (at t).stands) in
    let err = err_follows _ (Tells content) c.recover_log.result c.recover_log.ensures.refused (λ fault tells. tells t) in
    exact_log content c.recover_log.result ok err version entries h

pub returns-clause-each_fault : goal.returns-clause-each_fault
returns-clause-each_fault g c t at some h =
    let content = g.D.Disk.content c.args.disk.now in
    let ok = ok_follows _ (λ found. Stands content found.0.version found.1) c.recover_log.result c.recover_log.ensures.at (λ found at. subst (λ (l : List ℕ). Stands l found.0.version found.1) (c.recover_log.ensures.content t) (at t).stands) in
    let err = err_follows _ (Tells content) c.recover_log.result c.recover_log.ensures.refused (λ fault tells. tells t) in
    exact_fault content c.recover_log.result ok err at some h
