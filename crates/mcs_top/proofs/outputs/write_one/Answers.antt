use Rattle.mcs_top.proofs.Outs.{one_write, one_failed}
use Rattle.mcs_top.proofs.outputs.write_one.Goals as goal

pub returns-clause-ok : goal.returns-clause-ok
returns-clause-ok g c =
    let h = c.write.ensures in
    one_write c.args.name.now c.args.bytes.now c.write.result (g.S.Store.shows c.args.store.now) (g.S.Store.shows c.write.new.self) h.contents h.cause h.open_faults h.read_faults h.pending

pub returns-clause-err : goal.returns-clause-err
returns-clause-err g c =
    let h = c.write.ensures in
    one_failed c.args.name.now c.args.bytes.now c.write.result (g.S.Store.shows c.args.store.now) (g.S.Store.shows c.write.new.self) h.contents h.cause h.memory h.open_faults h.read_faults h.pending
