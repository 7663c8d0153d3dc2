use Rattle.com_io.specs.Files.{file_limit}
use Rattle.mcs_top.proofs.Performance.{done_by}
use Rattle.mcs_top.proofs.Reading.{read_abandoned}
use Rattle.mcs_top.proofs.replay.perform_file.Goals as goal

pub returns-in-Ok-clause-ok : goal.returns-in-Ok-clause-ok
returns-in-Ok-clause-ok g c =
    done_by c.args.script_file.now c.in_ok-script.script.items c.args.net.now (g.S.Store.shows c.args.store.now) (g.S.Store.shows c.read_named.new.store) c.in-Ok.run' c.in_ok-script.ensures.ok
    (rw c.deref.ensures.value at c.in-Ok.ensures.run)

pub returns-clause-err : goal.returns-clause-err
returns-clause-err g c = read_abandoned file_limit c.args.script_file.now c.in_ok-script.script.items (g.S.Store.shows c.args.store.now) (g.S.Store.shows c.read_named.new.store) c.in_ok-script.ensures.ok
