use Rattle.com_io.specs.Files.{file_limit}
use Rattle.mcs_top.proofs.Reading.{read_abandoned}
use Rattle.mcs_top.proofs.check.read_unit.Goals as goal

pub returns-clause-err : goal.returns-clause-err
returns-clause-err g c =
    read_abandoned file_limit c.args.unit.now.source c.in_ok-source.source.items (g.S.Store.shows c.args.store.now) (g.S.Store.shows c.read_named.new.store) (rw c.as_str.ensures.same at c.in_ok-source.ensures.ok)
