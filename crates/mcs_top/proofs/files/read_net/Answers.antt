use Rattle.com_io.specs.Files.{file_limit}
use Rattle.mcs_top.proofs.Reading.{read_abandoned}
use Rattle.mcs_top.proofs.files.read_net.Goals as goal

pub returns-clause-err : goal.returns-clause-err
returns-clause-err g c = read_abandoned file_limit c.args.net_file.now c.in_ok-bytes.bytes.items (g.S.Store.shows c.args.store.now) (g.S.Store.shows c.read_named.new.store) c.in_ok-bytes.ensures.ok
