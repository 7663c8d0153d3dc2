use Rattle.cob_data.specs.Entries.{run}
use Rattle.cob_data.proofs.HeaderLaws.{no_second}
use Rattle.cob_data.proofs.division.put_cd.Goals as goal

pub returns-in_default : goal.returns-in_default
returns-in_default c = no_second c.args.list.now.items c.args.head.now c.args.area (run c.args.head.now c.args.items.now) c.in_default.ensures.lookup.3
