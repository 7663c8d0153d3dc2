use Rattle.cob_run.proofs.Areas.{same_sizes}
use Rattle.cob_run.proofs.replies.put_area.Goals as goal

pub returns-clause-sizes : goal.returns-clause-sizes
returns-clause-sizes c =
    same_sizes c.args.areas.now c.args.area c.index-areas-area.result c.write.new.self c.requires.area c.write.ensures.long
