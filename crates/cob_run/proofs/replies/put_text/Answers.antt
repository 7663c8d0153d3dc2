use Rattle.cob_run.proofs.Areas.{same_sizes}
use Rattle.cob_run.proofs.replies.put_text.Goals as goal

pub returns-clause-sizes : goal.returns-clause-sizes
returns-clause-sizes c =
    same_sizes c.args.areas.now c.args.item.area c.index-areas-item.result c.write.new.self c.requires.item.area c.write.ensures.long
