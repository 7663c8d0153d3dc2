use Rattle.cob_run.proofs.Areas.{same_sizes}
use Rattle.cob_run.proofs.opening.put_names_in.Goals as goal

pub returns-clause-sizes : goal.returns-clause-sizes
returns-clause-sizes c =
    same_sizes c.args.areas.now c.args.area c.index-areas-area.result c.write.new.self c.requires.below c.write.ensures.long
