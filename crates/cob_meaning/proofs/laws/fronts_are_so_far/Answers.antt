use Rattle.cob_meaning.proofs.Fronts.{fronts_so_far}
use Rattle.cob_meaning.proofs.laws.fronts_are_so_far.Goals as goal

pub returns : goal.returns
returns c = fronts_so_far
