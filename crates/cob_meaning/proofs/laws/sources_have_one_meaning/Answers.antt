use Rattle.cob_meaning.proofs.OneProgram.{one_meaning}
use Rattle.cob_meaning.proofs.laws.sources_have_one_meaning.Goals as goal

pub returns : goal.returns
returns c = one_meaning
