use Rattle.cob_meaning.proofs.OneProgram.{one_fault}
use Rattle.cob_meaning.proofs.laws.sources_have_one_fault.Goals as goal

pub returns : goal.returns
returns c = one_fault
