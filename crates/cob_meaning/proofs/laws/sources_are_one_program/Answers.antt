use Rattle.cob_meaning.proofs.OneProgram.{one_program}
use Rattle.cob_meaning.proofs.laws.sources_are_one_program.Goals as goal

pub returns : goal.returns
returns c = one_program
