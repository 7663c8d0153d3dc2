use Rattle.cob_meaning.proofs.OneProgram.{no_fault_of_program}
use Rattle.cob_meaning.proofs.laws.programs_have_no_fault.Goals as goal

pub returns : goal.returns
returns c = no_fault_of_program
