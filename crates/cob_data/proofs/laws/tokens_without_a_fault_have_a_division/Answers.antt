use Rattle.cob_data.proofs.SomeDivision.{some_division}
use Rattle.cob_data.proofs.laws.tokens_without_a_fault_have_a_division.Goals as goal

pub returns : goal.returns
returns c = some_division
