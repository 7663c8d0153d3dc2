use Rattle.cob_data.proofs.OneDivision.{one_division}
use Rattle.cob_data.proofs.laws.tokens_have_one_division.Goals as goal

pub returns : goal.returns
returns c = one_division
