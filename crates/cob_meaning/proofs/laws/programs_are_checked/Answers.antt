use Rattle.cob_meaning.proofs.CheckedText.{checked}
use Rattle.cob_meaning.proofs.laws.programs_are_checked.Goals as goal

pub returns : goal.returns
returns c = checked
