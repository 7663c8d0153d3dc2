use Rattle.cob_meaning.proofs.RangeFaults.{judged}
use Rattle.cob_meaning.proofs.laws.ranges_have_a_first_fault_or_none.Goals as goal

pub returns : goal.returns
returns c = judged
