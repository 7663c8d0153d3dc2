use Rattle.mcs_top.proofs.CallLists.{check_calls}
use Rattle.mcs_top.proofs.laws.a_check_reads_each_source.Goals as goal

pub returns : goal.returns
returns c = check_calls
