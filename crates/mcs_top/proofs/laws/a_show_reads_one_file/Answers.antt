use Rattle.mcs_top.proofs.CallLists.{show_calls}
use Rattle.mcs_top.proofs.laws.a_show_reads_one_file.Goals as goal

pub returns : goal.returns
returns c = show_calls
