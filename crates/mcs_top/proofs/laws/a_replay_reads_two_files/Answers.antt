use Rattle.mcs_top.proofs.CallLists.{replay_calls}
use Rattle.mcs_top.proofs.laws.a_replay_reads_two_files.Goals as goal

pub returns : goal.returns
returns c = replay_calls
