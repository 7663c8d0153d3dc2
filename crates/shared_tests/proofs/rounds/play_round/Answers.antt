use denote.Param.Send.{sendable}
use Rattle.std.proofs.Crossing.{sync as global_sync}
use Rattle.com_net.proofs.net.Net.TheSendSync.{the_sync as net_sync}
use Rattle.shared_tests.proofs.rounds.Round.TheSendSync.{the_sync as round_sync}
use Rattle.shared_tests.proofs.Crossing.{shared_sync}
use Rattle.shared_tests.proofs.rounds.play_round.Goals as goal

pub for_each_mut-requires-sync-F : goal.for_each_mut-requires-sync-F
for_each_mut-requires-sync-F g c κs within = search (sendable, global_sync, shared_sync, net_sync, round_sync) depth 40
