use Rattle.std.proofs.Common.{rules, slice_index_or, sym}
use denote.Param.Send.{sendable}
use Rattle.shared_tests.specs.Playing.{HasLeft}
use Rattle.std.proofs.Crossing.{sync as global_sync}
use Rattle.com_net.proofs.net.Net.TheSendSync.{the_sync as net_sync}
use Rattle.shared_tests.proofs.plan.Plan.TheSendSync.{the_sync as plan_sync}
use Rattle.shared_tests.proofs.Crossing.{shared_sync}
use Rattle.shared_tests.proofs.threads.play_all.Goals as goal

pub for_each_mut-requires-sync-F : goal.for_each_mut-requires-sync-F
for_each_mut-requires-sync-F g c κs within = search (sendable, global_sync, shared_sync, net_sync, plan_sync) depth 40

pub returns : goal.returns
returns g c k d few =
    let at = (c.for_each_mut.ensures k d few).1 in
    let gone : HasLeft c.args.shared.now (slice_index_or c.args.passes.now k d) at.after_call.now = search rules in
    rw (sym at.left) gone
