use Rattle.std.proofs.Common.{rules, slice_index_or, sym}
use denote.Param.Send.{sendable}
use Rattle.shared_tests.specs.Playing.{StaysFresh}
use Rattle.shared_tests.proofs.Crossing.{shared_sync}
use Rattle.shared_tests.proofs.threads.enter_all.Goals as goal

pub for_each_mut-requires-sync-F : goal.for_each_mut-requires-sync-F
for_each_mut-requires-sync-F g c κs within = search (sendable, shared_sync) depth 40

pub returns : goal.returns
returns g c k d few =
    let at = (c.for_each_mut.ensures k d few).1 in
    let gone : StaysFresh c.args.shared.now (slice_index_or c.args.passes.now k d) at.after_call.now = search rules in
    rw (sym at.left) gone
