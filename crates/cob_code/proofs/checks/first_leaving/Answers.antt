use Rattle.cob_code.specs.inner.RangeFaults.{leaving_by}
use Rattle.cob_code.proofs.Joined.{next_at}
use Rattle.cob_code.proofs.checks.first_leaving.Goals as goal

pub jumps-preserved : goal.jumps-preserved
jumps-preserved c =
    next_at (leaving_by c.args.bounds.now) c.args.jumps.now c.jumps.jump-index _ c.jumps.found c.leaving_fault.result c.first_of-found.result _ c.jumps-test.true c.leaving_fault.ensures c.first_of-found.ensures c.jumps.invariant
