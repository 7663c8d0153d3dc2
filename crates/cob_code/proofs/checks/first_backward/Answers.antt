use Rattle.cob_code.specs.inner.RangeFaults.{backward}
use Rattle.cob_code.proofs.Joined.{next_at}
use Rattle.cob_code.proofs.checks.first_backward.Goals as goal

pub performs-preserved : goal.performs-preserved
performs-preserved c =
    next_at backward c.args.ranges.now c.performs.range-index _ c.performs.found c.backward_fault.result c.first_of-found.result _ c.performs-test.true c.backward_fault.ensures c.first_of-found.ensures c.performs.invariant
