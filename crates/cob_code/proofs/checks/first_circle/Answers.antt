use Rattle.cob_code.specs.inner.RangeFaults.{circling}
use Rattle.cob_code.proofs.Joined.{next_at}
use Rattle.cob_code.proofs.checks.first_circle.Goals as goal

pub performs-preserved : goal.performs-preserved
performs-preserved c =
    next_at (circling c.args.table.now) c.args.ranges.now c.performs.range-index _ c.performs.found c.circle_fault.result c.first_of-found.result _ c.performs-test.true c.circle_fault.ensures c.first_of-found.ensures c.performs.invariant
