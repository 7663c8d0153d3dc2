use Rattle.cob_proc.proofs.Families.{look_at, looked_all}
use Rattle.cob_proc.proofs.faults.first_named_again.Goals as goal

pub names-preserved : goal.names-preserved
names-preserved c = record {
  looked = rw (c.first_of-found.ensures, c.noted.ensures, c.is_among-again.ensures) (look_at c.args.names.now c.names.at c.index-names-at.result c.names.found c.names-test.true c.index-names-at.is c.names.invariant.looked);
}

pub returns : goal.returns
returns c = looked_all c.args.names.now c.names.at c.names.found c.names-test.false c.names.invariant.looked
