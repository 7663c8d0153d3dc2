use Rattle.cob_meaning.specs.Names.{any_item, identifier_faults}
use Rattle.cob_code.proofs.Joined.{next_of}
use Rattle.cob_code.proofs.kinds.targets_fault.Goals as goal

pub targets-preserved : goal.targets-preserved
targets-preserved c =
    next_of (identifier_faults c.args.names.now any_item) c.args.targets.now c.targets.target-index c.target-item.result c.targets.found c.identifier_fault.result c.first_of-found.result _
    c.targets-test.true c.target-item.is c.identifier_fault.ensures c.first_of-found.ensures c.targets.invariant
