use Rattle.cob_meaning.specs.Names.{simple_faults}
use Rattle.cob_code.proofs.Joined.{next_of}
use Rattle.cob_code.proofs.kinds.condition_fault.Goals as goal

pub parts-preserved : goal.parts-preserved
parts-preserved c =
    next_of (simple_faults c.args.names.now) c.as_slice-simple-items.result.now c.parts.simple-index c.simple-item.result c.parts.found c.simple_fault.result c.first_of-found.result _
    c.parts-test.true c.simple-item.is c.simple_fault.ensures c.first_of-found.ensures c.parts.invariant
