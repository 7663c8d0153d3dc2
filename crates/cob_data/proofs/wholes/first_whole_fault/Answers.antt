use Rattle.cob_data.specs.Faults.{whole_faults}
use Rattle.cob_data.proofs.Fronts.{front_taken}
use Rattle.cob_data.proofs.wholes.first_whole_fault.Goals as goal

pub items-preserved : goal.items-preserved
items-preserved c =
    rw (c.first_of-found.ensures)
    (front_taken (whole_faults c.args.is_last c.args.over_cd) c.items.found c.in_ok-front_fault.field-0 _ c.args.items.now c.split_at.result.1.now c.items.index c.split_at.ensures.back c.in_ok-front_fault.ensures c.items.invariant)
