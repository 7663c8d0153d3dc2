use Rattle.com_send.proofs.Keeping.{are_for_opening}
use Rattle.com_send.proofs.outs.Outs.new.Goals as goal

pub invariant_of-result : goal.invariant_of-result
invariant_of-result c =
    rw (c.in_ok-outputs.ensures, c.as_slice.ensures) (are_for_opening c.args.destinations c.args.units)
