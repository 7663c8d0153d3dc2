use Rattle.com_send.specs.Switching.{switch}
use Rattle.com_send.proofs.Changing.{ChangedSoFar}
use Rattle.com_send.proofs.outputs.switch_each.Given as goal

abbrev pub invariant-loop-at : goal.invariant-loop-at
invariant-loop-at l = ChangedSoFar l.found (switch l.on) l.fn.outputs l.outputs l.at
