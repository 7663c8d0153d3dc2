use Rattle.std.proofs.Common.{◌≡◌, take}
use Rattle.com_send.specs.Outgoing.{opening}
use Rattle.com_send.specs.Kept.{states_of}
use Rattle.com_send.proofs.outputs.outputs_of.Given as goal

abbrev pub invariant-loop-destination : goal.invariant-loop-destination
invariant-loop-destination l = states_of l.outputs.items ≡ opening (take l.destination-index l.destinations) l.units
