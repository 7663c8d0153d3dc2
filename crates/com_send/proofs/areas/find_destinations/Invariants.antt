use Rattle.std.proofs.Common.{◌≡◌}
use Rattle.com_send.specs.Found.{found_in}
use Rattle.com_send.proofs.areas.find_destinations.Given as goal

-- what was found so far
abbrev pub invariant-loop-at : goal.invariant-loop-at
invariant-loop-at l = l.found.items ≡ found_in l.destinations l.area l.at
