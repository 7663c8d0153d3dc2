use Rattle.std.proofs.Common.{◌≡◌}
use Rattle.com_recv.proofs.Places.{left_from}
use Rattle.com_recv.proofs.lists.held_between.Given as goal

-- what is left decides
abbrev pub invariant-loop-number : goal.invariant-loop-number
invariant-loop-number l = left_from l.held l.unit l.number l.past ≡ left_from l.fn.held l.fn.unit l.fn.first l.fn.past
