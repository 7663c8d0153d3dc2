use Rattle.com_recv.specs.Incoming.{IsTreeOf}
use Rattle.recv_cases.proofs.queues.of_tree.Given as goal

-- the trees have the leaves of what waits and of what is held
abbrev pub invariant-loop-call : goal.invariant-loop-call
invariant-loop-call l = IsTreeOf l.tree l.queues
