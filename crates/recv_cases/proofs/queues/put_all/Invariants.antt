use Rattle.std.proofs.Common.{◌+◌, ◌<◌}
use Rattle.std.specs.List.{All}
use Rattle.com_recv.specs.Incoming.{IsTreeOf}
use Rattle.recv_cases.proofs.queues.put_all.Given as goal

-- the trees have the leaves of what waits, which came before the next message
abbrev pub invariant-loop-at : goal.invariant-loop-at
invariant-loop-at l = record {
  tree : IsTreeOf l.tree l.queues;
  earlier : All (λ w. w.message.arrival < l.at + 1) l.queues.waiting;
}
