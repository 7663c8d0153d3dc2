use Rattle.std.proofs.Common.{◌≡◌, [], length}
use Rattle.std.specs.List.{All}
use Rattle.com_recv.proofs.leaf_queues.empty_queues.Given as goal

-- so many empty queues
abbrev pub invariant-loop-number : goal.invariant-loop-number
invariant-loop-number l = record {
  size : length l.queues.items ≡ l._number;
  empty : All (λ queue. queue.items ≡ []) l.queues.items;
}
