use Rattle.std.proofs.Common.{◌≡◌, ◌≤◌, List, map}
use Rattle.std.specs.Prelude.{◌&&◌, nat_le, nat_lt, count_by}
use Rattle.com_recv.specs.declared.lists.Waiting.{Waiting}
use Rattle.com_recv.specs.inner.Queued.{AreQueuesOf}
use Rattle.com_recv.proofs.leaf_queues.count_between.Given as goal

-- so many wait on the leaves so far
abbrev pub invariant-loop-leaf : goal.invariant-loop-leaf
invariant-loop-leaf l = (waiting : List Waiting) → AreQueuesOf (map (λ queue. queue.items) l.queues) waiting → l.count ≡ count_by (λ w. nat_le l.first w.leaf.number && nat_lt w.leaf.number l.leaf) waiting
