use Rattle.std.proofs.Common.{◌≡◌, ℕ, ◌<◌, [], None, length, map, get_or}
use Rattle.std.specs.Prelude.{slice_get, option_map}
use Rattle.com_recv.proofs.leaf_queues.heads_of.Given as goal

-- the numbers of the first messages so far
abbrev pub invariant-loop-leaf : goal.invariant-loop-leaf
invariant-loop-leaf l = record {
  size : length l.heads ≡ 64;
  each : (leaf : ℕ) → leaf < l.leaf → get_or l.heads leaf None ≡ option_map (λ w. w.message.arrival) (slice_get (get_or (map (λ queue. queue.items) l.queues) leaf []) 0);
}
