use Rattle.std.proofs.Common.{◌≡◌, ◌+◌, ◌*◌, ◌≤◌, ◌++◌, map, drop}
use Rattle.toml.specs.View.{items_view}
use Rattle.com_net.specs.Values.{tables_of}
use Rattle.com_net.specs.Places.{queues_from}
use Rattle.com_net.specs.inner.Seen.{seen}
use Rattle.com_net.proofs.places.+queues.Given as goal

abbrev pub decreases-push_queues : goal.decreases-push_queues
decreases-push_queues l = 2 * l.levels

abbrev pub decreases-push_queue : goal.decreases-push_queue
decreases-push_queue l = 2 * l.levels + 1

-- with those that are left, all are there
abbrev pub invariant-push_queues-loop-value : goal.invariant-push_queues-loop-value
invariant-push_queues-loop-value l = record {
  queues : map seen l.found.items ++ queues_from l.levels l.number l.path (tables_of (items_view (drop l.value-index l.values)))
      ≡ map seen l.initial.found.items ++ queues_from l.levels 1 l.path (tables_of (items_view l.values));
  number : l.number ≤ l.value-index + 1;
}
