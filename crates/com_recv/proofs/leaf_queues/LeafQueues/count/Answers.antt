use Rattle.std.proofs.Common.{◌≡◌, ◌<◌, ◌≤◌, List, length, map, refl, sym, ap, ◌∙◌, arith}
use Rattle.com_tree.proofs.Shaped.{same_size}
use Rattle.com_recv.specs.declared.lists.Waiting.{Waiting}
use Rattle.com_recv.specs.Incoming.{waiting_under}
use Rattle.com_recv.specs.inner.Queued.{all_of, by_arrival, AreQueuesOf}
use Rattle.com_recv.proofs.Changing.{counted_alike}
use Rattle.com_recv.proofs.leaf_queues.LeafQueues.count.Goals as goal

pub count_between-requires-clause-few : goal.count_between-requires-clause-few
count_between-requires-clause-few c =
    let waiting : List Waiting = by_arrival (all_of (map (λ q. q.items) c.self.inside.queues.items)) in
    let are : AreQueuesOf (map (λ q. q.items) c.deref.result.now) waiting = rw c.deref.ensures.value c.self.invariant.leaves in
    (waiting, omega (arith, c.self.invariant.all), are)

pub returns-then-is_alike : goal.returns-then-is_alike
returns-then-is_alike c =
    let inside = c.self.inside in
    let tree = c.args.tree.now in
    let waiting : List Waiting = by_arrival (all_of (map (λ q. q.items) inside.queues.items)) in
    let alike = c.is_alike.ensures c.if-is_alike.true in
    let within : c.args.node.row < length inside.tree = omega (arith, c.requires.node, same_size inside.tree tree alike) in
    c.under.ensures ∙ (c.self.invariant.kept.under c.args.node.row within ∙ (counted_alike inside.tree tree waiting c.args.node alike ∙ ap (λ w. waiting_under tree w c.args.node) c.self.view_is))

pub returns-else-is_alike : goal.returns-else-is_alike
returns-else-is_alike c =
    let tree = c.args.tree.now in
    let waiting : List Waiting = by_arrival (all_of (map (λ q. q.items) c.self.inside.queues.items)) in
    let are : AreQueuesOf (map (λ q. q.items) c.deref.result.now) waiting = rw c.deref.ensures.value c.self.invariant.leaves in
    let under : c.count_between.result ≡ waiting_under tree waiting c.args.node = c.count_between.ensures waiting are ∙ rw c.leaves_under-first.ensures.leaves refl in
    under ∙ ap (λ w. waiting_under tree w c.args.node) c.self.view_is
