use Rattle.std.proofs.Common.{◌≡◌, ◌<◌, ℕ, List, [], Some, map, get_or, sym, ap, ◌∙◌, arith}
use Rattle.std.specs.Prelude.{option_map, slice_get}
use Rattle.std.specs.List.{All}
use Rattle.com_tree.specs.Written.{leaf_count}
use Rattle.com_tree.specs.NextLeaf.{next_leaf}
use Rattle.com_recv.specs.declared.lists.Waiting.{Waiting}
use Rattle.com_recv.specs.Incoming.{chosen_leaf, first_number}
use Rattle.com_recv.specs.inner.Queued.{all_of, by_arrival, AreQueuesOf}
use Rattle.com_recv.proofs.Changing.{chosen_alike, chosen_within, heads_are}
use Rattle.com_recv.proofs.Choosing.{chosen_by_heads}
use Rattle.com_recv.proofs.leaf_queues.LeafQueues.choice.Goals as goal

pub returns-then-is_alike-clause-leaf : goal.returns-then-is_alike-clause-leaf
returns-then-is_alike-clause-leaf c =
    let tree = c.args.tree.now in
    let waiting : List Waiting = by_arrival (all_of (map (λ q. q.items) c.self.inside.queues.items)) in
    let on : All (λ w. w.leaf.number < leaf_count tree) waiting = rw c.self.view_is c.requires.on in
    let found = chosen_alike c.self.inside.tree tree c.self.inside.heads c.self.inside.counts waiting c.args.node c.choice.result (c.is_alike.ensures c.if-is_alike.true) c.self.invariant.kept on c.choice.ensures.leaf in
    ap (option_map (λ leaf. leaf.number)) found ∙ ap (λ w. chosen_leaf tree w c.args.node) c.self.view_is

pub returns-then-is_alike-clause-within : goal.returns-then-is_alike-clause-within
returns-then-is_alike-clause-within c =
    let tree = c.args.tree.now in
    let waiting : List Waiting = by_arrival (all_of (map (λ q. q.items) c.self.inside.queues.items)) in
    let on : All (λ w. w.leaf.number < leaf_count tree) waiting = rw c.self.view_is c.requires.on in
    let found = chosen_alike c.self.inside.tree tree c.self.inside.heads c.self.inside.counts waiting c.args.node c.choice.result (c.is_alike.ensures c.if-is_alike.true) c.self.invariant.kept on c.choice.ensures.leaf in
    chosen_within tree c.args.node (first_number waiting) c.choice.result c.requires.written c.requires.node found

pub returns-else-is_alike-clause-leaf : goal.returns-else-is_alike-clause-leaf
returns-else-is_alike-clause-leaf c =
    let tree = c.args.tree.now in
    let lists : List (List Waiting) = map (λ q. q.items) c.self.inside.queues.items in
    let waiting : List Waiting = by_arrival (all_of lists) in
    let all : All (λ w. w.leaf.number < c.leaves.result) waiting = rw (c.leaves.ensures.leaves, c.self.view_is) c.requires.on in
    let heads : (leaf : ℕ) → leaf < 64 → slice_get c.heads_of-heads.result leaf ≡ Some (option_map (λ w. w.message.arrival) (slice_get (get_or lists leaf []) 0)) = rw c.deref.ensures.value at c.heads_of-heads.ensures in
    ap (option_map (λ leaf. leaf.number)) c.next.ensures.leaf
    ∙ (chosen_by_heads tree waiting c.args.node c.heads_of-heads.result c.leaves.result (heads_are lists waiting c.heads_of-heads.result c.self.invariant.leaves heads) c.leaves.ensures.few all
    ∙ ap (λ w. chosen_leaf tree w c.args.node) c.self.view_is)
