use Rattle.std.proofs.Common.{◌≡◌, ℕ, ◌<◌, ◌≤◌, List, [], length, get_or, map, refl, sym, ap, subst, ◌∙◌, arith}
use Rattle.std.specs.List.{All}
use Rattle.std.proofs.lemmas.List.{get_or-map, length-map}
use Rattle.com_tree.specs.declared.tree.TreeRow.{TreeRow}
use Rattle.com_recv.specs.declared.lists.Waiting.{Waiting}
use Rattle.com_recv.specs.inner.Queued.{all_of, by_arrival, AreQueuesOf, AreKeptOf, AreQueued}
use Rattle.com_recv.proofs.Changing.{queued_of, kept_none, all_empty, all_items}
use Rattle.com_recv.proofs.Queued.{ordered}
use Rattle.com_recv.proofs.leaf_queues.LeafQueues.new.Goals as goal

pub invariant_of-result : goal.invariant_of-result
invariant_of-result c =
    let queues = c.in_ok-empty_queues.field-0.items in
    let lists : List (List Waiting) = map (λ q. q.items) queues in
    let are : AreQueuesOf lists [] = all_empty lists (length-map queues (λ q. q.items) ∙ c.in_ok-empty_queues.ensures.size) (all_items (λ q. q.items) queues c.in_ok-empty_queues.ensures.empty) in
    let kept : AreKeptOf c.args.tree.now c.in_ok-new.field-0 c.in_ok-new-2.field-0 [] = kept_none c.args.tree.now c.in_ok-new.field-0 c.in_ok-new-2.field-0 c.in_ok-new.ensures.heads c.in_ok-new.ensures.numbers c.in_ok-new-2.ensures in
    subst (λ t. AreQueued t lists c.in_ok-new.field-0 c.in_ok-new-2.field-0 0) (sym c.in_ok-copy.ensures) (queued_of c.args.tree.now lists [] c.in_ok-new.field-0 c.in_ok-new-2.field-0 0 are kept refl)

pub returns : goal.returns
returns c =
    let queues = c.in_ok-empty_queues.field-0.items in
    let lists : List (List Waiting) = map (λ q. q.items) queues in
    ordered lists [] (all_empty lists (length-map queues (λ q. q.items) ∙ c.in_ok-empty_queues.ensures.size) (all_items (λ q. q.items) queues c.in_ok-empty_queues.ensures.empty))
