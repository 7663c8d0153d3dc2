use Rattle.std.proofs.Common.{◌≡◌, ℕ, suc, ◌+◌, ◌-◌, ◌<◌, ◌≤◌, true, List, [], ◌∷◌, length, get_or, set, map, drop, Some, refl, sym, ap, subst, ◌∙◌, arith}
use Rattle.std.specs.Prelude.{is_some, slice_get, option_map}
use Rattle.std.proofs.Math.Seq.{map-set_same}
use Rattle.std.proofs.lemmas.List.{get_or-map, get_or-set_same, length-map, map-set}
use Rattle.com_msg.specs.Portion.{take_portion}
use Rattle.com_recv.specs.declared.lists.Waiting.{Waiting}
use Rattle.com_recv.specs.Incoming.{first_on, without_first}
use Rattle.com_recv.specs.inner.Queued.{all_of, by_arrival, AreQueuesOf, AreQueued}
use Rattle.com_recv.proofs.Changing.{gone_queue, gone_length, queued_of, first_message, next_number, gives_up}
use Rattle.com_recv.proofs.Kept.{some_over}
use Rattle.com_recv.proofs.Queued.{ordered}
use Rattle.com_recv.proofs.leaf_queues.LeafQueues.take_first.Goals as goal

pub take_of_first-requires-clause-some : goal.take_of_first-requires-clause-some
take_of_first-requires-clause-some c =
    let queues = c.self.inside.queues.items in
    let lists : List (List Waiting) = map (λ q. q.items) queues in
    let waiting : List Waiting = by_arrival (all_of lists) in
    let own = c.args.leaf.number in
    let within : own < length queues = omega (arith, c.requires.leaf, c.self.invariant.leaves.size, length-map queues (λ q. q.items)) in
    let read : get_or lists own [] ≡ c.index_mut.result.now.items = get_or-map (λ q. q.items) queues own c.index_mut.result.now [] within ∙ ap (λ q. q.items) (sym c.index_mut.ensures.value) in
    let some = c.requires.some in
    let first : first_on waiting own ≡ Some some.0 = rw c.self.view_is some.1 in
    let w = first_message lists waiting own c.index_mut.result.now.items some.0 c.self.invariant.leaves c.requires.leaf read first in
    (w.0, w.1, rw w.2 some.2)

pub invariant_of-self : goal.invariant_of-self
invariant_of-self c =
    let inside = c.self.inside in
    let same = map-set_same (λ q. q.items) inside.queues.items c.args.leaf.number c.take_of_first.new.queue c.index_mut.result.now (c.in_err-taken.ensures.err ∙ ap (λ q. q.items) c.index_mut.ensures.value) in
    subst (λ l. AreQueued inside.tree l inside.heads inside.counts inside.total) (sym same) c.self.invariant

pub returns-in_err-taken-clause-err : goal.returns-in_err-taken-clause-err
returns-in_err-taken-clause-err c =
    let same = map-set_same (λ q. q.items) c.self.inside.queues.items c.args.leaf.number c.take_of_first.new.queue c.index_mut.result.now (c.in_err-taken.ensures.err ∙ ap (λ q. q.items) c.index_mut.ensures.value) in
    gives_up c.from_residual.result _ (ap (λ l. by_arrival (all_of l)) same ∙ c.self.view_is)

pub note_gone-requires-clause-some : goal.note_gone-requires-clause-some
note_gone-requires-clause-some c =
    let inside = c.self.inside in
    let waiting : List Waiting = by_arrival (all_of (map (λ q. q.items) inside.queues.items)) in
    let first : first_on waiting c.args.leaf.number ≡ Some c.requires.some.0 = rw c.self.view_is c.requires.some.1 in
    some_over inside.tree inside.heads inside.counts waiting c.args.leaf.number c.self.invariant.kept (ap is_some first)

-- where the queue of the leaf is
inside_it : (c : goal.After-note_gone) → c.args.leaf.number < length c.self.inside.queues.items
inside_it c = omega (arith, c.requires.leaf, c.self.invariant.leaves.size, length-map c.self.inside.queues.items (λ q. q.items))

-- the queue of the leaf
queue_at : (c : goal.After-note_gone) → get_or (map (λ q. q.items) c.self.inside.queues.items) c.args.leaf.number [] ≡ c.index_mut.result.now.items
queue_at c = get_or-map (λ q. q.items) c.self.inside.queues.items c.args.leaf.number c.index_mut.result.now [] (inside_it c) ∙ ap (λ q. q.items) (sym c.index_mut.ensures.value)

-- there is a first message
some_there : (c : goal.After-note_gone) → is_some (first_on (by_arrival (all_of (map (λ q. q.items) c.self.inside.queues.items))) c.args.leaf.number) ≡ true
some_there c =
    let waiting : List Waiting = by_arrival (all_of (map (λ q. q.items) c.self.inside.queues.items)) in
    let first : first_on waiting c.args.leaf.number ≡ Some c.requires.some.0 = rw c.self.view_is c.requires.some.1 in
    ap is_some first

-- the queues without it
written : (c : goal.After-note_gone) → let own = c.args.leaf.number in let lists : List (List Waiting) = map (λ q. q.items) c.self.inside.queues.items in
    map (λ q. q.items) (set c.self.inside.queues.items own c.take_of_first.new.queue) ≡ set lists own (drop 1 (get_or lists own []))
written c =
    let own = c.args.leaf.number in
    let queues = c.self.inside.queues.items in
    let lists : List (List Waiting) = map (λ q. q.items) queues in
    map-set (λ q. q.items) queues own c.take_of_first.new.queue ∙ ap (set lists own) (c.in_ok-taken.ensures.left ∙ ap (drop 1) (sym (queue_at c)))

-- they are those of what waits then
are_all : (c : goal.After-note_gone) → let own = c.args.leaf.number in let lists : List (List Waiting) = map (λ q. q.items) c.self.inside.queues.items in
    AreQueuesOf (set lists own (drop 1 (get_or lists own []))) (without_first own (by_arrival (all_of lists)))
are_all c =
    let lists : List (List Waiting) = map (λ q. q.items) c.self.inside.queues.items in
    gone_queue lists (by_arrival (all_of lists)) c.args.leaf.number c.self.invariant.leaves c.requires.leaf (some_there c)

pub invariant_of-self-2 : goal.invariant_of-self-2
invariant_of-self-2 c =
    let inside = c.self.inside in
    let queues = inside.queues.items in
    let lists : List (List Waiting) = map (λ q. q.items) queues in
    let waiting : List Waiting = by_arrival (all_of lists) in
    let own = c.args.leaf.number in
    let left = c.take_of_first.new.queue in
    let there : c.index.result.now ≡ left = c.index.ensures ∙ get_or-set_same queues own left c.index.result.now (inside_it c) in
    let next = c.first_of-first.ensures ∙ (ap (λ q. option_map (λ (w : Waiting). w.message.arrival) (slice_get q.items 0)) there
    ∙ next_number lists waiting own c.index_mut.result.now.items left.items c.self.invariant.leaves c.requires.leaf (queue_at c) c.in_ok-taken.ensures.left) in
    let kept = c.note_gone.ensures waiting next (some_there c) c.self.invariant.kept in
    subst (λ l. AreQueued inside.tree l c.note_gone.new.heads c.note_gone.new.counts (inside.total - 1)) (sym (written c))
    (queued_of inside.tree (set lists own (drop 1 (get_or lists own []))) (without_first own waiting) c.note_gone.new.heads c.note_gone.new.counts (inside.total - 1) (are_all c) kept
    (omega (arith, c.self.invariant.all, gone_length waiting own (some_there c))))

pub returns-clause-taken : goal.returns-clause-taken
returns-clause-taken c = λ message is.
    let lists : List (List Waiting) = map (λ q. q.items) c.self.inside.queues.items in
    let waiting : List Waiting = by_arrival (all_of lists) in
    let own = c.args.leaf.number in
    let first : first_on waiting own ≡ Some message = rw c.self.view_is is in
    let w = first_message lists waiting own c.index_mut.result.now.items message c.self.invariant.leaves c.requires.leaf (queue_at c) first in
    c.in_ok-taken.ensures.taken w.0 w.1 ∙ ap (take_portion c.args.kind c.args.size) w.2

pub returns-clause-gone : goal.returns-clause-gone
returns-clause-gone c =
    let own = c.args.leaf.number in
    let lists : List (List Waiting) = map (λ q. q.items) c.self.inside.queues.items in
    ap (λ l. by_arrival (all_of l)) (written c)
    ∙ (ordered (set lists own (drop 1 (get_or lists own []))) (without_first own (by_arrival (all_of lists))) (are_all c) ∙ ap (without_first own) c.self.view_is)
