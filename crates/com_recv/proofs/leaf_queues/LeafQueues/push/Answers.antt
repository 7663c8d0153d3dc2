use Rattle.std.proofs.Common.{◌≡◌, ℕ, suc, ◌+◌, ◌<◌, ◌≤◌, List, [], ◌∷◌, ◌++◌, length, get_or, set, map, refl, sym, ap, subst, ◌∙◌, arith, length-append}
use Rattle.std.specs.List.{All}
use Rattle.std.proofs.Math.Seq.{map-set_same}
use Rattle.std.proofs.lemmas.List.{get_or-map, length-map, map-set}
use Rattle.std.proofs.lemmas.List.Sums.{count_by-le-length}
use Rattle.com_tree.specs.NextLeaf.{node_at}
use Rattle.com_tree.proofs.OverLeaf.{same_read}
use Rattle.com_recv.specs.declared.lists.Waiting.{Waiting}
use Rattle.com_recv.specs.Incoming.{IsEarlier, is_under}
use Rattle.com_recv.specs.inner.Queued.{all_of, by_arrival, AreQueuesOf, AreQueued}
use Rattle.com_recv.proofs.Changing.{come_queue, queued_of, first_there, gives_up}
use Rattle.com_recv.proofs.Queued.{ordered}
use Rattle.com_recv.proofs.leaf_queues.LeafQueues.push.Goals as goal

pub invariant_of-self : goal.invariant_of-self
invariant_of-self c =
    let inside = c.self.inside in
    let queues = inside.queues.items in
    let same = map-set_same (λ q. q.items) queues c.args.leaf.number c.push_back.new.queue c.index_mut.result.now (c.in_err-push_back.ensures.err ∙ ap (λ q. q.items) c.index_mut.ensures.value) in
    subst (λ l. AreQueued inside.tree l inside.heads inside.counts inside.total) (sym same) c.self.invariant

pub returns-in_err-push_back-clause-err : goal.returns-in_err-push_back-clause-err
returns-in_err-push_back-clause-err c =
    let same = map-set_same (λ q. q.items) c.self.inside.queues.items c.args.leaf.number c.push_back.new.queue c.index_mut.result.now (c.in_err-push_back.ensures.err ∙ ap (λ q. q.items) c.index_mut.ensures.value) in
    gives_up c.from_residual.result _ (ap (λ l. by_arrival (all_of l)) same ∙ c.self.view_is)

pub note_come-requires-clause-room : goal.note_come-requires-clause-room
note_come-requires-clause-room c = λ k d within.
    let inside = c.self.inside in
    let waiting : List Waiting = by_arrival (all_of (map (λ q. q.items) inside.queues.items)) in
    let kept = c.self.invariant.kept in
    let read : get_or inside.counts k d ≡ get_or inside.counts k 0 = same_read inside.counts k d 0 within in
    omega (arith, read, kept.under k (omega (arith, within, kept.size)), count_by-le-length (λ (w : Waiting). is_under inside.tree (node_at k) w.leaf.number) waiting, c.self.invariant.all, c.if-self-ge18446744073709551615.false)

-- the queue of the leaf
queue_at : (c : goal.After-note_come) → get_or (map (λ q. q.items) c.self.inside.queues.items) c.args.leaf.number [] ≡ c.index_mut.result.now.items
queue_at c =
    let queues = c.self.inside.queues.items in
    let own = c.args.leaf.number in
    let within : own < length queues = omega (arith, c.requires.leaf, c.self.invariant.leaves.size, length-map queues (λ q. q.items)) in
    get_or-map (λ q. q.items) queues own c.index_mut.result.now [] within ∙ ap (λ q. q.items) (sym c.index_mut.ensures.value)

-- the queues with the message
written : (c : goal.After-note_come) → let w : Waiting = record { leaf = c.args.leaf; message = c.args.message } in let lists : List (List Waiting) = map (λ q. q.items) c.self.inside.queues.items in
    map (λ q. q.items) (set c.self.inside.queues.items w.leaf.number c.push_back.new.queue) ≡ set lists w.leaf.number (get_or lists w.leaf.number [] ++ w ∷ [])
written c =
    let w : Waiting = record { leaf = c.args.leaf; message = c.args.message } in
    let queues = c.self.inside.queues.items in
    let lists : List (List Waiting) = map (λ q. q.items) queues in
    map-set (λ q. q.items) queues w.leaf.number c.push_back.new.queue ∙ ap (set lists w.leaf.number) (c.in_ok-push_back.ensures.ok ∙ ap (λ (x : List Waiting). x ++ w ∷ []) (sym (queue_at c)))

-- they are those of what waits then
are_all : (c : goal.After-note_come) → let w : Waiting = record { leaf = c.args.leaf; message = c.args.message } in let lists : List (List Waiting) = map (λ q. q.items) c.self.inside.queues.items in
    AreQueuesOf (set lists w.leaf.number (get_or lists w.leaf.number [] ++ w ∷ [])) (by_arrival (all_of lists) ++ w ∷ [])
are_all c =
    let w : Waiting = record { leaf = c.args.leaf; message = c.args.message } in
    let lists : List (List Waiting) = map (λ q. q.items) c.self.inside.queues.items in
    let later : All (λ v. IsEarlier v w) (by_arrival (all_of lists)) = rw c.self.view_is c.requires.later in
    come_queue lists (by_arrival (all_of lists)) w c.self.invariant.leaves c.requires.leaf later

pub invariant_of-self-2 : goal.invariant_of-self-2
invariant_of-self-2 c =
    let inside = c.self.inside in
    let w : Waiting = record { leaf = c.args.leaf; message = c.args.message } in
    let lists : List (List Waiting) = map (λ q. q.items) inside.queues.items in
    let waiting : List Waiting = by_arrival (all_of lists) in
    let own = w.leaf.number in
    let within : own < length inside.queues.items = omega (arith, c.requires.leaf, c.self.invariant.leaves.size, length-map inside.queues.items (λ q. q.items)) in
    let read : get_or lists own [] ≡ c.index.result.now.items = get_or-map (λ q. q.items) inside.queues.items own c.index.result.now [] within ∙ ap (λ q. q.items) (sym c.index.ensures) in
    let first = first_there lists waiting own c.index.result.now.items c.is_empty-is_first.result c.self.invariant.leaves c.requires.leaf read c.is_empty-is_first.ensures in
    let kept = c.note_come.ensures waiting w refl refl first c.self.invariant.kept in
    subst (λ l. AreQueued inside.tree l c.note_come.new.heads c.note_come.new.counts (inside.total + 1)) (sym (written c))
    (queued_of inside.tree (set lists own (get_or lists own [] ++ w ∷ [])) (waiting ++ w ∷ []) c.note_come.new.heads c.note_come.new.counts (inside.total + 1) (are_all c) kept
    (omega (arith, c.self.invariant.all, length-append waiting (w ∷ []))))

pub returns-clause-ok : goal.returns-clause-ok
returns-clause-ok c =
    let w : Waiting = record { leaf = c.args.leaf; message = c.args.message } in
    let lists : List (List Waiting) = map (λ q. q.items) c.self.inside.queues.items in
    ap (λ l. by_arrival (all_of l)) (written c)
    ∙ (ordered (set lists w.leaf.number (get_or lists w.leaf.number [] ++ w ∷ [])) (by_arrival (all_of lists) ++ w ∷ []) (are_all c) ∙ ap (λ (x : List Waiting). x ++ w ∷ []) c.self.view_is)
