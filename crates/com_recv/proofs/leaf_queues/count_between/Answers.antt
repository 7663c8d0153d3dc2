use Rattle.std.proofs.Common.{◌≡◌, ℕ, ◌+◌, ◌<◌, ◌≤◌, List, [], length, map, get_or, sym, ap, ◌∙◌, arith}
use Rattle.std.specs.Prelude.{count_by}
use Rattle.std.specs.List.{filter}
use Rattle.std.proofs.lemmas.List.{get_or-map, length-map}
use Rattle.std.proofs.lemmas.List.Sums.{count_by-le-length}
use Rattle.com_recv.specs.declared.lists.Waiting.{Waiting}
use Rattle.com_recv.specs.Incoming.{is_on}
use Rattle.com_recv.specs.inner.Queued.{AreQueuesOf}
use Rattle.com_recv.proofs.Kept.{is_between, none_between, one_leaf_more}
use Rattle.com_recv.proofs.leaf_queues.count_between.Goals.{After-len-count}
use Rattle.com_recv.proofs.leaf_queues.count_between.Goals as goal

pub loop-leaf-init : goal.loop-leaf-init
loop-leaf-init c = λ waiting are. none_between c.args.first waiting

-- the messages of one leaf more
one_more : (c : After-len-count) (waiting : List Waiting) → AreQueuesOf (map (λ queue. queue.items) c.args.queues.now) waiting → c.loop-leaf.count + c.len-count.result ≡ count_by (is_between c.args.first (c.loop-leaf.leaf + 1)) waiting
one_more c waiting are =
    let queue = c.index-queues-leaf.result in
    let leaf = c.loop-leaf.leaf in
    let small : leaf < 64 = omega (arith, c.loop-leaf-test.true, c.requires.order.1) in
    let within : leaf < length c.args.queues.now = omega (arith, small, are.size, length-map c.args.queues.now (λ q. q.items)) in
    let here : queue.items ≡ filter (is_on leaf) waiting = ap (λ q. q.items) c.index-queues-leaf.is ∙ (sym (get_or-map (λ q. q.items) c.args.queues.now leaf queue [] within) ∙ are.each leaf small) in
    let size : c.len-count.result ≡ length queue.items = c.len-count.ensures in
    omega (arith, one_leaf_more c.args.first leaf waiting c.loop-leaf.auto.leaf, c.loop-leaf.invariant waiting are, size, ap length here)

pub overflow_add-count : goal.overflow_add-count
overflow_add-count c =
    let waiting = c.requires.few.0 in
    omega (arith, one_more c waiting c.requires.few.2, c.requires.few.1, count_by-le-length (is_between c.args.first (c.loop-leaf.leaf + 1)) waiting)

pub loop-leaf-preserved : goal.loop-leaf-preserved
loop-leaf-preserved c = λ waiting are. one_more c waiting are

pub returns : goal.returns
returns c = λ waiting are.
    let same : c.loop-leaf.leaf ≡ c.args.past = omega (arith, c.loop-leaf-test.false, c.loop-leaf.auto.leaf-end c.requires.order.0) in
    c.loop-leaf.invariant waiting are ∙ ap (λ past. count_by (is_between c.args.first past) waiting) same
