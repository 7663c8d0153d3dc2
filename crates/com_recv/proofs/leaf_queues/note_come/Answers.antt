use Rattle.std.proofs.Common.{◌≡◌, ◌<◌, ◌≤◌, ℕ, true, false, Some, None, set, sym, ap, ◌∙◌, arith, not}
use Rattle.std.specs.Prelude.{is_some}
use Rattle.com_tree.specs.Written.{leaf_count}
use Rattle.com_tree.specs.UnderNodes.{IsOneMore}
use Rattle.com_recv.specs.Incoming.{first_number}
use Rattle.com_recv.proofs.Kept.{come, first_set, number_stays, come_beyond}
use Rattle.com_recv.proofs.Places.{no_number}
use Rattle.com_recv.proofs.leaf_queues.note_come.Goals as goal

pub returns-then-leaf-leaves : goal.returns-then-leaf-leaves
returns-then-leaf-leaves c = λ waiting w on at first are.
    let number : w.leaf.number ≡ c.args.leaf.number = ap (λ l. l.number) on in
    come_beyond c.args.tree.now c.args.heads.now c.args.counts.now waiting w are (omega (arith, number, c.if-leaf-leaves.true, c.leaves.ensures.leaves))

pub returns-then-is_first : goal.returns-then-is_first
returns-then-is_first c = λ waiting w on at first are.
    let tree = c.args.tree.now in
    let heads = c.args.heads.now in
    let number : w.leaf.number ≡ c.args.leaf.number = ap (λ l. l.number) on in
    let inside : w.leaf.number < leaf_count tree = omega (arith, number, c.if-leaf-leaves.false, c.leaves.ensures.leaves) in
    let is : c.set.new.self.numbers ≡ set heads.numbers w.leaf.number (Some w.message.arrival) = rw (number, at) c.set.ensures.numbers in
    let none : first_number waiting w.leaf.number ≡ None = rw number (no_number (first_number waiting c.args.leaf.number) (first ∙ ap not c.if-is_first.true)) in
    let more : IsOneMore tree w.leaf.number c.args.counts.now c.add.new.self = rw number c.add.ensures in
    come tree heads c.set.new.self c.args.counts.now c.add.new.self waiting w are c.set.ensures.heads (first_set tree heads c.args.counts.now c.set.new.self.numbers waiting w are inside is none) more

pub returns-else-is_first : goal.returns-else-is_first
returns-else-is_first c = λ waiting w on at first are.
    let tree = c.args.tree.now in
    let heads = c.args.heads.now in
    let number : w.leaf.number ≡ c.args.leaf.number = ap (λ l. l.number) on in
    let some : is_some (first_number waiting w.leaf.number) ≡ true = rw number (first ∙ ap not c.if-is_first.false) in
    let more : IsOneMore tree w.leaf.number c.args.counts.now c.add.new.self = rw number c.add.ensures in
    come tree heads heads c.args.counts.now c.add.new.self waiting w are are.of_tree (number_stays tree heads c.args.counts.now waiting w are some) more
